pub mod Asked
pub mod CacheCalls
pub mod PickedOnes
pub mod Lacking
