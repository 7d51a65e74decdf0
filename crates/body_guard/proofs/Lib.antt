pub mod EventLemmas
pub mod LengthLemmas
pub mod RunLemmas
pub mod UploadLemmas
