pub mod BodyLemmas
pub mod DeterminedLemmas
pub mod LettingLemmas
pub mod NewsLemmas
pub mod ParkLemmas
