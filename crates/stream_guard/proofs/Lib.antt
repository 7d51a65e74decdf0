pub mod LogLemmas
pub mod RingLemmas
pub mod ShiftLemmas
