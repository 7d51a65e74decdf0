pub mod Lawful
pub mod HeaderSet
pub mod QueryLemmas
pub mod CutLemmas
pub mod FormLemmas
pub mod TargetLemmas
pub mod YieldLemmas
