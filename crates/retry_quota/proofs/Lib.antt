pub mod BookLemmas
pub mod CallLemmas
mod CallerLemmas
mod PlaceLemmas
mod RegisterLemmas
mod TableLemmas
