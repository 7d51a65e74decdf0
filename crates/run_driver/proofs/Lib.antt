pub mod DrivingLemmas
