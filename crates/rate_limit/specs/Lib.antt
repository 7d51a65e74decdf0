pub mod Builder
pub mod CubeRoot
pub mod Curve
pub mod Pace
pub mod Steps
