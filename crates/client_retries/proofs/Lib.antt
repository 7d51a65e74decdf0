pub mod Fronts
pub mod BucketStays
pub mod Lacking
