pub mod Running
pub mod Printing
pub mod Playing
pub mod Crosses
pub mod Closing
pub mod Stepping
pub mod Deciding
pub mod Telling
