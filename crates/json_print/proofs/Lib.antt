pub mod Lines
pub mod Stopped
pub mod Depths
pub mod Readable
pub mod RowText
pub mod PlainLines
pub mod Transmits
