pub mod HeadSizes
pub mod Among
pub mod EachNamed
