pub mod Model
pub mod Protocol
