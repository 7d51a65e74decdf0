pub mod Keys
pub mod KeyCount
pub mod SpelledScripts
