pub mod Spans
pub mod Keys
