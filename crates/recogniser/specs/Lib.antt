pub mod Refusal
pub mod Turn
