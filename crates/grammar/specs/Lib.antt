pub mod Table
pub mod States
pub mod Led
