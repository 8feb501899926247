pub mod Branches
pub mod Listed
pub mod Joined
pub mod Answers
