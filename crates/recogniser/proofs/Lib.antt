-- one word of the reading, and the words one after the other
pub mod Turns
pub mod Reached
-- for callers: what the answer says of the text, and of its load
pub mod Laws
