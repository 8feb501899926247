-- which way an `if` of a definition goes
pub mod Ways
-- the totals and what one statement counts: for whoever calls `count` word by word
pub mod Room
