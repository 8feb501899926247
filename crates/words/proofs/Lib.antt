-- In reading order.
-- for loops over the words of a text: where a scan stops, where a word lies, the words behind a place
pub mod Scanned
pub mod Located
pub mod Behind
-- bytes that read the same, and what holds of every number below a bound
pub mod Same
pub mod Counted
-- the answers of `mark_at`, `kind_of` and `word_at`
pub mod Marked
pub mod Recognised
pub mod Outcomes
