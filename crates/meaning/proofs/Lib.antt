-- In reading order.
-- what the definitions compute: every word's kind, the starred cases
pub mod Opened
pub mod Spelling
pub mod Cases
-- truth values and lists: elements, places in a list, lengths, order
pub mod Lists
pub mod Lengths
pub mod Sorted
-- refusal 3: texts of a grammar, one word, many words, the reading of a text
pub mod Texts
pub mod Left
pub mod Viable
pub mod Reading
-- expressions are kept as they group, no longer than their words, with their operands
pub mod Grouping
pub mod Kept
pub mod Pushed
-- what a load rests on
pub mod Accepted
-- names: those used are declared, where declarations come from, the names of a policy
pub mod Served
pub mod Declared
pub mod Listed
-- refusal 8: what a text without it rests on, and its parents, which run in no cycle
pub mod Agreed
pub mod Pigeons
pub mod Parents
-- demand 3: all clashes and the first, places that rise, names apart, rows and statements, refusal 9, the promise
pub mod Clashes
pub mod Smallest
pub mod Places
pub mod Apart
pub mod Rows
pub mod Nine
pub mod Masks
pub mod Judged
pub mod Asked
pub mod Typed
pub mod Never
-- sizes: what is counted bounds what a text says
pub mod Steps
pub mod Passed
pub mod Counted
pub mod Single
pub mod Limits
pub mod Own
pub mod Held
pub mod Counts
-- the shape of the statements of a text of the grammar
pub mod Seats
pub mod Walks
pub mod Forms
pub mod Shapes
pub mod Branches
-- the numbers of a policy are in their ranges
pub mod Aliased
pub mod Comparisons
pub mod Ranges
pub mod Ruled
pub mod InRange
-- of an accepted text: sizes, ancestors
pub mod Ancestors
