-- a computed test over a list, and what it says of each element
pub mod Entries
-- the entries of the table one by one, for `Transitions::new`
pub mod Edges
-- a grammar with a hole
pub mod Fill
-- the computed tests of states and table
pub mod Rows
-- what the states come to, for callers
pub mod Laws
-- what `step` owes at each return
pub mod Turn
