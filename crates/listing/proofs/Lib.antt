-- In reading order.
-- lists made from numbers, items and statements by their rows
pub mod Numbers
pub mod Entries
-- what is written and what is to come: one law for each kind of row
pub mod Whole
-- the answers of the functions that write
pub mod Forms
pub mod Steps
-- one turn of the loop over the words
pub mod Turn
