-- In reading order.
-- the bits of one number
pub mod Digits
-- the numbers that words hold, and what each operation does to them
pub mod Members
-- a set of a policy laid into words, and read back
pub mod Kept
-- the lowest number in two sets, and whether there is one
pub mod Common
-- what the loops leave, word by word, is what the contracts name
pub mod Loops
