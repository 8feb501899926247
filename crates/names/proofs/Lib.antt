-- In reading order.
-- words: two compared, and the slot of one
pub mod Bytes
-- the first row with a name
pub mod First
-- the chains, the walk along one, and a name hung into one
pub mod Links
-- the numbers, for those who compare them
pub mod Laws
