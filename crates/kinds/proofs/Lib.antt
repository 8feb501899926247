-- what an answer `unless` says of the number
pub mod Unless
