-- To be believed by a reader of the promises: the order digit for a step size, and what is proved of it.
pub mod Coefficient
pub mod Powers
pub mod Pieces
pub mod Digit
pub mod Promises
