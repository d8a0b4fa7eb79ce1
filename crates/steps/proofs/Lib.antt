-- Laws of writing the tests of a step digit.
pub mod Doublings
pub mod Squares
pub mod Sums
pub mod Digit
