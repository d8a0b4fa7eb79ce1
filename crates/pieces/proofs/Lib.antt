-- Laws of writing the pieces of a step digit.
pub mod Coefficients
pub mod Sums
pub mod Terms
pub mod Pieces
