-- Laws of order joining.
pub mod Halving
pub mod Joins
pub mod Parts
pub mod Depth
