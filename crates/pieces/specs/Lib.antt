-- Only serves contracts of functions inside: sums as the code holds them, and what pieces ask of their numbers.
pub mod Sums
pub mod Sizes
