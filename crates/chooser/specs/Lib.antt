-- Only serves contracts of functions inside and of those that have a step size chosen. What is best is in `offer`.
pub mod Kept
