-- Only serves contracts of functions inside and of the search: step sizes as they are rated. What is best is in `offer`.
pub mod Rated
