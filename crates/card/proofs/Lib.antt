-- Laws that the proofs of the functions share.
pub mod Records
pub mod Summary
pub mod ReadAs
pub mod Iteration
