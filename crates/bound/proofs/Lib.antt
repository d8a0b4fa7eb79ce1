-- Laws of polynomials, and the proofs of the bound.
pub mod Polynomial
pub mod GatePolynomial
pub mod Promises
pub mod Reached
pub mod DigitsAlone
