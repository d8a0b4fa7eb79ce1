-- To be believed by a reader of the promises: what a zero test is, how deep each has to be, and that ours is no deeper.
-- `Polynomial`, `GatePolynomial` and `PolynomialPromises` only say why.
pub mod ZeroTests
pub mod Promises
pub mod Reached
pub mod DigitsAlone
pub mod Polynomial
pub mod GatePolynomial
pub mod PolynomialPromises
