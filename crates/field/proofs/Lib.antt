-- Laws that other crates cite.
pub mod Tests
pub mod Member
pub mod Primes
pub mod Modular
pub mod Bit
pub mod Sum
pub mod FirstValues
pub mod Logarithm
pub mod Euclid
pub mod Binomial
pub mod Fermat
pub mod PowerSum
pub mod Geometric
pub mod OrderConstants
pub mod Polynomials
