-- To be believed by a reader of the promises: what stands in a list, primes, (p-1)/2, how many values a byte has, arithmetic modulo p, logarithms, sums and lists of first values, and the two polynomials that test a digit.
-- `PowerSum` stands apart: no promise about cards rests on it; the bound on zero tests does.
pub mod Member
pub mod Primes
pub mod Half
pub mod Byte
pub mod Modular
pub mod Logarithm
pub mod Sum
pub mod FirstValues
pub mod Bit
pub mod Polynomials
pub mod Promises
pub mod PowerSum
