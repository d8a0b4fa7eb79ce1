-- Laws of writing order conditions.
pub mod Terms
pub mod Digit
pub mod Digits
pub mod Whole
