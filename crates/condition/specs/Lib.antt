-- Only serves contracts of functions inside: one condition, as the code holds it.
pub mod Condition
