-- Only serves contracts of functions inside: lists of powers, from which the order constants are computed.
pub mod Constants
