-- Laws of the order constants, as they are computed.
pub mod Reciprocal
pub mod Constants
pub mod Bits
