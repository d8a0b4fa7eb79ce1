-- Laws of one gate.
pub mod GateDepth
pub mod Constant
pub mod Record
