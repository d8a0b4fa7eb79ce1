-- Only serves contracts of functions inside: the depth of one gate.
pub mod GateDepth
