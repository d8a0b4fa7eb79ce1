-- Only serves contracts of functions inside: what is asked of p, the pen and the writer, gates, and what a piece of a circuit leaves in the table and what remains of one, conditions on slots.
pub mod Modulus
pub mod Pen
pub mod Writing
pub mod Gates
pub mod Nodes
pub mod Leaves
pub mod Slots
