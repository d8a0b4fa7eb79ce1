-- Laws of writing.
pub mod Writing
pub mod Gates
pub mod Leaves
