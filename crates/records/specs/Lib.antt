-- Only serves contracts of functions inside: marks, kinds and heads, as the code holds them, what a record says its gate reads, and a table that was read.
pub mod Marks
pub mod Kind
pub mod Head
pub mod Operands
pub mod Read
