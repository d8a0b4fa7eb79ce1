-- Only serves contracts of functions inside: the gates of a table by their numbers, pairs of operands by the higher one, marks and stamps, and chains of MULs.
pub mod Gates
pub mod Pairs
pub mod Marks
pub mod Chains
pub mod Counts
