-- Laws of counting.
pub mod Gates
pub mod Pairs
pub mod Marking
pub mod Linking
pub mod Walking
pub mod Counting
