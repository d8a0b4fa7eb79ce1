-- Laws of reading tables, which the operations on tables cite.
pub mod Depths
pub mod ReadGates
pub mod Outlines
