-- Laws that other crates cite.
pub mod Best
pub mod StepTables
pub mod NoOrder
pub mod Sizes
pub mod Promises
