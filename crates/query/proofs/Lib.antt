-- Laws that other crates cite.
pub mod BuildOrder
pub mod Building
pub mod Form
pub mod Reading
pub mod Plain
pub mod CardFacts
pub mod OverConditions
pub mod Whole
pub mod Score
mod Ending
pub mod AnyTests
pub mod BuiltCounted
pub mod Promises
pub mod ScorePromises
pub mod SharedPromises
