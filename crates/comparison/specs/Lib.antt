-- To be believed by a reader of the promises: relations and conditions, digit tests, joining, and what is proved of the gates of one condition.
pub mod Relation
pub mod Condition
pub mod Bits
pub mod Difference
pub mod EqualityDigit
pub mod OrderDigit
pub mod Tests
pub mod Lawful
pub mod Digits
pub mod Joining
pub mod Writing
pub mod Formulas
pub mod DigitPromises
pub mod Promises
