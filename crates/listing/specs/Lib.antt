-- To be believed by a reader of the promises: what the print program writes of a card. `Records` only serves contracts of functions inside.
pub mod Words
pub mod Lines
pub mod Listing
pub mod Records
pub mod Bench
pub mod Promises
