-- Laws that other crates cite.
pub mod Laid
pub mod Filling
pub mod Steps
pub mod Filled
pub mod Promises
pub mod FillingOrder
pub mod Calls
