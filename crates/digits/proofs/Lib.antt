-- Laws that other crates cite.
pub mod Number
pub mod Comparing
pub mod Encoding
pub mod Decoding
pub mod Promises
pub mod RefusalOrder
