-- To be believed by a reader of the promises: numbers as half-range digits, comparing them digit by digit, and what Encode and Decode answer.
pub mod Number
pub mod Comparing
pub mod Encoding
pub mod Decoding
pub mod Promises
pub mod RefusalOrder
