-- To be believed by a reader of the promises: what programs in Rust and C are told.
pub mod Told
