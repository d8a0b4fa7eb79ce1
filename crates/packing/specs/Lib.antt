-- To be believed by a reader of the promises: the build's state as words, and what is proved of them.
pub mod Words
pub mod Outputs
