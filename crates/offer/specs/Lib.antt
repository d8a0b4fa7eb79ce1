-- To be believed by a reader of the promises: the best step size, what a call within a depth cap leaves, and what is proved of it.
pub mod Best
pub mod Digits
pub mod Offer
pub mod Promises
