-- To be believed by a reader of the promises: the build's state, what begin, add and finish answer and leave, and what is proved of them.
pub mod State
pub mod Filling
pub mod Promises
pub mod FillingOrder
