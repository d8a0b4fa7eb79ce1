-- To be believed by a reader of the promises: the number or value for each case of what Decode answers.
pub mod Answers
