-- To be believed by a reader of the promises: the cases that document 01 marks with *, as one table, and its first wrong turn.
pub mod Starred
