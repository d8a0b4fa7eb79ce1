-- Laws that only the functions inside cite.
pub mod Counting
pub mod Rating
