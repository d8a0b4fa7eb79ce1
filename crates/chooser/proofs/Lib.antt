-- Laws that only the functions inside cite.
pub mod Keeping
pub mod CardRead
pub mod NoSearch
