-- Laws that other crates cite.
pub mod Numbers
pub mod Outcome
pub mod Lent
