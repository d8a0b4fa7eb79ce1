-- The table of cases.
pub mod Starred
