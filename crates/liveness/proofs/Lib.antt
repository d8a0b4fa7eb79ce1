-- Laws of the last-use list.
pub mod Entering
