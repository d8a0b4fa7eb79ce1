-- Laws of a card filled in condition by condition.
pub mod Steps
pub mod Finishing
pub mod Adding
