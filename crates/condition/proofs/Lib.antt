-- Laws of writing one condition.
pub mod Relations
