-- Laws of the build's state as words.
pub mod Words
pub mod Steps
pub mod Over
