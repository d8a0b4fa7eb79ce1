-- Laws of texts that are put into bytes.
pub mod Text
pub mod Putting
