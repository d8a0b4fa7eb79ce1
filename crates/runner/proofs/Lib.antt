-- Laws of Run.
pub mod Signed
pub mod Value
pub mod Running
