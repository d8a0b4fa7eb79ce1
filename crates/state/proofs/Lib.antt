-- Laws of the build's state as the code holds it.
pub mod Deep
pub mod Open
