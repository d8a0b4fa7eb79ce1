-- Laws of writing equality conditions.
pub mod Chain
pub mod Depth
pub mod Digits
pub mod Joining
