-- Laws of the powers and their depths, and of the modulus.
pub mod Modulus
pub mod Powers
pub mod Constants
