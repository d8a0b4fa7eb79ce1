-- Only serves contracts of functions inside: the depths of the powers, as they are lent, and what order digits go by.
pub mod Powers
pub mod Prepared
