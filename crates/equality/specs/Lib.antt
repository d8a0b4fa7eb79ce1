-- Only serves contracts of functions inside: one bit of the collected power, and an equality condition but for its last FLIP.
pub mod Collecting
pub mod Slots
