-- Only serves contracts of functions inside: an order condition but for its last FLIP, and the list of its digits' tests.
pub mod Slots
pub mod TestsListed
