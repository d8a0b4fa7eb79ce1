-- Only serves contracts of functions inside: the nodes of L and E of each digit, as they are lent.
pub mod Listed
