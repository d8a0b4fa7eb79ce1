-- Only serves contracts of functions inside: the factors of a product tree, as the code holds them.
pub mod Factors
