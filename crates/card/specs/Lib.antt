-- Only serves contracts of functions inside: forms, records and cards, as the code holds them. What a card says is in `query`.
pub mod Parts
pub mod Conditions
pub mod Accepted
