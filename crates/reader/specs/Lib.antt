-- Only serves contracts of functions inside and of the operations on tables: a head and a table that were read, as the code holds them.
pub mod HeadAnswer
pub mod Outline
