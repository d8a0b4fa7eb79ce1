-- Only serves contracts of functions inside: what Forecast adds up. What Forecast has to answer is in `query`.
pub mod Counting
