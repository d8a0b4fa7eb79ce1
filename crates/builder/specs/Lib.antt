-- Only serves contracts of functions inside: the report on what was written. What Build has to answer is in `query`.
pub mod Report
