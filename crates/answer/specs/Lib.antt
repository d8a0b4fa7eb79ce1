-- To be believed by a reader of the promises: the number of each refusal, the outcomes, and the report on a table.
pub mod Numbers
pub mod Outcome
pub mod Report
pub mod Settled
