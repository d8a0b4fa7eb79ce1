-- To be believed by a reader of the promises: the part of a lent table that is handed back. The rest only serves contracts: what is
-- handed back, as the code holds it. What has to be answered is in `offer`.
pub mod Handed
pub mod Promises
