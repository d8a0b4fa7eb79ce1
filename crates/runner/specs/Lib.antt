-- `Ran` is to be believed by a reader of the promises: the number or value of what Run answers. `Running` only serves contracts of functions inside.
pub mod Ran
pub mod Running
