-- `Listed` is to be believed by a reader of the promises: the number or value of what the last-use list answers. `UsesIn` only serves contracts of functions inside.
pub mod Listed
pub mod UsesIn
