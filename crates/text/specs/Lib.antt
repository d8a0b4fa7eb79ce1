-- `Text` is to be believed by a reader of the promises: numbers as text. `Putting` only serves contracts of functions inside.
pub mod Text
pub mod Putting
