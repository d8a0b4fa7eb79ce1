-- To be believed by a reader of the contracts of begin, add and finish: what the code's struct stands for, `state_is`. What a condition more makes of it
-- only serves contracts of functions inside.
pub mod State
