-- Only serves contracts of functions inside and of those that have a table written: the conditions of a card as they are written, what ends the table,
-- and what is asked before a table is written and holds after it.
pub mod Conditions
pub mod Ending
pub mod Drawing
