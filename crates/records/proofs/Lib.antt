-- Laws that other crates cite.
pub mod Records
pub mod KindRead
pub mod Operands
pub mod Entered
pub mod Read
