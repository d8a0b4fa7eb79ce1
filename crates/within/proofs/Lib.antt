-- Laws of the two tables within a depth cap, and the proof of what is promised of the part handed back.
pub mod Tables
pub mod Choosing
pub mod Promises
