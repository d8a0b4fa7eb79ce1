-- Laws of listings.
pub mod Records
pub mod Bench
pub mod Listed
pub mod LongCard
pub mod Lengths
pub mod Building
