-- Laws of writing the table of a card.
pub mod Prime
pub mod Orders
pub mod Adding
pub mod Scoring
pub mod Drawing
