-- Laws that other crates cite.
pub mod Levels
pub mod Parts
pub mod OrderParts
pub mod PieceValue
pub mod PieceDepth
pub mod PieceSome
pub mod PieceLevel
pub mod PieceFits
pub mod PieceSize
pub mod Squares
pub mod Digit
pub mod Promises
pub mod Tests
