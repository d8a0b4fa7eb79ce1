-- Laws of building.
pub mod Building
