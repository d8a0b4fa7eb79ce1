-- Laws of the factors of a product tree, and of writing the tree.
pub mod Factors
pub mod ProductTree
