-- Only serves contracts of functions inside: the relations, as the code names them.
pub mod Relations
