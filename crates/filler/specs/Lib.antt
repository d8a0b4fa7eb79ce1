-- Only serves contracts of functions inside: what is asked where gates are added to a build. What begin, add and finish have to answer is in `filling`.
pub mod Steps
