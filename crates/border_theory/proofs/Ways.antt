-- Laws over plain lists and numbers that the proofs of functions on a memory cite.
pub mod Stacking
