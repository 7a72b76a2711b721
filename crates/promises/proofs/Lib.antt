pub mod BuildersBook
pub mod Kept
pub mod OpenEdges
