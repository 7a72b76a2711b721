pub mod Bools
pub mod Counts
pub mod Ranges
pub mod Triangles
