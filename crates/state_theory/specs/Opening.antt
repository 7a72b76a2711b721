-- The test of 21, as the code makes it.
pub mod Front
pub mod Marks
