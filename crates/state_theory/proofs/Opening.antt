-- The test of 21, as the code makes it.
pub mod Marking
pub mod Passed
pub mod Rings
pub mod Tests
pub mod Walking
pub mod Writing
