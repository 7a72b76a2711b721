-- Corner chains: the look-up and the tests as the code makes them.
pub mod Checks
pub mod Corner
pub mod Linked
pub mod Turn
