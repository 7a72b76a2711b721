-- The lent list of place records, and the plain memory that it is loaded into.
pub mod Clearing
pub mod Counting
pub mod Own
pub mod Reading
pub mod Settling
pub mod Stored
