-- The lent list of place records, and the plain memory that it is loaded into.
pub mod Changes
pub mod Lent
pub mod Notes
pub mod Plain
