-- What the functions for C and Rust promise (Exported), and what their numbers mean (Given, Answered). All of it is the interface.
-- Assumes nothing.
pub mod Answered
pub mod Exported
pub mod Given
