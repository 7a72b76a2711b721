-- The links in the plain memory: what an operation decides, does and touches there.
pub mod Decision
pub mod Finish
pub mod Fresh
pub mod Keeps
pub mod Layout
pub mod Moves
pub mod Near
pub mod Performs
pub mod Stands
pub mod Touched
