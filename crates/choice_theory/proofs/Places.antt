-- The places of the full loops: gaps, open and marked edges, what stays elsewhere, numbers.
pub mod Back
pub mod Below
pub mod Corners
pub mod Distinct
pub mod Elsewhere
pub mod Ends
pub mod Exists
pub mod Marked
pub mod Marking
pub mod Numbering
pub mod Onward
pub mod Renaming
pub mod Rings
pub mod Showing
pub mod Sites
pub mod Spots
pub mod Standing
