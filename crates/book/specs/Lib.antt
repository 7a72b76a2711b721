-- What holds of the loops and of the book after any list of calls.
-- Interface: Consistent, Sums, Numbers, Shown, Spaced, Bounded, which statements of other crates cite; Reached, Below and `Ranges` of
-- Consistent, which the theorems `Holds-after`, `edges_are_pairs`, `vertices_are_numbers` and `bounded_ranges` are stated by.
-- Assumes nothing.
pub mod Below
pub mod Bounded
pub mod Consistent
pub mod Numbers
pub mod Reached
pub mod Shown
pub mod Spaced
pub mod Sums
