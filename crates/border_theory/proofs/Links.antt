-- Loops of places as links: one lemma for all surgery, and the table of operations on places.
pub mod After
pub mod Cut
pub mod Free
pub mod Loops
pub mod Named
pub mod Read
pub mod Relink
pub mod Stored
pub mod Stores
pub mod Surgery
