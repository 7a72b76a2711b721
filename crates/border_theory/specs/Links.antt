-- Loops of places as links.
pub mod Held
