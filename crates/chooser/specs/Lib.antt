-- What the contracts of this crate cite beside rules and pack_theory: it serves this crate alone.
-- Assumes nothing.
pub mod Ways
