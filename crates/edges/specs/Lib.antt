-- What the contracts of this crate cite beside rules: it serves this crate alone.
-- Assumes nothing.
pub mod Joined
