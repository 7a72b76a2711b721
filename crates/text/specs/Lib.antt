-- What the contracts of this crate cite: it serves this crate and the programs.
-- Assumes nothing.
pub mod Reads
