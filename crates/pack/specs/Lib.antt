-- What the contracts of this program cite.
-- Assumes nothing.
pub mod Texts
