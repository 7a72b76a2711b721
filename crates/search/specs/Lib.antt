-- The search alone.
-- Interface: Searching, which the contracts cite.
-- Assumes nothing.
pub mod Searching
