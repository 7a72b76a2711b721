-- The run of the furnace's own reader.
-- Interface, for the contracts of melting: Runs (what holds throughout, how far a reading has come).
-- Assumes nothing.
pub mod Runs
