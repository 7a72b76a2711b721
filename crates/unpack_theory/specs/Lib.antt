-- The run of an unpacking.
-- Interface, for the contracts of unpacker: Lent is what the core of unpacking promises; Runs what holds throughout; Rule, Met, Stepped and
-- Turn its parts.
-- Assumes nothing.
pub mod Lent
pub mod Met
pub mod Rule
pub mod Runs
pub mod Stepped
pub mod Turn
