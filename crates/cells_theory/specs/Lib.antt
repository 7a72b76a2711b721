-- The memory of the furnace's own reader.
-- Interface, for the contracts of cells and melting: Bytes (the numbers that the bytes stand for).
-- Assumes nothing.
pub mod Bytes
