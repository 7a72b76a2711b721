-- The furnace's own reader, as it is called from C.
-- Interface: Reading, which the contract cites.
-- Assumes nothing.
pub mod Reading
