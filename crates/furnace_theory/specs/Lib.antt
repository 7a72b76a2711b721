-- The furnace's own reader.
-- Interface: Claims, which are claimed.
-- Assumes nothing.
pub mod Claims
