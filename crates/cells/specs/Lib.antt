-- Beside border_theory and cells_theory: that the memories have room.
-- Assumes nothing.
pub mod Fits
