-- Grid positions and volumes.
-- Interface: Claims and Whole, which are claimed, Whole and Shorter, which positions_theory cites, Near, which the contracts of
-- determinants and positions cite; Axes serves the proofs.
-- Assumes nothing.
pub mod Axes
pub mod Claims
pub mod Near
pub mod Shorter
pub mod Whole
