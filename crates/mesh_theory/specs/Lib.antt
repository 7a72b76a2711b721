-- Triangle lists.
-- Interface: Chains, which the contracts of corners, mesh and chooser cite; Fans.Corner, which the claims of roundtrip cite, and Fans.Ways,
-- which choice_theory cites; Fans.Passing and Fans.Finding, by which the theorems on the seven tests and on the look-up are stated.
-- Assumes nothing.
pub mod Chains
pub mod Fans
