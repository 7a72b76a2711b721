-- Demand 2.
-- Interface: Claims and Enough, all of it, and Run, which Claims cites.
-- Assumes nothing.
pub mod Claims
pub mod Enough
pub mod Run
