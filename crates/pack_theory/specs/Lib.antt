-- The run of a packing.
-- Interface, for the contracts of chooser and packer: Choosing (looking for a place in the memory) and Packing (the state, its steps, the
-- end). Packing.Lent is what the core of packing promises; Packing.Numbers and Packing.Writing serve the others.
-- Assumes nothing.
pub mod Choosing
pub mod Packing
