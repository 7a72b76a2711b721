-- What the cores of packing and unpacking with positions promise.
-- Interface: Packing and Unpacking, which positions and service cite, Filling, which positions cites.
-- Assumes nothing.
pub mod Filling
pub mod Packing
pub mod Unpacking
