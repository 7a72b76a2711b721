-- Packs with a note.
-- Interface: Claims, which are claimed; Packing and Unpacking, which notes, measuring and service cite.
-- Assumes nothing.
pub mod Claims
pub mod Packing
pub mod Unpacking
