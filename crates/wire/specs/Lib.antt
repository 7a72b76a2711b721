-- What the contracts of this crate cite beside rules and wire_theory.
-- Interface: Fields and Writer, which packer cites, Fields, Told and Reader, which the readers cite.
-- Assumes nothing.
pub mod Fields
pub mod Reader
pub mod Told
pub mod Writer
