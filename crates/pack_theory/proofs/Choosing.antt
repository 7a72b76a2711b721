-- The packer's choice of a place, in the memory.
pub mod Fuel
pub mod Operation
pub mod Seeking
pub mod Turning
pub mod Unbuilt
