-- The packer's choice of a place, in the memory.
pub mod Choosable
pub mod Places
pub mod Seat
pub mod Seeking
pub mod Turning
