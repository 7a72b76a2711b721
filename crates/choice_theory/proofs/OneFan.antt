-- Vertices that no split and no union has met have one fan.
pub mod Corner
pub mod Elsewhere
pub mod Leading
pub mod Meeting
pub mod Places
pub mod Steps
pub mod Unmet
