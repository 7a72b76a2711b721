pub mod Rooms
pub mod Wiring
