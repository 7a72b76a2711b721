-- The run of a packing: its state, its steps, and its end.
pub mod Course
pub mod Doing
pub mod Done
pub mod Finish
pub mod Lent
pub mod Numbers
pub mod Order
pub mod Ran
pub mod Rooms
pub mod Steps
pub mod Taken
pub mod Writing
