-- A builder's state read as the core's, and given back.
pub mod Alike
pub mod Closing
pub mod Current
pub mod Flags
pub mod Lifting
pub mod Records
pub mod Rings
pub mod Sound
pub mod Trails
pub mod Walked
pub mod Walks
