-- The building operation: what its core promises, and what the lent list holds after it.
pub mod After
pub mod Back
pub mod Leaving
pub mod Lifting
pub mod Noting
pub mod Operating
pub mod Sound
pub mod Writing
