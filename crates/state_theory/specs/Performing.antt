-- The building operation: what its core promises, and what the lent list holds after it.
pub mod Core
pub mod Noted
