-- A builder's state read as the core's, and given back.
pub mod Closing
pub mod Opens
