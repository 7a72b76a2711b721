pub mod Links
pub mod Memory
pub mod Records
pub mod Ways
