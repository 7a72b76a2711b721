pub mod Bench
pub mod Examples
pub mod Log
pub mod Models
pub mod Places
pub mod Rows
pub mod States
