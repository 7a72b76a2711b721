pub mod OneFan
pub mod Places
pub mod Runs
pub mod Steps
pub mod Turning
