pub mod Concluding
pub mod Runs
pub mod Stepping
pub mod Weighing
