pub mod Noting
pub mod Stamping
pub mod Zeros
