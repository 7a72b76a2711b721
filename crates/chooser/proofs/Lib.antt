pub mod Counting
pub mod Looking
pub mod Turning
