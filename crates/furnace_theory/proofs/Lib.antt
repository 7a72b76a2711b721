pub mod Agree
pub mod Claims
pub mod Freely
