pub mod Later
pub mod Reading
pub mod Told
pub mod Words
