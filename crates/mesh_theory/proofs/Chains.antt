-- Corner chains: the look-up and the tests as the code makes them.
pub mod Checking
pub mod Fans
pub mod Finding
pub mod Leaving
pub mod Linking
pub mod Listing
pub mod Order
pub mod Prefix
pub mod Turning
pub mod Used
pub mod Walking
