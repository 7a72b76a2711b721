-- Turning about a vertex: links, the packer's look-ups, and the place that they lead to.
pub mod Choice
pub mod Core
pub mod Cuts
pub mod Dropping
pub mod Fans
pub mod Links
pub mod Spotting
pub mod Taking
pub mod Turn
pub mod Ways
