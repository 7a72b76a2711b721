-- Triangle lists: what the tests 1 to 7 say, fans, the look-up across an edge.
pub mod About
pub mod Accepted
pub mod Checks
pub mod Corners
pub mod Counting
pub mod Finding
pub mod Neighbours
pub mod Once
pub mod OneFan
pub mod OneRun
pub mod Only
pub mod Search
pub mod Tests
pub mod Turning
