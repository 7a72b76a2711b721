-- Triangle lists: what the tests 1 to 7 say, fans, the look-up across an edge.
pub mod Corner
pub mod Finding
pub mod Passing
pub mod Search
pub mod Ways
