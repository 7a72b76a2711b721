-- The beginning and the finish; the fan test over any triangles.
pub mod Core
pub mod Turning
