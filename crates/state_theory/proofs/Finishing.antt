-- The beginning and the finish; the fan test over any triangles.
pub mod Beginning
pub mod Fans
pub mod Finish
pub mod Lifting
pub mod Turning
