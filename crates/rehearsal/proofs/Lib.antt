pub mod Laws
pub mod Meeting
