-- What the service promises, and demand 3. All of it is the interface.
-- Assumes nothing.
pub mod BuildersBook
pub mod Promises
