-- What a rehearsal promises: a run of demand 3. All of it is the interface.
-- Assumes nothing.
pub mod Rehearsal
