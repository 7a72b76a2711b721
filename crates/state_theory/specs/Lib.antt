-- A builder's state, and the core's.
-- Interface, for the contracts of state and builder: Reading.Opens and Reading.Closing (the way to the core and back), Opening (21, as the
-- code tests it), Performing.Core and Finishing.Core (what the cores of the building calls promise), Finishing.Turning. Performing.Noted
-- serves these.
-- Assumes nothing.
pub mod Finishing
pub mod Opening
pub mod Performing
pub mod Reading
