-- The cut-border as links, in the plain memory, and as lent records.
-- Interface, for the contracts of places, cells, rings, border, edges, chooser, packer, unpacker, state and builder: Records (the lent list
-- and
-- the plain memory) and Memory (Layout, what is decided, what is done, what is touched). Memory.Keeps says what joins a memory to the
-- machine of the rules. `Decides` there, and `Tidy` and `Rearranged` in Memory.Touched, are claims that no contract cites. Links.Held
-- serves these.
-- Assumes nothing.
pub mod Links
pub mod Memory
pub mod Records
