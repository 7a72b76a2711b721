-- Where an open edge starts, and what an answer of the code stands for.
-- Assumes nothing.
use Rattle.std.specs.Prelude.{ℕ, Option, Some, None}
use Rattle.cutborder.specs.declared.Seat as found

-- the loop's number, 0 the current one, how many places that loop has, and how many places after the loop's first one
pub data Seat : Type 0 where
  Nowhere : Seat
  At : ℕ → ℕ → ℕ → Seat

abbrev pub seated_of : Option found.Seat → Seat
seated_of None = Nowhere
seated_of (Some s) = At s.number s.size s.index
