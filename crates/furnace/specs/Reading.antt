-- What the one function promises.
-- Assumes nothing.
use Rattle.std.specs.Prelude.{ℕ, List, ◌≡◌, ℤ}
use Rattle.rules.specs.Melted.{Melted}
use Rattle.rules.specs.Melted.{Six, Refused}
use Rattle.rules.specs.Furnace.{melt}
use Rattle.cells_theory.specs.Bytes.{Whole}

-- the answer as a number, and the lent number afterwards
abbrev pub number_of : Melted → ℕ
number_of (Six z) = 0
number_of (Refused k) = k

abbrev pub six_after : ℤ → Melted → ℤ
six_after before (Six z) = z
six_after before (Refused k) = before

-- any bytes are answered as the rules say; of the lent memory nothing is promised but that it has its bytes
pub record Reads (bytes : List ℕ) (six : ℤ) (n : ℕ) (six' : ℤ) (memory' : List ℕ) : Type 0 where
  pub number : n ≡ number_of (melt bytes)
  pub written : six' ≡ six_after six (melt bytes)
  pub free : Whole memory'
