-- A building that begins: every place is free, and no loop is live.
-- Assumes nothing.
use Rattle.std.specs.Prelude.{ℕ, zero, suc, ◌+◌, ◌*◌, List, set}
use Rattle.rules.specs.declared.Counts.{Counts}
use Rattle.cutborder.specs.declared.Loops.{Loops}
use Rattle.cutborder.specs.declared.Front.{Front}

-- the places below k put on the stack of free places
unfoldable pub all_free : ℕ → List ℕ → ℕ → List ℕ
all_free n m zero = m
all_free n m (suc k) = set (all_free n m k) (4 * n + k) k

abbrev pub no_loops : ℕ → Loops
no_loops n = record { live = 0; current = 0; size = 0; free = n }

-- the state of n places, with the counts stated
abbrev pub fresh_front : ℕ → Counts → Front
fresh_front n c = record {
  stated = c;
  used = 0;
  built = 0;
  peaks = record { places = 0; loops = 0 };
  edges = 0;
  starts = 0;
  unions = 0;
  rims = 0;
  loops = no_loops n;
}
