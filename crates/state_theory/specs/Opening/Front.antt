-- The core's state and memory, made from a builder's state and the flags of the places in its loops.
-- Assumes nothing.
use Rattle.std.specs.Prelude.{ℕ, zero, suc, ◌+◌, ◌*◌, ◌≤◌, ◌<◌, ◌&&◌, List, ◌≡◌, length, get_or, eqb, ltb}
use Rattle.rules.specs.declared.Builder.{Builder}
use Rattle.rules.specs.Limits.{max_places}
use Rattle.rules.specs.Count.{num}
use Rattle.cutborder.specs.declared.Front.{Front}
use Rattle.border_theory.specs.Memory.Layout.{at, stacked}

-- the stack of free places has k, those below i that are not marked in s; no record is changed
pub record FreedBelow (s m : List ℕ) (i k : ℕ) (m' : List ℕ) : Type 0 where
  pub stack : (x : ℕ) → stacked max_places m' k x ≡ num (ltb x i && eqb (get_or s x 0) 0)
  pub few : k ≤ i
  pub same : (j : ℕ) → j < 4 * max_places → at m' j ≡ at m j
  pub lengths : length m' ≡ length m

abbrev pub Freed : List ℕ → List ℕ → ℕ → List ℕ → Type 0
Freed s m k m' = FreedBelow s m max_places k m'

-- the first n loops of the builder wait in the memory; no record and no free place is changed
pub record Waited (b : Builder) (m : List ℕ) (n : ℕ) (m' : List ℕ) : Type 0 where
  pub places : (w : ℕ) → w < n → at m' (5 * max_places + 2 * w) ≡ get_or b.current w 0
  pub sizes : (w : ℕ) → w < n → at m' (5 * max_places + 2 * w + 1) ≡ get_or b.sizes w 0
  pub same : (j : ℕ) → j < 5 * max_places → at m' j ≡ at m j
  pub lengths : length m' ≡ length m

-- the number before position n; of none, 0
abbrev pub top_of : List ℕ → ℕ → ℕ
top_of xs zero = 0
top_of xs (suc n) = get_or xs n 0

-- the core's state, with k free places and a current loop of z places from e on
abbrev pub front_with : Builder → ℕ → ℕ → ℕ → Front
front_with b k e z = record {
  stated = b.stated;
  used = b.used;
  built = b.built;
  peaks = b.peaks;
  edges = b.edges;
  starts = b.starts;
  unions = b.unions;
  rims = b.rims;
  loops = record { live = b.live; current = e; size = z; free = k };
}

-- the current loop is the last of the live ones
abbrev pub front_of : Builder → ℕ → Front
front_of b k = front_with b k (top_of b.current b.live) (top_of b.sizes b.live)
