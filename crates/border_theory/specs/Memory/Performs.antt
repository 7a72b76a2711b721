-- What the functions that decide an operation and do it ask for.
-- Assumes nothing.
use Rattle.std.specs.Prelude.{ℕ, ◌+◌, ◌*◌, ◌≤◌, ◌<◌, List, ◌≡◌, length}
use Rattle.rules.specs.declared.Operation.{Operation}
use Rattle.rules.specs.declared.Operation.TheVariants.{New, Forward, Backward, Border, Split, Close, Union, Start}
use Rattle.rules.specs.Limits.{max_places, max_vertices}
use Rattle.cutborder.specs.declared.Loops.{Loops}
use Rattle.cutborder.specs.declared.Front.{Front}
use Rattle.cutborder.specs.declared.Plan.{Plan}
use Rattle.border_theory.specs.Memory.Near.{Near, Borders, Doubles, Starts}

-- an operation can be decided, where u is the next unused number
abbrev pub Proposable : ℕ → Loops → List ℕ → ℕ → Type 0
Proposable n l m u = ((l.live ≡ 0 → ⊥) → Near n l m) × (u ≤ max_vertices)

-- the operation can be done, where c is its plan's place
abbrev pub Performs : ℕ → Loops → List ℕ → ℕ → Operation → ℕ → Type 0
Performs n l m u New c = Near n l m × (1 ≤ l.free)
Performs n l m u Forward c = Near n l m
Performs n l m u Backward c = Near n l m
Performs n l m u Border c = Borders n l m
Performs n l m u (Split i) c =
    (Near n l m × Doubles n l m c) × ((i + 2 ≤ l.size) × (l.live < 65535) × (5 * n + 2 * (l.live + 1) ≤ length m))
Performs n l m u Close c = Near n l m
Performs n l m u (Union k j) c = (Near n l m × Doubles n l m c) × ((1 ≤ k) × (k + 1 ≤ l.live))
Performs n l m u Start c = Starts n l m × (u ≤ max_vertices)

-- the counts after it are numbers of 16 bits
pub record Counts16 (n : ℕ) (s : Front) (p : Plan) (l : Loops) : Type 0 where
  pub few : n ≤ max_places
  pub free : l.free ≤ n
  pub used : s.used + p.vertices < 65536
  pub built : s.built + 1 < 65536
  pub edges : s.edges + (p.pq + p.qr + p.rp) < 65536
  pub starts : s.starts + p.starts < 65536
  pub unions : s.unions + p.unions < 65536
