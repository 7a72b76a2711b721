-- Looking for an open edge in the memory: first at the places where forward, backward and close would have it, then along the
-- loops.
-- Assumes nothing.
use Rattle.std.specs.Prelude.{ℕ, zero, suc, ◌+◌, ◌-◌, ◌*◌, ◌<◌, ◌≤◌, Bool, true, false, ◌&&◌, List, length, eqb, ltb}
use Rattle.rules.specs.declared.Operation.{Operation}
use Rattle.rules.specs.declared.Operation.TheVariants.{Forward, Backward, Split, Close, Union}
use Rattle.rules.specs.Limits.{max_places}
use Rattle.rules.specs.Ring.{Ring}
use Rattle.rules.specs.Choice.{Spot, nowhere, spot, size_of}
use Rattle.cutborder.specs.declared.Loops.{Loops}
use Rattle.border_theory.specs.Memory.Layout.{at, vertex_of, before_of, after_of, walked}
use Rattle.border_theory.specs.Memory.Decision.{is_open_at}
use Rattle.pack_theory.specs.Choosing.Seat.{Seat}
use Rattle.pack_theory.specs.Choosing.Seat.{Nowhere, At}

-- whether the open edge x→y starts at place p
unfoldable pub starts_at : List ℕ → ℕ → ℕ → ℕ → Bool
starts_at m p x y = is_open_at m p && eqb (vertex_of m p) x && eqb (vertex_of m (after_of m p)) y

-- how many places are gone by where it starts, from place p on, i of them before p; i + k if at none of the k places
unfoldable pub gone_by : List ℕ → ℕ → ℕ → ℕ → ℕ → ℕ → ℕ
gone_by m zero i p x y = i
gone_by m (suc k) i p x y = elim (starts_at m p x y) [ true ↦ i | false ↦ gone_by m k (suc i) (after_of m p) x y ]

-- in loop w, of k places, if fewer than these are gone by; else elsewhere
unfoldable pub seat_among : ℕ → ℕ → ℕ → Seat → Seat
seat_among w k i s = elim (ltb i k) [ true ↦ At w k i | false ↦ s ]

-- in the first j waiting loops, the latest first, which has number w
unfoldable pub waiting_seat : List ℕ → ℕ → ℕ → ℕ → ℕ → Seat
waiting_seat m zero w x y = Nowhere
waiting_seat m (suc j) w x y =
    let k = at m (5 * max_places + 2 * j + 1) in
    seat_among w k (gone_by m k 0 (at m (5 * max_places + 2 * j)) x y) (waiting_seat m j (suc w) x y)

-- along the current loop, then the waiting ones
unfoldable pub walked_seat : Loops → List ℕ → ℕ → ℕ → Seat
walked_seat l m x y = seat_among 0 l.size (gone_by m l.size 0 l.current x y) (waiting_seat m (l.live - 1) 1 x y)

-- first at the place after the current one, at the one before it, and at the one before that
unfoldable pub seat_in : Loops → List ℕ → ℕ → ℕ → Seat
seat_in l m x y =
    let k = l.size in
    let g = before_of m l.current in
    elim (starts_at m (after_of m l.current) x y) [
      | true ↦ At 0 k 1
      | false ↦ elim (starts_at m g x y) [
        | true ↦ At 0 k (k - 1)
        | false ↦ elim (starts_at m (before_of m g) x y) [ true ↦ At 0 k (k - 2) | false ↦ walked_seat l m x y ]
      ]
    ]

-- the same of the definition's answer
abbrev pub seat_of : List Ring → Spot → Seat
seat_of ls nowhere = Nowhere
seat_of ls (spot w i) = At w (size_of ls w) i

-- The operation for place i of loop w, where the current loop has k places: u tells whether the edge after f is open, v whether
-- the edge into e is.
unfoldable pub operation_by : ℕ → Bool → Bool → ℕ → ℕ → Operation
operation_by k u v zero i =
    elim (eqb k 3 && (u && v)) [
      | true ↦ Close
      | false ↦ elim (eqb i 2 && u) [ true ↦ Forward | false ↦ elim (eqb (i + 1) k && v) [ true ↦ Backward | false ↦ Split (i - 1) ] ]
    ]
operation_by k u v (suc w) i = Union (suc w) i

-- place p and the place after it are in the memory
abbrev pub Inside : List ℕ → ℕ → Type 0
Inside m p = (4 * p + 3 < length m) × (4 * after_of m p + 3 < length m)

-- the places that are looked at are in the memory
pub record Seekable (l : Loops) (m : List ℕ) : Type 0 where
  pub live : 1 ≤ l.live
  pub two : 2 ≤ l.size
  pub long : 5 * max_places + 2 * l.live ≤ length m
  pub after : Inside m (after_of m l.current)
  pub before : Inside m (before_of m l.current)
  pub second : Inside m (before_of m (before_of m l.current))
  pub ahead : (j : ℕ) → j < l.size → Inside m (walked m j l.current)
  pub waiting : (w : ℕ) → w + 2 ≤ l.live → (j : ℕ) → j < at m (5 * max_places + 2 * w + 1)
      → Inside m (walked m j (at m (5 * max_places + 2 * w)))
