-- What each operation does to the memory and to the state of the loops, once it is decided. Each definition mirrors the function that does
-- it.
-- Assumes nothing.
use Rattle.std.specs.Prelude.{ℕ, ◌+◌, ◌-◌, ◌*◌, Bool, true, false, List, [], ◌∷◌, set, eqb, leb}
use Rattle.border_theory.specs.Links.Held.{arc}
use Rattle.cutborder.specs.declared.Loops.{Loops}
use Rattle.border_theory.specs.Memory.Layout.{at, vertex_of, before_of, after_of, open_of, edge_stored, edges_stored, freed, released}
use Rattle.border_theory.specs.Memory.Layout.{waits, moved_down}

-- the state of the loops and the memory
pub record Held : Type 0 where
  pub loops : Loops
  pub memory : List ℕ

abbrev pub held : ℕ → ℕ → ℕ → ℕ → List ℕ → Held
held l c k f m = record { loops = record { live = l; current = c; size = k; free = f }; memory = m }

-- the free place on top of the stack
abbrev pub top_free : ℕ → Loops → List ℕ → ℕ
top_free n s m = at m (4 * n + (s.free - 1))

unfoldable pub new_held : ℕ → Loops → List ℕ → ℕ → Held
new_held n s m u =
    let q = top_free n s m in
    let e = s.current in
    held s.live q (s.size + 1) (s.free - 1) (edges_stored (arc e q true ∷ (arc q (after_of m e) true ∷ [])) (set m (4 * q) u))

unfoldable pub forward_held : ℕ → Loops → List ℕ → Held
forward_held n s m =
    let e = s.current in
    let f = after_of m e in
    held s.live e (s.size - 1) (s.free + 1) (freed n (edges_stored (arc e (after_of m f) true ∷ []) m) s.free f)

unfoldable pub backward_held : ℕ → Loops → List ℕ → Held
backward_held n s m =
    let e = s.current in
    let c = before_of m e in
    held s.live c (s.size - 1) (s.free + 1) (freed n (edges_stored (arc c (after_of m e) true ∷ []) m) s.free e)

-- the current loop has ended: its places are freed, and the latest waiting loop goes on
abbrev pub ended_by : Bool → ℕ → Loops → List ℕ → Held
ended_by true n s m = held 0 0 0 (s.free + s.size) (released n m s.free s.size s.current)
ended_by false n s m =
    held (s.live - 1) (at m (5 * n + 2 * (s.live - 2))) (at m (5 * n + 2 * (s.live - 2) + 1)) (s.free + s.size)
    (released n m s.free s.size s.current)

unfoldable pub ended_held : ℕ → Loops → List ℕ → Held
ended_held n s m = ended_by (leb s.live 1) n s m

-- the edge is marked, and the loop goes on at the next place p if its edge is open; else it has ended
abbrev pub turned_by : Bool → ℕ → Loops → List ℕ → ℕ → Held
turned_by true n s m p = ended_held n s m
turned_by false n s m p = held s.live p s.size s.free m

unfoldable pub turned_held : ℕ → Loops → List ℕ → Held
turned_held n s m =
    let f = after_of m s.current in
    let m₁ = edges_stored (arc s.current f false ∷ []) m in
    turned_by (eqb (open_of m₁ f) 0) n s m₁ f

-- At a border the next place leaves if its edge is marked, and the current one if the edge before it is: the current edge, which lies
-- between, is marked too. They leave before it is marked, as at a forward and a backward.
abbrev pub cut_by : Bool → Held → Loops → List ℕ → Held
cut_by true h s m = h
cut_by false h s m = record { loops = s; memory = m }

unfoldable pub next_cut : ℕ → Loops → List ℕ → Held
next_cut n s m = cut_by (eqb (open_of m (after_of m s.current)) 0) (forward_held n s m) s m

unfoldable pub last_cut : ℕ → Loops → List ℕ → Held
last_cut n s m = cut_by (eqb (open_of m (before_of m s.current)) 0) (backward_held n s m) s m

abbrev pub both_cut : ℕ → Loops → List ℕ → Held
both_cut n s m = last_cut n (next_cut n s m).loops (next_cut n s m).memory

unfoldable pub marked_held : ℕ → Loops → List ℕ → Held
marked_held n s m = turned_held n (both_cut n s m).loops (both_cut n s m).memory

-- the place of c gets a second one, before f; the current edge leads to the first
unfoldable pub doubled : ℕ → Loops → List ℕ → ℕ → List ℕ
doubled n s m c =
    let q = top_free n s m in
    let l = before_of m c in
    edge_stored (edge_stored (edge_stored (set m (4 * q) (vertex_of m c)) s.current c 1) l q (open_of m l)) q (after_of m s.current) 1

-- two loops of i + 1 and k - i places: the shorter goes on, the other waits
abbrev pub split_by : Bool → ℕ → Loops → List ℕ → ℕ → ℕ → Held
split_by true n s m i q = held (s.live + 1) q (i + 1) (s.free - 1) (waits n m (s.live - 1) s.current (s.size - i))
split_by false n s m i q = held (s.live + 1) s.current (s.size - i) (s.free - 1) (waits n m (s.live - 1) q (i + 1))

unfoldable pub split_held : ℕ → Loops → List ℕ → ℕ → ℕ → Held
split_held n s m i c = split_by (leb (i + 1) (s.size - i)) n s (doubled n s m c) i (top_free n s m)

-- waiting loop p ends as one
unfoldable pub union_held : ℕ → Loops → List ℕ → ℕ → ℕ → Held
union_held n s m p c =
    let w = s.live - 1 - p in
    held (s.live - 1) (top_free n s m) (s.size + 1 + at m (5 * n + 2 * w + 1)) (s.free - 1) (moved_down n (doubled n s m c) w (p - 1))

unfoldable pub start_held : ℕ → Loops → List ℕ → ℕ → Held
start_held n s m u =
    let a = at m (4 * n + (s.free - 1)) in
    let b = at m (4 * n + (s.free - 2)) in
    let c = at m (4 * n + (s.free - 3)) in
    held 1 a 3 (s.free - 3)
    (edges_stored (arc a b true ∷ (arc b c true ∷ (arc c a true ∷ []))) (set (set (set m (4 * a) u) (4 * b) (u + 1)) (4 * c) (u + 2)))
