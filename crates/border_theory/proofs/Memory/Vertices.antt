-- An operation gives a vertex to the places that it takes, and to no other.
-- Assumes nothing.
use Prim.Native.Nat.{ℕ, zero, suc, ◌+◌, ◌-◌, ◌*◌, ◌≤◌}
use native.Mathlib.Omega.{arith}
use mathlib.Core.Bool.{Bool, true, false}
use mathlib.Core.List.{List, [], ◌∷◌}
use mathlib.Core.Path.{◌≡◌, refl, ◌∙◌}
use lib.ListN.{set}
use lib.Dec.{eqb, leb}
use lib.Seq.{get_or-set_other}
use Rattle.rules.specs.declared.Operation.{Operation}
use Rattle.rules.specs.declared.Operation.TheVariants.{New, Forward, Backward, Border, Split, Close, Union, Start}
use Rattle.rules.specs.Count.{num}
use Rattle.border_theory.specs.Links.Held.{Arc, arc}
use Rattle.cutborder.specs.declared.Loops.{Loops}
use Rattle.border_theory.specs.Memory.Layout.{at, vertex_of, before_of, after_of, open_of, edge_stored, edges_stored, freed, released}
use Rattle.border_theory.specs.Memory.Layout.{waits, moved_down}
use Rattle.border_theory.specs.Memory.Moves.{Held, top_free, new_held, forward_held, backward_held, ended_by, ended_held, turned_by}
use Rattle.border_theory.specs.Memory.Moves.{turned_held, cut_by, next_cut, last_cut, marked_held, doubled, split_by, split_held}
use Rattle.border_theory.specs.Memory.Moves.{union_held}
use Rattle.border_theory.specs.Memory.Moves.{start_held}
use Rattle.border_theory.specs.Memory.Decision.{held_by}
use Rattle.border_theory.specs.Memory.Touched.{taken_by, NoneOf, VerticesAt}

module _ (n : ℕ) (T : List ℕ) where
  then : (m m₁ m₂ : List ℕ) → VerticesAt n T m m₁ → VerticesAt n T m₁ m₂ → VerticesAt n T m m₂
  then m m₁ m₂ f g = record { others = λ i h d. g.others i h d ∙ f.others i h d }

  kept : (m : List ℕ) → VerticesAt n T m m
  kept m = record { others = λ i h d. refl }

  high : (m : List ℕ) (j v : ℕ) → 4 * n ≤ j → VerticesAt n T m (set m j v)
  high m j v b = record { others = λ i h d. get_or-set_other m j (4 * i) v 0 (λ e. omega (arith, e, b, h)) }

  edge : (m : List ℕ) (x y o : ℕ) → VerticesAt n T m (edge_stored m x y o)
  unfolding edge_stored
  edge m x y o = record {
    others = λ i h d.
        get_or-set_other (set (set m (4 * x + 2) y) (4 * y + 1) x) (4 * x + 3) (4 * i) o 0 (λ e. omega (arith, e))
        ∙ get_or-set_other (set m (4 * x + 2) y) (4 * y + 1) (4 * i) x 0 (λ e. omega (arith, e))
        ∙ get_or-set_other m (4 * x + 2) (4 * i) y 0 (λ e. omega (arith, e));
  }

  edges : (ds : List Arc) (m : List ℕ) → VerticesAt n T m (edges_stored ds m)
  unfolding edges_stored
  edges [] m = kept m
  edges (d ∷ ds) m =
      then m (edges_stored ds m) (edge_stored (edges_stored ds m) d.from d.to (num d.live)) (edges ds m)
      (edge (edges_stored ds m) d.from d.to (num d.live))

  name : (m : List ℕ) (x v : ℕ) → ((i : ℕ) → NoneOf i T → i ≡ x → ⊥) → VerticesAt n T m (set m (4 * x) v)
  name m x v f = record { others = λ i h d. get_or-set_other m (4 * x) (4 * i) v 0 (λ e. f i d (omega (arith, e))) }

  release : (m : List ℕ) (k j p : ℕ) → VerticesAt n T m (released n m k j p)
  unfolding released
  release m k zero p = kept m
  release m k (suc j) p =
      then m (freed n m k p) (released n (freed n m k p) (k + 1) j (after_of m p)) (high m (4 * n + k) p (omega arith))
      (release (freed n m k p) (k + 1) j (after_of m p))

  wait : (m : List ℕ) (l p k : ℕ) → VerticesAt n T m (waits n m l p k)
  wait m l p k =
      then m (set m (5 * n + 2 * l) p) (waits n m l p k) (high m (5 * n + 2 * l) p (omega arith))
      (high (set m (5 * n + 2 * l) p) (5 * n + 2 * l + 1) k (omega arith))

  down : (m : List ℕ) (l k : ℕ) → VerticesAt n T m (moved_down n m l k)
  unfolding moved_down
  down m l zero = kept m
  down m l (suc k) =
      let m₁ : List ℕ = waits n m l (at m (5 * n + 2 * (l + 1))) (at m (5 * n + 2 * (l + 1) + 1)) in
      then m m₁ (moved_down n m₁ (l + 1) k) (wait m l (at m (5 * n + 2 * (l + 1))) (at m (5 * n + 2 * (l + 1) + 1))) (down m₁ (l + 1) k)

  end : (s : Loops) (m : List ℕ) → VerticesAt n T m (ended_held n s m).memory
  unfolding ended_held
  end s m = go (leb s.live 1)
    where
      go : (t : Bool) → VerticesAt n T m (ended_by t n s m).memory
      go true = release m s.free s.size s.current
      go false = release m s.free s.size s.current

  forward : (s : Loops) (m : List ℕ) → VerticesAt n T m (forward_held n s m).memory
  unfolding forward_held
  forward s m =
      let m₁ : List ℕ = edges_stored (arc s.current (after_of m (after_of m s.current)) true ∷ []) m in
      then m m₁ (freed n m₁ s.free (after_of m s.current)) (edges _ m) (high m₁ (4 * n + s.free) _ (omega arith))

  backward : (s : Loops) (m : List ℕ) → VerticesAt n T m (backward_held n s m).memory
  unfolding backward_held
  backward s m =
      let m₁ : List ℕ = edges_stored (arc (before_of m s.current) (after_of m s.current) true ∷ []) m in
      then m m₁ (freed n m₁ s.free s.current) (edges _ m) (high m₁ (4 * n + s.free) _ (omega arith))

  twice : (s : Loops) (m : List ℕ) (c : ℕ) → ((i : ℕ) → NoneOf i T → i ≡ top_free n s m → ⊥) → VerticesAt n T m (doubled n s m c)
  unfolding doubled
  twice s m c f =
      let m₁ : List ℕ = set m (4 * top_free n s m) (vertex_of m c) in
      let m₂ : List ℕ = edge_stored m₁ s.current c 1 in
      let m₃ : List ℕ = edge_stored m₂ (before_of m c) (top_free n s m) (open_of m (before_of m c)) in
      then m m₃ (edge_stored m₃ (top_free n s m) (after_of m s.current) 1)
      (then m m₂ m₃ (then m m₁ m₂ (name m (top_free n s m) (vertex_of m c) f) (edge m₁ s.current c 1))
      (edge m₂ (before_of m c) (top_free n s m) (open_of m (before_of m c))))
      (edge m₃ (top_free n s m) (after_of m s.current) 1)

  turn : (l : Loops) (m : List ℕ) → VerticesAt n T m (turned_held n l m).memory
  unfolding turned_held
  turn l m =
      let p : ℕ = after_of m l.current in
      let m₁ : List ℕ = edges_stored (arc l.current p false ∷ []) m in
      let t : Bool = eqb (open_of m₁ p) 0 in
      then m m₁ (turned_by t n l m₁ p).memory (edges (arc l.current p false ∷ []) m) (go m₁ p t)
    where
      go : (m₁ : List ℕ) (p : ℕ) (t : Bool) → VerticesAt n T m₁ (turned_by t n l m₁ p).memory
      go m₁ p true = end l m₁
      go m₁ p false = kept m₁

  next : (s : Loops) (m : List ℕ) → VerticesAt n T m (next_cut n s m).memory
  unfolding next_cut
  next s m = go (eqb (open_of m (after_of m s.current)) 0)
    where
      go : (t : Bool) → VerticesAt n T m (cut_by t (forward_held n s m) s m).memory
      go true = forward s m
      go false = kept m

  last : (s : Loops) (m : List ℕ) → VerticesAt n T m (last_cut n s m).memory
  unfolding last_cut
  last s m = go (eqb (open_of m (before_of m s.current)) 0)
    where
      go : (t : Bool) → VerticesAt n T m (cut_by t (backward_held n s m) s m).memory
      go true = backward s m
      go false = kept m

  mark : (s : Loops) (m : List ℕ) → VerticesAt n T m (marked_held n s m).memory
  unfolding marked_held
  mark s m =
      let l : Loops = (next_cut n s m).loops in
      let m₁ : List ℕ = (next_cut n s m).memory in
      let h : Held = last_cut n l m₁ in
      then m h.memory (turned_held n h.loops h.memory).memory (then m m₁ h.memory (next s m) (last l m₁))
      (turn h.loops h.memory)

module _ (n : ℕ) (s : Loops) (m : List ℕ) (u : ℕ) where
  new : VerticesAt n (taken_by n s m New) m (new_held n s m u).memory
  unfolding new_held
  new =
      let q : ℕ = top_free n s m in
      let m₁ : List ℕ = set m (4 * q) u in
      then n (q ∷ []) m m₁ (edges_stored _ m₁) (name n (q ∷ []) m q u (λ i d. d.0)) (edges n (q ∷ []) _ m₁)

  abbrev taken : List ℕ
  taken = top_free n s m ∷ []

  waited : (c l p k : ℕ) → VerticesAt n (top_free n s m ∷ []) m (waits n (doubled n s m c) l p k)
  waited c l p k =
      let m₁ : List ℕ = doubled n s m c in
      then n taken m m₁ (waits n m₁ l p k) (twice n taken s m c (λ i d. d.0)) (wait n taken m₁ l p k)

  split : (i c : ℕ) → VerticesAt n (taken_by n s m (Split i)) m (split_held n s m i c).memory
  unfolding split_held
  split i c = go (leb (i + 1) (s.size - i))
    where
      go : (t : Bool) → VerticesAt n (top_free n s m ∷ []) m (split_by t n s (doubled n s m c) i (top_free n s m)).memory
      go true = waited c (s.live - 1) s.current (s.size - i)
      go false = waited c (s.live - 1) (top_free n s m) (i + 1)

  union : (p j c : ℕ) → VerticesAt n (taken_by n s m (Union p j)) m (union_held n s m p c).memory
  unfolding union_held
  union p j c =
      let m₁ : List ℕ = doubled n s m c in
      let w : ℕ = s.live - 1 - p in
      then n taken m m₁ (moved_down n m₁ w (p - 1)) (twice n taken s m c (λ i d. d.0)) (down n taken m₁ w (p - 1))

  start : VerticesAt n (taken_by n s m Start) m (start_held n s m u).memory
  unfolding start_held
  start =
      let T : List ℕ = taken_by n s m Start in
      let x : ℕ = at m (4 * n + (s.free - 1)) in
      let y : ℕ = at m (4 * n + (s.free - 2)) in
      let z : ℕ = at m (4 * n + (s.free - 3)) in
      let m₁ : List ℕ = set m (4 * x) u in
      let m₂ : List ℕ = set m₁ (4 * y) (u + 1) in
      let m₃ : List ℕ = set m₂ (4 * z) (u + 2) in
      then n T m m₃ (edges_stored _ m₃)
      (then n T m m₂ m₃ (then n T m m₁ m₂ (name n T m x u (λ i d. d.0)) (name n T m₁ y (u + 1) (λ i d. d.1.0)))
      (name n T m₂ z (u + 2) (λ i d. d.1.1.0)))
      (edges n T _ m₃)

pub names : (n : ℕ) (s : Loops) (m : List ℕ) (u : ℕ) (o : Operation) (c : ℕ)
    → VerticesAt n (taken_by n s m o) m (held_by n s m u o c).memory
names n s m u New c = new n s m u
names n s m u Forward c = forward n [] s m
names n s m u Backward c = backward n [] s m
names n s m u Border c = mark n [] s m
names n s m u (Split i) c = split n s m u i c
names n s m u Close c = end n [] s m
names n s m u (Union p j) c = union n s m u p j c
names n s m u Start c = start n s m u
