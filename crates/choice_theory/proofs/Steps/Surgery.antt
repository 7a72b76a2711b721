-- What an operation does to the full rings, in which no place leaves, part by part, and which triangle it builds. The operation is that
-- of the rings shown: a place is named by its number there.
-- Assumes nothing.
use Prim.Native.Nat.{ℕ, suc, ◌≤◌}
use mathlib.Core.Bool.{true, false}
use mathlib.Core.List.{List, [], ◌∷◌, ◌++◌}
use mathlib.Core.Path.{◌≡◌}
use lib.ListN.{length}
use Rattle.rules.specs.declared.Triangle.{Triangle}
use Rattle.rules.specs.declared.Operation.{Operation}
use Rattle.rules.specs.declared.Operation.TheVariants.{New, Forward, Backward, Split, Close, Union}
use Rattle.rules.specs.Ring.{Node, opened, marked, Ring, vertex, is_open, onward, reached}
use Rattle.book.proofs.Shown.{Stays}
use Rattle.choice_theory.specs.Full.{fewer_first}

abbrev pub triangle_at : Node → Node → ℕ → Triangle
triangle_at e f c = record { p = vertex f; q = vertex e; r = c }

-- the ring after its current edge is marked, from the next open edge on; empty where there is none
abbrev pub after_border : Node → Node → List Node → List Node
after_border e f ps = onward [] (f ∷ (ps ++ (marked (vertex e) ∷ [])))

-- from the rings (e ∷ f ∷ ps) ∷ ws to the rings ls, with the third corner c
pub data Surgery (e f : Node) (ps : List Node) (ws ls : List Ring) (c : ℕ) : Operation → Type 0 where
  on_new : ls ≡ (opened c ∷ (f ∷ (ps ++ (opened (vertex e) ∷ [])))) ∷ ws → Surgery e f ps ws ls c New
  on_forward : (p q : Node) (qs : List Node) → ps ≡ p ∷ (q ∷ qs) → c ≡ vertex p → is_open f ≡ true
      → ls ≡ (opened (vertex e) ∷ (p ∷ (q ∷ qs))) ∷ ws → Surgery e f ps ws ls c Forward
  on_backward : (q : Node) (qs : List Node) (p : Node) → ps ≡ (q ∷ qs) ++ (p ∷ []) → c ≡ vertex p → is_open p ≡ true
      → ls ≡ (opened (vertex p) ∷ (f ∷ (q ∷ qs))) ∷ ws → Surgery e f ps ws ls c Backward
  on_close : (p : Node) → ps ≡ p ∷ [] → c ≡ vertex p → is_open f ≡ true → is_open p ≡ true → ls ≡ ws → Surgery e f ps ws ls c Close
  on_split : {i : ℕ} (us : List Node) (p : Node) (vs : List Node) → ps ≡ us ++ (p ∷ vs)
      → (length (reached (f ∷ us) false) ≡ i) × Stays (f ∷ us) p
      → 1 ≤ length us → 1 ≤ length vs → c ≡ vertex p
      → ls ≡ fewer_first (opened (vertex p) ∷ (f ∷ us)) (opened (vertex e) ∷ (p ∷ vs)) ws → Surgery e f ps ws ls c (Split i)
  on_union : {w j : ℕ} (before : List Ring) (us : List Node) (p : Node) (vs : List Node) (after : List Ring)
      → ws ≡ before ++ ((us ++ (p ∷ vs)) ∷ after) → suc (length before) ≡ w → (length (reached us false) ≡ j) × Stays us p → c ≡ vertex p
      → ls ≡ (opened (vertex p) ∷ (f ∷ (ps ++ (opened (vertex e) ∷ (p ∷ (vs ++ us)))))) ∷ (before ++ after)
      → Surgery e f ps ws ls c (Union w j)
