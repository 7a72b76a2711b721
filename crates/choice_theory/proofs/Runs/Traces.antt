-- A list of operations that runs to completion, with the triangles that it builds, in their order; and every place's fate in it.
-- Assumes nothing.
use Prim.Native.Nat.{ℕ, ◌+◌}
use mathlib.Core.List.{List, [], ◌∷◌, ◌++◌}
use mathlib.Core.Path.{◌≡◌, refl}
use Rattle.rules.specs.declared.Triangle.{Triangle}
use Rattle.rules.specs.declared.Operation.{Operation}
use Rattle.rules.specs.declared.Operation.TheVariants.{Border, Start}
use Rattle.rules.specs.Ring.{Node, opened, marked, Ring, vertex}
use Rattle.choice_theory.specs.Spots.{Unused}
use Rattle.choice_theory.specs.Full.{with_ring}
use Rattle.choice_theory.proofs.Places.Corners.{Around, Everywhere, RingMarks, AllMarks, Filled}
use Rattle.choice_theory.proofs.Steps.Surgery.{triangle_at, after_border, Surgery}
use Rattle.choice_theory.proofs.Places.Rings.{ring_swap}
use Rattle.choice_theory.proofs.Runs.Fate.{back_step}
use Rattle.choice_theory.proofs.Places.Marking.{marks_step, marks_border, marks_open, ring_back, rim}
use Rattle.choice_theory.proofs.Places.Onward.{closed_ring, turned_ring}

-- from the rings ls on, with M the triangles of the whole model
pub data Trace (M : List Triangle) : List Ring → List Operation → List Triangle → Type 0 where
  t_done : Trace M [] [] []
  t_start : {a b c : ℕ} {os : List Operation} {R : List Triangle} → Trace M ((opened a ∷ (opened b ∷ (opened c ∷ []))) ∷ []) os R
      → Trace M [] (Start ∷ os) (record { p = a; q = b; r = c } ∷ R)
  t_build : {e f : Node} {ps : List Node} {ws ls : List Ring} {c : ℕ} {o : Operation} {os : List Operation} {R : List Triangle}
      → Surgery e f ps ws ls c o → Trace M ls os R → Trace M ((e ∷ (f ∷ ps)) ∷ ws) (o ∷ os) (triangle_at e f c ∷ R)
  t_border : {e f : Node} {ps : List Node} {ws : List Ring} {os : List Operation} {R : List Triangle}
      → Unused (vertex f) (vertex e) M → Trace M (with_ring (after_border e f ps) ws) os R → Trace M ((e ∷ (f ∷ ps)) ∷ ws) (Border ∷ os) R

-- the ring before its current edge was marked
unmark : (Q : ℕ → ℕ → ℕ → Type 0) (e f : Node) (ps : List Node) → Around Q (f ∷ (ps ++ (marked (vertex e) ∷ []))) → Around Q (e ∷ (f ∷ ps))
unmark Q e f ps r = ring_swap Q (f ∷ ps) (marked (vertex e) ∷ []) r

back_border_by : (M R : List Triangle) (e f : Node) (ps : List Node) (ws : List Ring) (r : List Node) → after_border e f ps ≡ r
    → RingMarks M (f ∷ (ps ++ (marked (vertex e) ∷ []))) → Everywhere (Filled M R) (with_ring r ws)
    → Everywhere (Filled M R) ((e ∷ (f ∷ ps)) ∷ ws)
back_border_by M R e f ps ws [] h m g = (
  unmark (Filled M R) e f ps
      (rim M R (f ∷ (ps ++ (marked (vertex e) ∷ []))) (closed_ring (f ∷ (ps ++ (marked (vertex e) ∷ []))) h) m),
  g,
)
back_border_by M R e f ps ws (p ∷ r) h m g = (
  unmark (Filled M R) e f ps
      (ring_back (Filled M R) (f ∷ (ps ++ (marked (vertex e) ∷ []))) (p ∷ r) (turned_ring (f ∷ (ps ++ (marked (vertex e) ∷ []))) p r h)
      g.0),
  g.1,
)

marks_with : (M : List Triangle) (r : List Node) (ws : List Ring) → RingMarks M r → AllMarks M ws → AllMarks M (with_ring r ws)
marks_with M [] ws h k = k
marks_with M (p ∷ ps) ws h k = (h, k)

pub marks_after : (M : List Triangle) (e f : Node) (ps : List Node) (ws : List Ring) → Unused (vertex f) (vertex e) M
    → AllMarks M ((e ∷ (f ∷ ps)) ∷ ws) → AllMarks M (with_ring (after_border e f ps) ws)
marks_after M e f ps ws n m =
    marks_with M (after_border e f ps) ws (marks_open M (f ∷ (ps ++ (marked (vertex e) ∷ []))) (marks_border M e f ps n m.0)) m.1

-- the gap of every place is filled by later triangles, up to the border
pub fate : {M : List Triangle} {ls : List Ring} {os : List Operation} {R : List Triangle} → Trace M ls os R → AllMarks M ls
    → Everywhere (Filled M R) ls
fate t_done m = tt
fate (t_start t) m = tt
fate {M} (t_build {e = e} {f = f} {ps = ps} {ws = ws} {ls = ls} {c = c} {o = o} {R = R} s t) m =
    back_step M R e f ps ws ls c o s (fate t (marks_step M e f ps ws ls c o s m))
fate {M} (t_border {e = e} {f = f} {ps = ps} {ws = ws} {R = R} n t) m =
    back_border_by M R e f ps ws (after_border e f ps) refl (marks_border M e f ps n m.0) (fate t (marks_after M e f ps ws n m))
