-- Which operations start a piece and which mark an edge: where no loop is live only start is allowed, and only border marks.
-- Assumes nothing.
use Prim.Native.Nat.{ℕ, suc}
use mathlib.Core.Bool.{Bool, true, false}
use mathlib.Core.List.{List, [], ◌∷◌}
use mathlib.Core.Path.{◌≡◌, refl, sym, ap, subst}
use Rattle.rules.specs.declared.Triangle.{Triangle}
use Rattle.rules.specs.declared.Operation.{Operation}
use Rattle.rules.specs.declared.Operation.TheVariants.{New, Forward, Backward, Border, Split, Close, Union, Start}
use Rattle.rules.specs.Triangle.{tri, Edge, edge}
use Rattle.rules.specs.Ring.{Node, Ring, vertex, start_or, reached, shown}
use Rattle.rules.specs.Table.{Side, Effect, not_allowed, builds, marks, allowed, marking, at_edge, at_rest}
use Rattle.book.specs.Shown.{shown_all}
use Rattle.book.proofs.Shown.{border_shown}
use Rattle.book.proofs.Parts.{building_of}
use Rattle.choice_theory.specs.Full.{with_ring}
use Rattle.choice_theory.proofs.Steps.Surgery.{after_border}
use Rattle.choice_theory.proofs.Runs.Tracking.{first_ring}

-- where no loop is live only start is allowed, and it builds
unfoldable pub OnlyStart : Operation → ℕ → Effect → Type 0
OnlyStart o u not_allowed = Unit {0}
OnlyStart o u (builds x) =
    (o ≡ Start) × (x.loops ≡ first_ring u (suc u) (suc (suc u))) × (x.triangle ≡ tri u (suc u) (suc (suc u))) × (x.added.vertices ≡ 3)
OnlyStart o u (marks x) = ⊥

pub only_start : (o : Operation) (u : ℕ) → OnlyStart o u (at_rest o u)
unfolding OnlyStart at_rest
only_start New u = tt
only_start Forward u = tt
only_start Backward u = tt
only_start Border u = tt
only_start (Split i) u = tt
only_start Close u = tt
only_start (Union n j) u = tt
only_start Start u = (refl, refl, refl, refl)

-- at an edge only border marks
unfoldable pub OnlyBorder : Operation → Node → Node → List Node → List Ring → Effect → Type 0
OnlyBorder o e f ps ws not_allowed = Unit {0}
OnlyBorder o e f ps ws (builds x) = Unit {0}
OnlyBorder o e f ps ws (marks x) = (o ≡ Border) × (x.loops ≡ shown_all (with_ring (after_border e f ps) ws))

marks_allowed : (o : Operation) (e f : Node) (ps : List Node) (ws : List Ring) (b : Bool) (ls : List Ring) (t : Triangle) (pq qr rp : Side)
    (n s k : ℕ)
    → OnlyBorder o e f ps ws (allowed b (builds (building_of ls t pq qr rp n s k)))
unfolding OnlyBorder allowed
marks_allowed o e f ps ws true ls t pq qr rp n s k = tt
marks_allowed o e f ps ws false ls t pq qr rp n s k = tt

marks_border : (e f : Node) (ps : List Node) (ws : List Ring) (r : Ring) (d : Edge) → after_border e f ps ≡ r
    → OnlyBorder Border e f ps ws (marking (shown r) (shown_all ws) d)
unfolding OnlyBorder
marks_border e f ps ws [] d h = (refl, ap (λ (r : Ring). shown_all (with_ring r ws)) (sym h))
marks_border e f ps ws (p ∷ r) d h = (refl, ap (λ (k : Ring). shown_all (with_ring k ws)) (sym h))

pub only_border : (o : Operation) (u : ℕ) (e f : Node) (ps : List Node) (ws : List Ring)
    → OnlyBorder o e f ps ws (at_edge o u (vertex e) (reached (f ∷ ps) false) (shown_all ws))
unfolding OnlyBorder at_edge
only_border New u e f ps ws = tt
only_border Forward u e f ps ws = marks_allowed Forward e f ps ws _ _ _ _ _ _ _ _ _
only_border Backward u e f ps ws = marks_allowed Backward e f ps ws _ _ _ _ _ _ _ _ _
only_border Border u e f ps ws =
    subst (λ (r : Ring). OnlyBorder Border e f ps ws
    (marking r (shown_all ws) (edge (vertex e) (start_or (vertex e) (reached (f ∷ ps) false))))) (sym (border_shown (f ∷ ps) (vertex e)))
    (marks_border e f ps ws (after_border e f ps) (edge (vertex e) (start_or (vertex e) (reached (f ∷ ps) false))) refl)
only_border (Split i) u e f ps ws = marks_allowed (Split i) e f ps ws _ _ _ _ _ _ _ _ _
only_border Close u e f ps ws = marks_allowed Close e f ps ws _ _ _ _ _ _ _ _ _
only_border (Union n j) u e f ps ws = marks_allowed (Union n j) e f ps ws _ _ _ _ _ _ _ _ _
only_border Start u e f ps ws = tt
