-- How an operation changes the number of open edges: so packing comes to an end.
-- Assumes nothing.
use Prim.Native.Nat.{ℕ, ◌+◌, ◌≤◌, ◌<◌}
use native.Mathlib.Omega.{arith}
use mathlib.Core.Bool.{Bool, true, false}
use mathlib.Core.List.{List, [], ◌∷◌, ◌++◌}
use mathlib.Core.Path.{◌≡◌, refl, ap}
use Rattle.rules.specs.declared.Operation.{Operation}
use Rattle.rules.specs.declared.Operation.TheVariants.{New, Forward, Backward, Split, Close, Union}
use Rattle.rules.specs.Ring.{Node, opened, marked, Ring, vertex, is_open}
use Rattle.rules.specs.Table.{in_order}
use Rattle.choice_theory.specs.Full.{fewer, fewer_first, with_ring}
use Rattle.choice_theory.proofs.Steps.Surgery.{after_border, Surgery, on_new, on_forward, on_backward, on_close, on_split, on_union}
use Rattle.choice_theory.proofs.Steps.Tally.{when, open_edges, all_open_edges}
use Rattle.choice_theory.proofs.Places.Onward.{turned_ring}
use Rattle.choice_theory.proofs.Steps.Bordering.{rim_of}

open_append : (us vs : List Node) → open_edges (us ++ vs) ≡ open_edges us + open_edges vs
open_append [] vs = omega arith
open_append (u ∷ us) vs = let h = open_append us vs in omega arith

all_append : (us vs : List Ring) → all_open_edges (us ++ vs) ≡ all_open_edges us + all_open_edges vs
all_append [] vs = omega arith
all_append (u ∷ us) vs = let h = all_append us vs in omega arith

all_shorter : (a b : List Node) (ws : List Ring) → all_open_edges (fewer_first a b ws) ≡ open_edges a + (open_edges b + all_open_edges ws)
unfolding in_order
all_shorter a b ws = go (fewer a b)
  where
    go : (t : Bool) → all_open_edges (in_order t a b ws) ≡ open_edges a + (open_edges b + all_open_edges ws)
    go true = refl
    go false = omega arith

-- an operation that builds makes at most two edges more
pub build_opens : (e f : Node) (ps : List Node) (ws ls : List Ring) (c : ℕ) (o : Operation) → Surgery e f ps ws ls c o
    → all_open_edges ls ≤ all_open_edges ((e ∷ (f ∷ ps)) ∷ ws) + 2
build_opens e f ps ws ls c New (on_new q) = let h = open_append ps (opened (vertex e) ∷ []) in rw q (omega arith)
build_opens e f ps ws ls c Forward (on_forward p q qs sh k op l) = rw (l, sh) (omega arith)
build_opens e f ps ws ls c Backward (on_backward q qs p sh k op l) = let h = open_append (q ∷ qs) (p ∷ []) in rw (l, sh) (omega arith)
build_opens e f ps ws ls c Close (on_close p sh k op op' l) = rw (l, sh) (omega arith)
build_opens e f ps ws ls c (Split i) (on_split us p vs sh n lu lv k l) =
    let h = open_append us (p ∷ vs) in
    let m = all_shorter (opened (vertex p) ∷ (f ∷ us)) (opened (vertex e) ∷ (p ∷ vs)) ws in
    rw (l, m, sh) (omega arith)
build_opens e f ps ws ls c (Union w j) (on_union before us p vs behind sh n i k l) =
    let h = open_append ps (opened (vertex e) ∷ (p ∷ (vs ++ us))) in
    let m = open_append vs us in
    let m' = open_append us (p ∷ vs) in
    let u = all_append before behind in
    let t = all_append before ((us ++ (p ∷ vs)) ∷ behind) in
    rw (l, sh) (omega arith)
build_opens e f ps ws ls c Rattle.rules.specs.declared.Operation.TheVariants.Border x' = elim x' [ ]
build_opens e f ps ws ls c Rattle.rules.specs.declared.Operation.TheVariants.Start x'' = elim x'' [ ]

-- border makes one less
border_by : (e f : Node) (ps : List Node) (ws : List Ring) → is_open e ≡ true → (r : List Node) → after_border e f ps ≡ r
    → all_open_edges (with_ring r ws) < all_open_edges ((e ∷ (f ∷ ps)) ∷ ws)
border_by e f ps ws v [] h = let g = ap (λ (t : Bool). when t 1) v in omega arith
border_by e f ps ws v (p ∷ r) h =
    let g = ap (λ (t : Bool). when t 1) v in
    let t = turned_ring (rim_of e f ps) p r h in
    let a : open_edges (p ∷ r) ≡ open_edges ((opened t.v ∷ t.vs) ++ t.us) = ap open_edges t.turned in
    let b = open_append (opened t.v ∷ t.vs) t.us in
    let c = open_append t.us (opened t.v ∷ t.vs) in
    let d : open_edges (rim_of e f ps) ≡ open_edges (t.us ++ (opened t.v ∷ t.vs)) = ap open_edges t.whole in
    let i = open_append ps (marked (vertex e) ∷ []) in
    omega arith

pub border_opens : (e f : Node) (ps : List Node) (ws : List Ring) → is_open e ≡ true
    → all_open_edges (with_ring (after_border e f ps) ws) < all_open_edges ((e ∷ (f ∷ ps)) ∷ ws)
border_opens e f ps ws v = border_by e f ps ws v (after_border e f ps) refl
