-- The places after an operation; and what an operation that the table allows asks of the rings of places.
-- Assumes nothing.
use Prim.Native.Nat.{ℕ, suc, ◌-◌}
use native.Mathlib.Omega.{arith}
use mathlib.Core.Bool.{Bool, true, false, ◌&&◌}
use mathlib.Core.List.{List, [], ◌∷◌, ◌++◌}
use mathlib.Core.Path.{◌≡◌, refl, sym, ap, ◌∙◌}
use lib.ListN.{length}
use lib.Dec.{leb}
use borrow.Author.Tests.{leb-true, ltb-true}
use Rattle.rules.specs.declared.Operation.{Operation}
use Rattle.rules.specs.declared.Operation.TheVariants.{New, Forward, Backward, Border, Split, Close, Union, Start}
use Rattle.rules.specs.Triangle.{Edge, edge}
use Rattle.rules.specs.Ring.{Node, marked, Ring, start_or, onward, shown, loop_at}
use Rattle.rules.specs.Table.{Effect, not_allowed, builds, marks, allowed, marking, at_edge}
use Rattle.rules.specs.Machine.{fresh_sides}
use Rattle.book.proofs.Effects.{split_low, split_high}
use Rattle.border_theory.specs.Links.Held.{named_ring, named_loops}
use Rattle.border_theory.proofs.Links.Stores.{Takes, Fits}
use Rattle.border_theory.proofs.Links.Named.{named_length, named_last_open, named_loop_at, named_lives}
use Rattle.counting.proofs.Bools.{and_left, and_right}

-- what holds if the effect is not a refusal
abbrev pub Unless : Type 0 → Effect → Type 0
Unless P not_allowed = Unit {0}
Unless P (builds x) = P
Unless P (marks x) = P

allowed_unless : (P : Type 0) (t : Bool) (e : Effect) → (t ≡ true → Unless P e) → Unless P (allowed t e)
unfolding allowed
allowed_unless P true e h = h refl
allowed_unless P false e h = tt

marking_unless : (P : Type 0) (r : Ring) (ws : List Ring) (d : Edge) → P → Unless P (marking r ws d)
marking_unless P [] ws d p = p
marking_unless P (x ∷ r) ws d p = p

-- an operation that the table allows fits the rings of places
pub fits : (o : Operation) (vs : List ℕ) (u a : ℕ) (ps : List Node) (ws : List Ring)
    → Unless (Fits o ps ws) (at_edge o u a (named_ring vs ps) (named_loops vs ws))
unfolding at_edge
fits New vs u a ps ws = tt
fits Forward vs u a ps ws =
    allowed_unless _ _ _ (λ t.
    omega (
      arith,
      leb-true 3 (suc (length (named_ring vs ps))) (and_left (leb 3 (suc (length (named_ring vs ps)))) _ (and_left _ _ t)),
      named_length vs ps,
    ))
fits Backward vs u a ps ws =
    allowed_unless _ _ _ (λ t. sym (named_last_open vs ps) ∙ and_right (leb 3 (suc (length (named_ring vs ps)))) _ (and_left _ _ t))
fits Border vs u a ps ws =
    marking_unless (Unit {0}) (shown (onward [] (named_ring vs ps ++ (marked a ∷ [])))) (named_loops vs ws)
    (edge a (start_or a (named_ring vs ps))) tt
fits (Split i) vs u a ps ws =
    allowed_unless _ _ _
    (λ t.
    let k = split_low i (suc (length (named_ring vs ps))) _ _ t in
    let l = split_high i (suc (length (named_ring vs ps))) _ _ t in
    (omega (arith, k), omega (arith, l, named_length vs ps)))
fits Close vs u a ps ws = allowed_unless _ _ _ (λ t. tt)
fits (Union n j) vs u a ps ws =
    allowed_unless _ _ _
    (λ t.
    let b = leb 1 n && leb n (length (named_loops vs ws)) in
    let h = and_left b _ t in
    let l = leb-true 1 n (and_left (leb 1 n) _ h) in
    let k = leb-true n (length (named_loops vs ws)) (and_right (leb 1 n) _ h) in
    let i = ltb-true j (length (loop_at (named_loops vs ws) (n - 1))) (and_right b _ t) in (
      omega (arith, l, k, named_lives vs ws),
      omega
          (arith, i, ap length (named_loop_at vs ws (n - 1)), named_length vs (loop_at ws (n - 1))),
    ))
fits Start vs u a ps ws = tt

-- an operation that takes a place has two new edges
abbrev pub Grows : Effect → Type 0
Grows not_allowed = Unit {0}
Grows (builds x) = (fresh_sides x.sides.pq ≡ 0) × (fresh_sides x.sides.qr ≡ 1) × (fresh_sides x.sides.rp ≡ 1)
Grows (marks x) = ⊥

allowed_grows : (t : Bool) (e : Effect) → Grows e → Grows (allowed t e)
unfolding allowed
allowed_grows true e h = h
allowed_grows false e h = tt

pub grows : (o : Operation) → Takes o → (u a : ℕ) (ps : List Node) (ws : List Ring) → Grows (at_edge o u a ps ws)
unfolding at_edge
grows New h u a ps ws = (refl, refl, refl)
grows (Split i) h u a ps ws = allowed_grows _ _ (refl, refl, refl)
grows (Union n j) h u a ps ws = allowed_grows _ _ (refl, refl, refl)
grows Forward h u a ps ws = absurd h
grows Backward h u a ps ws = absurd h
grows Border h u a ps ws = absurd h
grows Close h u a ps ws = absurd h
grows Start h u a ps ws = absurd h
