-- How many places and loops an operation leaves, and which limit it would exceed.
-- Assumes nothing.
use Prim.Native.Nat.{ℕ, suc, ◌+◌, ◌≤◌, ◌<◌}
use native.Mathlib.Omega.{arith}
use mathlib.Core.Bool.{Bool, true, false, not}
use mathlib.Core.List.{List, [], ◌∷◌, ◌++◌}
use mathlib.Core.Path.{◌≡◌, refl, ap, ◌∙◌, subst}
use mathlib.Core.Logic.{◌⊎◌, inl, inr}
use lib.ListN.{length, length-append}
use lib.Dec.{eqb, leb}
use borrow.Author.Tests.{eqb-true, eqb-false, leb-true, leb-false, le-leb, lt-leb}
use Rattle.rules.specs.declared.Operation.{Operation}
use Rattle.rules.specs.declared.Operation.TheVariants.{New, Forward, Backward, Split, Close, Union}
use Rattle.rules.specs.Limits.{max_places, max_loops}
use Rattle.rules.specs.Ring.{Node, opened, marked, Ring, vertex, is_open, onward, reached, shown, places}
use Rattle.rules.specs.Table.{in_order, shorter_first}
use Rattle.rules.specs.Choice.{Packing, refuses, limited}
use Rattle.book.specs.Shown.{shown_all}
use Rattle.book.proofs.Shown.{Live, border_shown, backward_shown, reached_first, all_shown_append, live_split, waiting_shown, fewer_shown}
use Rattle.choice_theory.specs.Full.{with_ring}
use Rattle.choice_theory.proofs.Steps.Surgery.{after_border, Surgery, on_new, on_forward, on_backward, on_close, on_split, on_union}
use Rattle.choice_theory.proofs.Places.Onward.{turned_ring}
use Rattle.choice_theory.proofs.Steps.Effects.{shown_forward, shown_backward, shown_cut, shown_halves, shown_union}
use Rattle.choice_theory.proofs.Places.Rings.{places_append}
use Rattle.pack_theory.specs.Packing.Doing.{refusal_at}

-- no more places and loops than before, or one place more
abbrev pub Grows : List Ring → List Ring → Type 0
Grows before ls = ((places ls ≤ places before) × (length ls ≤ length before)) ⊎ (places ls ≡ suc (places before))

places_shorter : (a b : List Node) (ws : List Ring) → places (shorter_first a b ws) ≡ length a + length b + places ws
unfolding in_order places
places_shorter a b ws = go (leb (length a) (length b))
  where
    go : (t : Bool) → places (in_order t a b ws) ≡ length a + length b + places ws
    go true = omega arith
    go false = omega arith

-- of the rings shown
pub surgery_grows : (e f : Node) (ps : List Node) (ws ls : List Ring) (c : ℕ) (o : Operation) → Live ws → Surgery e f ps ws ls c o
    → Grows (shown_all ((e ∷ (f ∷ ps)) ∷ ws)) (shown_all ls)
unfolding places
surgery_grows e f ps ws ls c New g (on_new q) =
    inr
    (ap (λ (l : List Ring). places (shown_all l)) q
    ∙ omega (arith, ap length (backward_shown (f ∷ ps) (vertex e)), length-append (reached (f ∷ ps) false) (opened (vertex e) ∷ [])))
surgery_grows e f ps ws ls c Forward g (on_forward p q qs sh k op l) =
    let z = ap length (ap (λ (r : List Node). reached (f ∷ r) false) sh ∙ shown_forward e f p q qs op) in
    inl (
      omega (arith, ap (λ (k : List Ring). places (shown_all k)) l, z, ap length (reached_first p (q ∷ qs))),
      omega (arith, ap (λ (k : List Ring). length (shown_all k)) l),
    )
surgery_grows e f ps ws ls c Backward g (on_backward q qs p sh k op l) =
    let z = ap length (ap (λ (r : List Node). reached (f ∷ r) false) sh ∙ shown_backward e f (q ∷ qs) p op) in
    inl (
      omega (
        arith,
        ap (λ (k : List Ring). places (shown_all k)) l,
        z,
        length-append (reached (q ∷ qs) (not (is_open f))) (p ∷ []),
        ap length (reached_first f (q ∷ qs)),
      ),
      omega (arith, ap (λ (k : List Ring). length (shown_all k)) l),
    )
surgery_grows e f ps ws ls c Close g (on_close p sh k op op' l) =
    inl (omega (arith, ap (λ (k : List Ring). places (shown_all k)) l), omega (arith, ap (λ (k : List Ring). length (shown_all k)) l))
surgery_grows e f ps ws ls c (Split i) g (on_split us p vs sh n lu lv k l) =
    let U = reached us (not (is_open f)) in
    let W = reached vs (not (is_open p)) in
    let z = ap length (ap (λ (r : List Node). reached (f ∷ r) false) sh ∙ shown_cut e f us p vs n.1) in
    inr
    (ap (λ (k : List Ring). places (shown_all k)) l
    ∙ (ap places (shown_halves e f us p vs ws)
    ∙ (places_shorter (opened (vertex p) ∷ (f ∷ U)) (opened (vertex e) ∷ (p ∷ W)) (shown_all ws)
    ∙ omega (arith, z, length-append U (p ∷ W)))))
surgery_grows e f ps ws ls c (Union w j) g (on_union before us p vs behind sh n i k l) =
    let U = reached us false in
    let W = reached vs (not (is_open p)) in
    let P = reached ps (not (is_open f)) in
    let live = (live_split before ((us ++ (p ∷ vs)) ∷ behind) (subst Live sh g)).1 in
    let all : shown_all ws ≡ shown_all before ++ ((U ++ (p ∷ W)) ∷ shown_all behind) =
    ap shown_all sh ∙ (all_shown_append before ((us ++ (p ∷ vs)) ∷ behind)
    ∙ ap (λ (r : List Node). shown_all before ++ (r ∷ shown_all behind)) (waiting_shown us p vs behind live i.1)) in
    inr
    (ap (λ (k : List Ring). places (shown_all k)) l
    ∙ omega (
      arith,
      ap places all,
      ap places (all_shown_append before behind),
      ap length (shown_union e f ps us p vs behind live),
      ap length (reached_first f ps),
      places_append (shown_all before) ((U ++ (p ∷ W)) ∷ shown_all behind),
      places_append (shown_all before) (shown_all behind),
      length-append P (opened (vertex e) ∷ (p ∷ (W ++ U))),
      length-append W U,
      length-append U (p ∷ W),
    ))
surgery_grows e f ps ws ls c Rattle.rules.specs.declared.Operation.TheVariants.Border g x'' = elim x'' [ ]
surgery_grows e f ps ws ls c Rattle.rules.specs.declared.Operation.TheVariants.Start g x3 = elim x3 [ ]

-- marking an edge adds none
with_places_lem : (r : List Node) (ws : List Ring)
    → (places (shown_all (with_ring r ws)) ≤ length (shown r) + places (shown_all ws))
    × (length (shown_all (with_ring r ws)) ≤ suc (length (shown_all ws)))
unfolding places
with_places_lem [] ws = (omega arith, omega arith)
with_places_lem (p ∷ r) ws = (omega arith, omega arith)

turned_length : (ps r : List Node) → onward [] ps ≡ r → length r ≤ length ps
turned_length ps [] h = omega arith
turned_length ps (p ∷ r) h =
    let t = turned_ring ps p r h in
    omega (
      arith,
      ap length t.whole,
      ap length t.turned,
      length-append t.us (opened t.v ∷ t.vs),
      length-append
          (opened t.v ∷ t.vs) t.us,
    )

pub border_shrinks : (e f : Node) (ps : List Node) (ws : List Ring)
    → (places (shown_all (with_ring (after_border e f ps) ws)) ≤ places (shown_all ((e ∷ (f ∷ ps)) ∷ ws)))
    × (length (shown_all (with_ring (after_border e f ps) ws)) ≤ length (shown_all ((e ∷ (f ∷ ps)) ∷ ws)))
unfolding places
border_shrinks e f ps ws =
    let F = reached (f ∷ ps) false in
    let w = with_places_lem (after_border e f ps) ws in
    let r = onward [] (F ++ (marked (vertex e) ∷ [])) in (
      omega (
        arith,
        w.0,
        ap length (border_shown (f ∷ ps) (vertex e)),
        fewer_shown r,
        turned_length (F ++ (marked (vertex e) ∷ [])) r refl,
        length-append F (marked (vertex e) ∷ []),
      ),
      w.1,
    )

-- ---- 9 and 10

pub limited_nine : (o : Operation) (s : Packing) → s.limit_places < places s.loops → limited o s ≡ refuses 9
unfolding limited
limited_nine o s h = rw (limited, lt-leb (places s.loops) s.limit_places h) refl

pub limited_ten : (o : Operation) (s : Packing) → places s.loops ≤ s.limit_places → s.limit_loops < length s.loops
    → limited o s ≡ refuses 10
unfolding limited
limited_ten o s h k = rw (limited, le-leb (places s.loops) s.limit_places h, lt-leb (length s.loops) s.limit_loops k) refl

-- an operation that exceeds a limit: 9 where no place was free
pub limited_refuses : (o : Operation) (s : Packing) (before : List Ring) (free : ℕ) → s.limit_places ≡ max_places
    → s.limit_loops ≡ max_loops
    → free + places before ≡ max_places → length before ≤ max_loops → Grows before s.loops
    → (places s.loops ≤ max_places → length s.loops ≤ max_loops → ⊥) → limited o s ≡ refuses (refusal_at free)
limited_refuses o s before free hp hl r few (inl g) x = absurd (x (omega (arith, g.0, r)) (omega (arith, g.1, few)))
limited_refuses o s before free hp hl r few (inr g) x = go (eqb free 0) refl
  where
    ten : free + places before ≡ max_places → 1 ≤ free → (t : Bool) → leb (length s.loops) max_loops ≡ t → limited o s ≡ refuses 10
    ten q z true e = absurd (x (omega (arith, g, q, z)) (leb-true (length s.loops) max_loops e))
    ten q z false e = limited_ten o s (omega (arith, g, q, z, hp)) (omega (arith, leb-false (length s.loops) max_loops e, hl))

    go : (t : Bool) → eqb free 0 ≡ t → limited o s ≡ refuses (elim t [ true ↦ 9 | false ↦ 10 ])
    go true e = limited_nine o s (omega (arith, g, r, hp, eqb-true free 0 e))
    go false e = ten r (omega (arith, eqb-false free 0 e)) (leb (length s.loops) max_loops) refl
