-- Packing is never stuck.
-- Assumes nothing.
use Prim.Native.Nat.{ℕ, ◌+◌, ◌≤◌}
use native.Mathlib.Omega.{arith}
use mathlib.Core.Bool.{Bool, true, false}
use mathlib.Core.List.{List, [], ◌∷◌, ◌++◌}
use mathlib.Core.Path.{◌≡◌, refl, sym, ap, ◌∙◌, subst}
use mathlib.Core.Logic.{◌⊎◌, inl, inr}
use lib.ListN.{length, length-append}
use lib.Dec.{eqb}
use borrow.Author.Tests.{eqb-true, eqb-false}
use Rattle.rules.specs.declared.Triangle.{Triangle}
use Rattle.rules.specs.declared.Operation.{Operation}
use Rattle.rules.specs.declared.Operation.TheVariants.{New, Forward, Backward, Split, Close, Union}
use Rattle.rules.specs.Ring.{Node, opened, marked, Ring, vertex, is_open, first_open}
use Rattle.rules.specs.Table.{in_order}
use Rattle.rules.specs.Choice.{choose_place}
use Rattle.mesh_theory.specs.Fans.Corner.{Once}
use Rattle.rules.specs.Fan.{Neighbours}
use Rattle.rules.specs.Triangle.{at_p, at_q, at_r, In, here, there}
use Rattle.book.specs.Shown.{shown_all}
use Rattle.book.proofs.Shown.{Live}
use Rattle.choice_theory.specs.Spots.{Unused}
use Rattle.choice_theory.specs.Full.{fewer, fewer_first, with_ring}
use Rattle.choice_theory.proofs.Steps.Surgery.{after_border, Surgery, on_new, on_forward, on_backward, on_close, on_split, on_union}
use Rattle.choice_theory.proofs.Turning.Ways.{others, look}
use Rattle.choice_theory.proofs.Places.Onward.{Turned, turned_ring}
use Rattle.choice_theory.proofs.Steps.Triangle.{Keeps, Packed, pack_new, pack_old}
use Rattle.choice_theory.proofs.Steps.Bordering.{with_rim, rim_of, keeps_border}
use Rattle.choice_theory.proofs.Steps.Starting.{keeps_start}
use Rattle.choice_theory.proofs.Turning.Taking.{keeps_take}

-- the current edge is open, and there are three places or more
abbrev pub Good : List Node → Type 0
Good [] = ⊥
Good (p ∷ ps) = (is_open p ≡ true) × (2 ≤ length ps)

abbrev pub AllGood : List Ring → Type 0
AllGood [] = Unit {0}
AllGood (l ∷ ls) = Good l × AllGood ls

pub good_live : (ls : List Ring) → AllGood ls → Live ls
good_live [] g = tt
good_live ([] ∷ ls) g = g.0
good_live ((p ∷ ps) ∷ ls) g = (g.0.0, good_live ls g.1)

good_split : (us vs : List Ring) → AllGood (us ++ vs) → AllGood us × AllGood vs
good_split [] vs g = (tt, g)
good_split (u ∷ us) vs g = let r = good_split us vs g.1 in ((g.0, r.0), r.1)

good_append : (us vs : List Ring) → AllGood us → AllGood vs → AllGood (us ++ vs)
good_append [] vs g h = h
good_append (u ∷ us) vs g h = (g.0, good_append us vs g.1 h)

good_shorter : (a b : List Node) (ws : List Ring) → Good a → Good b → AllGood ws → AllGood (fewer_first a b ws)
unfolding in_order
good_shorter a b ws h k m = go (fewer a b)
  where
    go : (t : Bool) → AllGood (in_order t a b ws)
    go true = (h, (k, m))
    go false = (k, (h, m))

pub good_step : (e f : Node) (ps : List Node) (ws ls : List Ring) (c : ℕ) (o : Operation) → Surgery e f ps ws ls c o
    → AllGood ((e ∷ (f ∷ ps)) ∷ ws) → AllGood ls
good_step e f ps ws ls c New (on_new q) g = rw q ((refl, omega (arith, length-append ps (opened (vertex e) ∷ []))), g.1)
good_step e f ps ws ls c Forward (on_forward p q qs sh k op l) g = rw l ((refl, omega arith), g.1)
good_step e f ps ws ls c Backward (on_backward q qs p sh k op l) g = rw l ((refl, omega arith), g.1)
good_step e f ps ws ls c Close (on_close p sh k op op' l) g = rw l g.1
good_step e f ps ws ls c (Split i) (on_split us p vs sh n lu lv k l) g =
    rw l (good_shorter (opened (vertex p) ∷ (f ∷ us)) (opened (vertex e) ∷ (p ∷ vs)) ws (refl, omega arith) (refl, omega arith) g.1)
good_step e f ps ws ls c (Union w j) (on_union before us p vs behind sh n i k l) g =
    let h = good_split before ((us ++ (p ∷ vs)) ∷ behind) (subst AllGood sh g.1) in
    rw l ((refl, omega (arith, length-append ps (opened (vertex e) ∷ (p ∷ (vs ++ us))))), good_append before behind h.0 h.1.1)
good_step e f ps ws ls c Rattle.rules.specs.declared.Operation.TheVariants.Border x'' g = elim x'' [ ]
good_step e f ps ws ls c Rattle.rules.specs.declared.Operation.TheVariants.Start x3 g = elim x3 [ ]

-- a ring turned to its next open edge has that edge first, and as many places
opens_first : (ps : List Node) (q : Node) (qs : List Node) → Turned ps (q ∷ qs) → (is_open q ≡ true) × (length (q ∷ qs) ≡ length ps)
opens_first ps q qs t =
    let a = length-append (opened t.v ∷ t.vs) t.us in
    let b = length-append t.us (opened t.v ∷ t.vs) in
    (ap first_open t.turned, ap length t.turned ∙ (a ∙ (omega (arith, b) ∙ ap length (sym t.whole))))

pub good_border : (e f : Node) (ps : List Node) (ws : List Ring) → AllGood ((e ∷ (f ∷ ps)) ∷ ws) → (r : List Node) → after_border e f ps ≡ r
    → AllGood (with_ring r ws)
good_border e f ps ws g [] h = g.1
good_border e f ps ws g (q ∷ qs) h =
    let r = opens_first (rim_of e f ps) q qs (turned_ring (rim_of e f ps) q qs h) in
    let n = r.1 in
    let m = g.0.1 in
    ((r.0, omega (arith, length-append ps (marked (vertex e) ∷ []))), g.1)

-- whether a vertex has a triangle
pub has_triangle : (c : ℕ) (ts : List Triangle) → ((m : ℕ) × (n : ℕ) × In c m n ts) ⊎ ((m n : ℕ) → In c m n ts → ⊥)
has_triangle c [] = inr (λ m n i. elim i [ ])
has_triangle c (t ∷ ts) = go (eqb t.p c) (eqb t.q c) (eqb t.r c) refl refl refl (has_triangle c ts)
  where
    go : (u v w : Bool) → eqb t.p c ≡ u → eqb t.q c ≡ v → eqb t.r c ≡ w
        → ((m : ℕ) × (n : ℕ) × In c m n ts) ⊎ ((m n : ℕ) → In c m n ts → ⊥)
        → ((m : ℕ) × (n : ℕ) × In c m n (t ∷ ts)) ⊎ ((m n : ℕ) → In c m n (t ∷ ts) → ⊥)
    go true v w a b d k = inl (t.q, t.r, here (at_p (eqb-true _ _ a) refl refl))
    go false true w a b d k = inl (t.r, t.p, here (at_q (eqb-true _ _ b) refl refl))
    go false false true a b d k = inl (t.p, t.q, here (at_r (eqb-true _ _ d) refl refl))
    go false false false a b d (inl r) = inl (r.0, r.1, there r.2)
    go false false false a b d (inr n) = inr no
      where
        no : (m l : ℕ) → In c m l (t ∷ ts) → ⊥
        no m l (here (at_p x y z)) = eqb-false _ _ a x
        no m l (here (at_q x y z)) = eqb-false _ _ b x
        no m l (here (at_r x y z)) = eqb-false _ _ d x
        no m l (there i) = n m l i

-- how packing goes on from a state: each way ends in a state of the same kind
pub data Goes (M R B : List Triangle) (ls rims : List Ring) : Type 0 where
  by_start : (t : Triangle) (R' : List Triangle) → R ≡ t ∷ R' → ls ≡ []
      → Keeps M R' (t ∷ B) ((opened t.p ∷ (opened t.q ∷ (opened t.r ∷ []))) ∷ []) rims
      → AllGood ((opened t.p ∷ (opened t.q ∷ (opened t.r ∷ []))) ∷ [])
      → Goes M R B ls rims
  -- a triangle b a c that is left; c has no built triangle and the operation is new, or it has one and the operation is the packer's choice
  by_build : (e f : Node) (ps : List Node) (ws : List Ring) (c : ℕ) (i : In (vertex f) (vertex e) c R) → ls ≡ (e ∷ (f ∷ ps)) ∷ ws
      → (p : Packed M (others i) B e f ps ws rims c)
      → (((m n : ℕ) → In c m n B → ⊥) × (p.o ≡ New))
      ⊎ (((m : ℕ) × (n : ℕ) × In c m n B) × (choose_place (vertex e) (vertex f) c (others i) (shown_all ((e ∷ (f ∷ ps)) ∷ ws)) ≡ p.o))
      → AllGood p.ls → Goes M R B ls rims
  by_border : (e f : Node) (ps : List Node) (ws : List Ring) → ls ≡ (e ∷ (f ∷ ps)) ∷ ws → Unused (vertex f) (vertex e) R
      → Keeps M R B (with_ring (after_border e f ps) ws) (with_rim (after_border e f ps) (rim_of e f ps) rims)
      → AllGood (with_ring (after_border e f ps) ws)
      → Goes M R B ls rims

-- one triangle across the current edge, or border
pub live_step : (M R B : List Triangle) (e f : Node) (ps : List Node) (ws rims : List Ring) → Keeps M R B ((e ∷ (f ∷ ps)) ∷ ws) rims
    → AllGood ((e ∷ (f ∷ ps)) ∷ ws) → ((c : ℕ) → Neighbours M c) → Goes M R B ((e ∷ (f ∷ ps)) ∷ ws) rims
live_step M R B e f ps ws rims k g fan = go (look (vertex f) (vertex e) R)
  where
    built : (c : ℕ) (i : In (vertex f) (vertex e) c R) → ((m : ℕ) × (n : ℕ) × In c m n B) ⊎ ((m n : ℕ) → In c m n B → ⊥)
        → Goes M R B ((e ∷ (f ∷ ps)) ∷ ws) rims
    built c i (inl r) =
        let three : 1 ≤ length ps = (let h = g.0.1 in omega arith) in
        let p =
        pack_old M (others i) B e f ps ws rims c (keeps_take M R B ((e ∷ (f ∷ ps)) ∷ ws) rims (vertex f) (vertex e) c i k) (fan c)
        (good_live ((e ∷ (f ∷ ps)) ∷ ws) g) three r.0 r.1 r.2 in
        by_build e f ps ws c i refl p.0 (inr (r, p.1)) (good_step e f ps ws p.0.ls c p.0.o p.0.does g)
    built c i (inr n) =
        let p = pack_new M (others i) B e f ps ws rims c (keeps_take M R B ((e ∷ (f ∷ ps)) ∷ ws) rims (vertex f) (vertex e) c i k) (fan c) n
        in
        by_build e f ps ws c i refl p.0 (inl (n, p.1)) (good_step e f ps ws p.0.ls c p.0.o p.0.does g)

    go : ((z : ℕ) × In (vertex f) (vertex e) z R) ⊎ Unused (vertex f) (vertex e) R → Goes M R B ((e ∷ (f ∷ ps)) ∷ ws) rims
    go (inl r) = built r.0 r.1 (has_triangle r.0 B)
    go (inr n) = by_border e f ps ws refl n (keeps_border M R B e f ps ws rims k n) (good_border e f ps ws g (after_border e f ps) refl)

-- packing is never stuck: it is complete, or goes on
pub progress : (M R B : List Triangle) (ls rims : List Ring) → Keeps M R B ls rims → AllGood ls → ((c : ℕ) → Neighbours M c)
    → ((ls ≡ []) × (R ≡ [])) ⊎ Goes M R B ls rims
progress M [] B [] rims k g fan = inl (refl, refl)
progress M (t ∷ R) B [] rims k g fan =
    inr (by_start t R refl refl (keeps_start M R B rims t.p t.q t.r k fan) ((refl, omega arith), tt))
progress M R B ([] ∷ ws) rims k g fan = absurd g.0
progress M R B ((e ∷ []) ∷ ws) rims k g fan = let h = g.0.1 in absurd (omega arith)
progress M R B ((e ∷ (f ∷ ps)) ∷ ws) rims k g fan = inr (live_step M R B e f ps ws rims k g fan)

-- a list in which no directed edge occurs twice begins so
pub begin : (M : List Triangle) → Once M → Keeps M M [] [] []
begin M o = record {
  once_m = o;
  once = o;
  sub_r = λ x y z i. i;
  sub_b = λ x y z i. elim i [ ];
  apart = λ x y z w i j. elim j [ ];
  part = λ x y z i. inl i;
  marks = tt;
  gaps = tt;
  legal = λ x y. inl refl;
  waits = λ x y z w i j. elim i [ ];
}
