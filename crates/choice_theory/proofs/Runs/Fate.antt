-- The fate of each place: later triangles fill its gap, up to the border. Backwards over the operations.
-- Assumes nothing.
use Prim.Native.Nat.{ℕ, ◌+◌}
use mathlib.Core.Bool.{Bool, true, false}
use mathlib.Core.List.{List, [], ◌∷◌, ◌++◌}
use mathlib.Core.Path.{◌≡◌, refl, sym, subst}
use Rattle.rules.specs.declared.Triangle.{Triangle}
use Rattle.rules.specs.declared.Operation.{Operation}
use Rattle.rules.specs.declared.Operation.TheVariants.{New, Forward, Backward, Split, Close, Union}
use Rattle.rules.specs.Ring.{Node, opened, Ring, vertex}
use Rattle.rules.specs.Table.{in_order}
use Rattle.rules.specs.Triangle.{at_p, at_q, at_r, here}
use Rattle.choice_theory.specs.Full.{fewer, fewer_first}
use Rattle.choice_theory.proofs.Turning.Turn.{rest, turn}
use Rattle.choice_theory.proofs.Places.Corners.{Around, Everywhere, Filled}
use Rattle.choice_theory.proofs.Steps.Surgery.{triangle_at, Surgery, on_new, on_forward, on_backward, on_close, on_split, on_union}
use Rattle.choice_theory.proofs.Turning.Links.{turn_join, turn_more}
use Rattle.choice_theory.proofs.Places.Rings.{ring_swap, rings_map}
use Rattle.choice_theory.proofs.Places.Back.{back_new, back_forward, back_backward, back_close, back_split, back_union}

-- the two rings of a split, whichever comes first
pub rings_shorter : (Q : ℕ → ℕ → ℕ → Type 0) (a b : List Node) (ws : List Ring) → Everywhere Q (fewer_first a b ws)
    → Around Q a × Around Q b × Everywhere Q ws
unfolding in_order
rings_shorter Q a b ws r = go (fewer a b) r
  where
    go : (t : Bool) → Everywhere Q (in_order t a b ws) → Around Q a × Around Q b × Everywhere Q ws
    go true h = (h.0, h.1.0, h.1.1)
    go false h = (h.1.0, h.0, h.1.1)

pub rings_append : (Q : ℕ → ℕ → ℕ → Type 0) (us vs : List Ring) → Everywhere Q us → Everywhere Q vs → Everywhere Q (us ++ vs)
rings_append Q [] vs r s = s
rings_append Q (u ∷ us) vs r s = (r.0, rings_append Q us vs r.1 s)

pub rings_split : (Q : ℕ → ℕ → ℕ → Type 0) (us vs : List Ring) → Everywhere Q (us ++ vs) → Everywhere Q us × Everywhere Q vs
rings_split Q [] vs r = (tt, r)
rings_split Q (u ∷ us) vs r = let h = rings_split Q us vs r.1 in ((r.0, h.0), h.1)

-- one operation back
module _ (M R : List Triangle) (e f : Node) (p : Node) where
  pub more : (x v y : ℕ) → Filled M R x v y → Filled M (triangle_at e f (vertex p) ∷ R) x v y
  more x v y h = turn_more (triangle_at e f (vertex p)) h

  pub joined : (x v y z : ℕ) → Filled M (triangle_at e f (vertex p) ∷ R) x v y → Filled M (triangle_at e f (vertex p) ∷ R) y v z
      → Filled M (triangle_at e f (vertex p) ∷ R) x v z
  joined x v y z h k = turn_join h k

  pub none : (x v : ℕ) → Filled M R x v x
  none x v = rest

  pub at_a : Filled M (triangle_at e f (vertex p) ∷ R) (vertex p) (vertex e) (vertex f)
  at_a = turn (here (at_q refl refl refl)) rest

  pub at_b : Filled M (triangle_at e f (vertex p) ∷ R) (vertex e) (vertex f) (vertex p)
  at_b = turn (here (at_p refl refl refl)) rest

  pub at_c : Filled M (triangle_at e f (vertex p) ∷ R) (vertex f) (vertex p) (vertex e)
  at_c = turn (here (at_r refl refl refl)) rest

more_rings : (M R : List Triangle) (t : Triangle) (ls : List Ring) → Everywhere (Filled M R) ls → Everywhere (Filled M (t ∷ R)) ls
more_rings M R t ls r = rings_map (λ x v y h. turn_more {M = M} {c = v} {ts = R} {x = x} {y = y} t h) ls r

-- the triangle's corner and the places beyond f by their other names
at_corner : (M R : List Triangle) (e f : Node) (ps qs : List Node) (ws : List Ring) (c d : ℕ) → ps ≡ qs → c ≡ d
    → Everywhere (Filled M (triangle_at e f d ∷ R)) ((e ∷ (f ∷ qs)) ∷ ws)
    → Everywhere (Filled M (triangle_at e f c ∷ R)) ((e ∷ (f ∷ ps)) ∷ ws)
at_corner M R e f ps qs ws c d h k r =
    subst (λ (x : ℕ). Everywhere (Filled M (triangle_at e f x ∷ R)) ((e ∷ (f ∷ ps)) ∷ ws)) (sym k)
    (subst (λ (xs : List Node). Everywhere (Filled M (triangle_at e f d ∷ R)) ((e ∷ (f ∷ xs)) ∷ ws)) (sym h) r)

-- and the loops that wait
at_waiting : (M R : List Triangle) (e f : Node) (ps : List Node) (ws vs : List Ring) (c d : ℕ) → ws ≡ vs → c ≡ d
    → Everywhere (Filled M (triangle_at e f d ∷ R)) ((e ∷ (f ∷ ps)) ∷ vs)
    → Everywhere (Filled M (triangle_at e f c ∷ R)) ((e ∷ (f ∷ ps)) ∷ ws)
at_waiting M R e f ps ws vs c d h k r =
    subst (λ (x : ℕ). Everywhere (Filled M (triangle_at e f x ∷ R)) ((e ∷ (f ∷ ps)) ∷ ws)) (sym k)
    (subst (λ (xs : List Ring). Everywhere (Filled M (triangle_at e f d ∷ R)) ((e ∷ (f ∷ ps)) ∷ xs)) (sym h) r)

pub back_step : (M R : List Triangle) (e f : Node) (ps : List Node) (ws ls : List Ring) (c : ℕ) (o : Operation) → Surgery e f ps ws ls c o
    → Everywhere (Filled M R) ls → Everywhere (Filled M (triangle_at e f c ∷ R)) ((e ∷ (f ∷ ps)) ∷ ws)
back_step M R e f ps ws ls c New (on_new q) r =
    let r' = subst (Everywhere (Filled M R)) q r in
    let p = opened c in (
      back_new _ _ (more M R e f p) (joined M R e f p) (none M R e f p) e f p (at_a M R e f p) (at_b M R e f p) (at_c M R e f p) ps r'.0,
      more_rings M R (triangle_at e f c) ws r'.1,
    )
back_step M R e f ps ws ls c Forward (on_forward p q qs sh k op l) r =
    let r' = subst (Everywhere (Filled M R)) l r in
    at_corner M R e f _ _ ws _ _ sh k (
      back_forward _ _ (more M R e f p) (joined M R e f p) (none M R e f p) e f p (at_a M R e f p) (at_b M R e f p) (at_c M R e f p) q qs
          r'.0,
      more_rings M R (triangle_at e f (vertex p)) ws r'.1,
    )
back_step M R e f ps ws ls c Backward (on_backward q qs p sh k op l) r =
    let r' = subst (Everywhere (Filled M R)) l r in
    at_corner M R e f _ _ ws _ _ sh k (
      back_backward _ _ (more M R e f p) (joined M R e f p) (none M R e f p) e f p (at_a M R e f p) (at_b M R e f p) (at_c M R e f p)
          (q ∷ qs) r'.0,
      more_rings M R (triangle_at e f (vertex p)) ws r'.1,
    )
back_step M R e f ps ws ls c Close (on_close p sh k op op' l) r =
    let r' = subst (Everywhere (Filled M R)) l r in
    at_corner M R e f _ _ ws _ _ sh k (
      back_close _ _ (more M R e f p) (joined M R e f p) (none M R e f p) e f p (at_a M R e f p) (at_b M R e f p) (at_c M R e f p),
      more_rings M R (triangle_at e f (vertex p)) ws r',
    )
back_step M R e f ps ws ls c (Split i) (on_split us p vs sh n lu lv k l) r =
    let r' = rings_shorter (Filled M R) (opened (vertex p) ∷ (f ∷ us)) (opened (vertex e) ∷ (p ∷ vs)) ws
    (subst (Everywhere (Filled M R)) l r) in
    at_corner M R e f _ _ ws _ _ sh k (
      back_split _ _ (more M R e f p) (joined M R e f p) (none M R e f p) e f p (at_a M R e f p) (at_b M R e f p) (at_c M R e f p) us vs
          r'.0 r'.1,
      more_rings M R (triangle_at e f (vertex p)) ws r'.2,
    )
back_step M R e f ps ws ls c (Union w j) (on_union before us p vs after sh n m k l) r =
    let r' = subst (Everywhere (Filled M R)) l r in
    let t = triangle_at e f (vertex p) in
    let b = rings_split (Filled M (t ∷ R)) before after (more_rings M R t (before ++ after) r'.1) in
    let h = back_union _ _ (more M R e f p) (joined M R e f p) (none M R e f p) e f p (at_a M R e f p) (at_b M R e f p) (at_c M R e f p) ps
    (vs ++ us) r'.0 in
    at_waiting M R e f ps _ _ _ _ sh k
    (h.0, rings_append (Filled M (t ∷ R)) before ((us ++ (p ∷ vs)) ∷ after) b.0 (ring_swap (Filled M (t ∷ R)) (p ∷ vs) us h.1, b.1))
back_step M R e f ps ws ls c Rattle.rules.specs.declared.Operation.TheVariants.Border x'' r = elim x'' [ ]
back_step M R e f ps ws ls c Rattle.rules.specs.declared.Operation.TheVariants.Start x3 r = elim x3 [ ]
