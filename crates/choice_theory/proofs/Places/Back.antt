-- What holds at the places after an operation, taken back to the places before it.
-- Assumes nothing.
use Prim.Native.Nat.{ℕ}
use mathlib.Core.List.{List, [], ◌∷◌, ◌++◌}
use Rattle.rules.specs.Ring.{Node, opened, vertex, start_or}
use Rattle.choice_theory.proofs.Places.Corners.{end_or, Along, Around}
use Rattle.choice_theory.proofs.Places.Rings.{ring_parts, ring_join, seg_map}

-- the place of c that an operation names stood between x and y; its heirs
pub record Heirs (P : ℕ → ℕ → ℕ → Type 0) (a b c x y : ℕ) : Type 0 where
  pub enter : P x c b
  pub leave : P a c y

-- P holds after the triangle b a c, Q before it; e and f are places of a and b, p one of c
module _ (P Q : ℕ → ℕ → ℕ → Type 0) (more : (x v y : ℕ) → P x v y → Q x v y)
    (join : (x v y z : ℕ) → Q x v y → Q y v z → Q x v z) (none : (x v : ℕ) → P x v x) (e f p : Node)
    (at_a : Q (vertex p) (vertex e) (vertex f)) (at_b : Q (vertex e) (vertex f) (vertex p))
    (at_c : Q (vertex f) (vertex p) (vertex e)) where
  -- from f on
  front : (ps : List Node) (y : ℕ) → Along P (vertex p) (f ∷ ps) y → Along Q (vertex e) (f ∷ ps) y
  front ps y l = (join _ _ _ _ at_b (more _ _ _ l.0), seg_map more (vertex f) ps y l.1)

  at_e : (x : ℕ) → P x (vertex e) (vertex p) → Q x (vertex e) (vertex f)
  at_e x h = join _ _ _ _ (more _ _ _ h) at_a

  -- the place of c: from its heirs
  at_place : {x y : ℕ} → P x (vertex p) (vertex f) → P (vertex e) (vertex p) y → Q x (vertex p) y
  at_place h k = join _ _ _ _ (more _ _ _ h) (join _ _ _ _ at_c (more _ _ _ k))

  pub back_new : (ps : List Node) → Around P (p ∷ (f ∷ (ps ++ (opened (vertex e) ∷ [])))) → Around Q (e ∷ (f ∷ ps))
  back_new ps r =
      let h = ring_parts P p (f ∷ ps) (opened (vertex e)) [] r in
      (at_e _ h.1.0, front ps (vertex e) h.0.1)

  pub back_forward : (q : Node) (qs : List Node) → Around P (opened (vertex e) ∷ (p ∷ (q ∷ qs))) → Around Q (e ∷ (f ∷ (p ∷ (q ∷ qs))))
  back_forward q qs r = (
    at_e _ r.0,
    (at_b, (join _ _ _ _ at_c (more _ _ _ r.1.0), seg_map more (vertex p) (q ∷ qs) (vertex e) r.1.1)),
  )

  pub heirs_forward : (q : Node) (qs : List Node) → Around P (opened (vertex e) ∷ (p ∷ (q ∷ qs)))
      → Heirs P (vertex e) (vertex f) (vertex p) (vertex f) (vertex q)
  heirs_forward q qs r = record { enter = none _ _; leave = r.1.0 }

  pub back_backward : (qs : List Node) → Around P (opened (vertex p) ∷ (f ∷ qs)) → Around Q (e ∷ (f ∷ (qs ++ (p ∷ []))))
  back_backward qs r =
      ring_join Q e (f ∷ qs) p [] (at_a, front qs (vertex p) r.1) (join _ _ _ _ (more _ _ _ r.0) at_c, tt)

  pub heirs_backward : (qs : List Node) → Around P (opened (vertex p) ∷ (f ∷ qs))
      → Heirs P (vertex e) (vertex f) (vertex p) (end_or (vertex f) qs) (vertex e)
  heirs_backward qs r = record { enter = r.0; leave = none _ _ }

  pub back_close : Around Q (e ∷ (f ∷ (p ∷ [])))
  back_close = (at_a, (at_b, (at_c, tt)))

  pub heirs_close : Heirs P (vertex e) (vertex f) (vertex p) (vertex f) (vertex e)
  heirs_close = record { enter = none _ _; leave = none _ _ }

  pub back_split : (us vs : List Node) → Around P (opened (vertex p) ∷ (f ∷ us)) → Around P (opened (vertex e) ∷ (p ∷ vs))
      → Around Q (e ∷ (f ∷ (us ++ (p ∷ vs))))
  back_split us vs r s =
      ring_join Q e (f ∷ us) p vs
      (at_e _ s.0, front us (vertex p) r.1)
      (at_place r.0 s.1.0, seg_map more (vertex p) vs (vertex e) s.1.1)

  pub heirs_split : (us vs : List Node) → Around P (opened (vertex p) ∷ (f ∷ us)) → Around P (opened (vertex e) ∷ (p ∷ vs))
      → Heirs P (vertex e) (vertex f) (vertex p) (end_or (vertex f) us) (start_or (vertex e) vs)
  heirs_split us vs r s = record { enter = r.0; leave = s.1.0 }

  -- the waiting ring, from p on, is p ∷ vs
  pub back_union : (ps vs : List Node) → Around P (opened (vertex p) ∷ (f ∷ (ps ++ (opened (vertex e) ∷ (p ∷ vs)))))
      → Around Q (e ∷ (f ∷ ps)) × Around Q (p ∷ vs)
  back_union ps vs r =
      let h = ring_parts P (opened (vertex p)) (f ∷ ps) (opened (vertex e)) (p ∷ vs) r in (
        (at_e _ h.1.0, front ps (vertex e) h.0.1),
        (at_place h.0.0 h.1.1.0, seg_map more (vertex p) vs (vertex p) h.1.1.1),
      )

  pub heirs_union : (ps vs : List Node) → Around P (opened (vertex p) ∷ (f ∷ (ps ++ (opened (vertex e) ∷ (p ∷ vs)))))
      → Heirs P (vertex e) (vertex f) (vertex p) (end_or (vertex p) vs) (start_or (vertex p) vs)
  heirs_union ps vs r =
      let h = ring_parts P (opened (vertex p)) (f ∷ ps) (opened (vertex e)) (p ∷ vs) r in
      record { enter = h.0.0; leave = h.1.1.0 }
