-- Laws of what holds at each place of a ring; the places of rings counted.
-- Assumes nothing.
use Prim.Native.Nat.{ℕ, ◌+◌}
use native.Mathlib.Omega.{arith}
use mathlib.Core.List.{List, [], ◌∷◌, ◌++◌}
use mathlib.Core.Path.{◌≡◌, refl, sym, ap, subst}
use Rattle.rules.specs.Ring.{Node, Ring, vertex, start_or, places}
use Rattle.choice_theory.proofs.Places.Corners.{end_or, Along, Around, Everywhere}

pub append_none : (ps : List Node) → ps ++ [] ≡ ps
append_none [] = refl
append_none (p ∷ ps) = ap (λ (l : List Node). p ∷ l) (append_none ps)

pub places_append : (us vs : List Ring) → places (us ++ vs) ≡ places us + places vs
unfolding places
places_append [] vs = omega arith
places_append (u ∷ us) vs = omega (arith, places_append us vs)

pub last_append : (x : ℕ) (us : List Node) (q : Node) (vs : List Node) → end_or x (us ++ (q ∷ vs)) ≡ end_or (vertex q) vs
last_append x [] q vs = refl
last_append x (u ∷ us) q vs = last_append (vertex u) us q vs

module _ (Q : ℕ → ℕ → ℕ → Type 0) where
  pub seg_append : (x : ℕ) (us vs : List Node) (y : ℕ) → Along Q x us (start_or y vs) → Along Q (end_or x us) vs y → Along Q x (us ++ vs) y
  seg_append x [] vs y l m = m
  seg_append x (u ∷ []) vs y l m = (l.0, m)
  seg_append x (u ∷ (v ∷ us)) vs y l m = (l.0, seg_append (vertex u) (v ∷ us) vs y l.1 m)

  pub seg_split : (x : ℕ) (us vs : List Node) (y : ℕ) → Along Q x (us ++ vs) y → Along Q x us (start_or y vs) × Along Q (end_or x us) vs y
  seg_split x [] vs y l = (tt, l)
  seg_split x (u ∷ []) vs y l = ((l.0, tt), l.1)
  seg_split x (u ∷ (v ∷ us)) vs y l =
      let r = seg_split (vertex u) (v ∷ us) vs y l.1 in ((l.0, r.0), r.1)

  -- a ring of two parts
  pub ring_parts : (p : Node) (us : List Node) (q : Node) (vs : List Node) → Around Q ((p ∷ us) ++ (q ∷ vs))
      → Along Q (end_or (vertex q) vs) (p ∷ us) (vertex q) × Along Q (end_or (vertex p) us) (q ∷ vs) (vertex p)
  ring_parts p us q vs r =
      seg_split (end_or (vertex q) vs) (p ∷ us) (q ∷ vs) (vertex p)
      (subst (λ (x : ℕ). Along Q x ((p ∷ us) ++ (q ∷ vs)) (vertex p)) (last_append (vertex p) us q vs) r)

  pub ring_join : (p : Node) (us : List Node) (q : Node) (vs : List Node)
      → Along Q (end_or (vertex q) vs) (p ∷ us) (vertex q) → Along Q (end_or (vertex p) us) (q ∷ vs) (vertex p)
      → Around Q ((p ∷ us) ++ (q ∷ vs))
  ring_join p us q vs l m =
      subst (λ (x : ℕ). Along Q x ((p ∷ us) ++ (q ∷ vs)) (vertex p)) (sym (last_append (vertex p) us q vs))
      (seg_append (end_or (vertex q) vs) (p ∷ us) (q ∷ vs) (vertex p) l m)

  -- where a ring is cut does not matter
  pub ring_swap : (us vs : List Node) → Around Q (us ++ vs) → Around Q (vs ++ us)
  ring_swap [] vs r = subst (Around Q) (sym (append_none vs)) r
  ring_swap (p ∷ us) [] r = subst (Around Q) (append_none (p ∷ us)) r
  ring_swap (p ∷ us) (q ∷ vs) r = let h = ring_parts p us q vs r in ring_join q vs p us h.1 h.0

pub seg_map : {P Q : ℕ → ℕ → ℕ → Type 0} → ((x v y : ℕ) → P x v y → Q x v y) → (x : ℕ) (ps : List Node) (y : ℕ) → Along P x ps y
    → Along Q x ps y
seg_map g x [] y l = tt
seg_map g x (p ∷ ps) y l = (g _ _ _ l.0, seg_map g (vertex p) ps y l.1)

pub ring_map : {P Q : ℕ → ℕ → ℕ → Type 0} → ((x v y : ℕ) → P x v y → Q x v y) → (ps : List Node) → Around P ps → Around Q ps
ring_map g [] r = tt
ring_map g (p ∷ ps) r = seg_map g _ (p ∷ ps) _ r

pub rings_map : {P Q : ℕ → ℕ → ℕ → Type 0} → ((x v y : ℕ) → P x v y → Q x v y) → (ls : List Ring) → Everywhere P ls → Everywhere Q ls
rings_map g [] r = tt
rings_map g (l ∷ ls) r = (ring_map g l r.0, rings_map g ls r.1)
