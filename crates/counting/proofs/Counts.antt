-- Laws of counting equal numbers and equal directed edges.
-- Assumes nothing.
use Prim.Native.Nat.{ℕ, zero, suc, ◌+◌, ◌≤◌}
use native.Mathlib.Omega.{arith}
use mathlib.Core.Bool.{Bool, true, false, ◌&&◌, and_comm}
use mathlib.Core.List.{List, [], ◌∷◌, ◌++◌}
use mathlib.Core.Path.{◌≡◌, refl, sym, ap, ◌∙◌, subst}
use lib.Dec.{eqb}
use borrow.Author.Tests.{eqb-true, eq-eqb, ne_eqb}
use Rattle.rules.specs.Count.{num, same, hit, occurs}

num_once : (s : Bool) → num s ≤ 1
num_once true = omega arith
num_once false = omega arith

-- equal numbers
pub same_once : (v x : ℕ) → same v x ≤ 1
unfolding same
same_once v x = num_once (eqb v x)

pub same_yes : (v : ℕ) → same v v ≡ 1
unfolding same
same_yes v = rw (eq-eqb v v refl)

pub same_no : (v x : ℕ) → (v ≡ x → ⊥) → same v x ≡ 0
unfolding same
same_no v x h = rw (ne_eqb v x h)

pub same_is : (v x : ℕ) → 1 ≤ same v x → v ≡ x
unfolding same
same_is v x h = go (eqb v x) refl h
  where
    go : (t : Bool) → eqb v x ≡ t → 1 ≤ num t → v ≡ x
    go true e k = eqb-true v x e
    go false e k = absurd (omega arith)

pub same_two : (v x y : ℕ) → (x ≡ y → ⊥) → same v x + same v y ≤ 1
same_two v x y h = go (same v x) refl
  where
    go : (n : ℕ) → same v x ≡ n → same v x + same v y ≤ 1
    go zero e = omega (arith, same_once v y)
    go (suc n) e = omega (arith, same_once v x, same_no v y (λ q. h (sym (same_is v x (omega arith)) ∙ q)))

pub occurs_append : (x : ℕ) (vs ws : List ℕ) → occurs x (vs ++ ws) ≡ occurs x vs + occurs x ws
unfolding occurs
occurs_append x [] ws = omega arith
occurs_append x (v ∷ vs) ws = let h = occurs_append x vs ws in omega arith

-- equal edges: one is hit at most once
pub hit_once : (x y p q : ℕ) → hit x y p q ≤ 1
unfolding hit
hit_once x y p q = num_once (eqb x p && eqb y q)

pub hit_yes : (p q : ℕ) → hit p q p q ≡ 1
unfolding hit
hit_yes p q = rw (eq-eqb p p refl, eq-eqb q q refl)

pub hit_from : (x y p q : ℕ) → hit x y p q ≤ same x p
unfolding hit same
hit_from x y p q = go (eqb x p) (eqb y q)
  where
    go : (s t : Bool) → num (s && t) ≤ num s
    go true true = omega arith
    go true false = omega arith
    go false t = omega arith

pub hit_swap : (x y p q : ℕ) → hit x y p q ≡ hit y x q p
unfolding hit
hit_swap x y p q = ap num (and_comm (eqb x p) (eqb y q))

pub hit_to : (x y p q : ℕ) → hit x y p q ≤ same y q
hit_to x y p q = omega (arith, hit_swap x y p q, hit_from y x q p)

pub hit_is : (x y p q : ℕ) → 1 ≤ hit x y p q → (x ≡ p) × (y ≡ q)
hit_is x y p q h = (same_is x p (omega (arith, hit_from x y p q)), same_is y q (omega (arith, hit_to x y p q)))

-- an edge that starts, or ends, elsewhere
pub no_from : (x y p q : ℕ) → (x ≡ p → ⊥) → hit x y p q ≡ 0
no_from x y p q h = omega (arith, hit_from x y p q, same_no x p h)

pub no_to : (x y p q : ℕ) → (y ≡ q → ⊥) → hit x y p q ≡ 0
no_to x y p q h = omega (arith, hit_to x y p q, same_no y q h)

-- an edge between different vertices
pub hit_proper : (x p q : ℕ) → (p ≡ q → ⊥) → hit x x p q ≡ 0
hit_proper x p q d = go (hit x x p q) refl
  where
    go : (n : ℕ) → hit x x p q ≡ n → n ≡ 0
    go zero e = refl
    go (suc n) e = absurd (d (sym (same_is x p (omega (arith, hit_from x x p q))) ∙ same_is x q (omega (arith, hit_to x x p q))))

-- what holds at p→q and at all other edges
pub at_edge_lem : (P : ℕ → ℕ → Type 0) (p q : ℕ) → P p q → ((x y : ℕ) → hit x y p q ≡ 0 → P x y) → (x y : ℕ) → P x y
unfolding hit
at_edge_lem P p q here else x y = go (eqb x p) refl (eqb y q) refl
  where
    go : (s : Bool) → eqb x p ≡ s → (t : Bool) → eqb y q ≡ t → P x y
    go true e true f = subst (λ (k : ℕ). P k y) (sym (eqb-true x p e)) (subst (λ (k : ℕ). P p k) (sym (eqb-true y q f)) here)
    go true e false f = else x y (rw (e, f))
    go false e t f = else x y (rw e)

-- of two different edges at most one is hit
pub apart_from : (p q p' q' : ℕ) → (p ≡ p' → ⊥) → (x y : ℕ) → hit x y p q + hit x y p' q' ≤ 1
apart_from p q p' q' h =
    at_edge_lem (λ (x y : ℕ). hit x y p q + hit x y p' q' ≤ 1) p q (omega (arith, hit_yes p q, no_from p q p' q' h))
    (λ x y e. omega (arith, hit_once x y p' q'))

pub apart_to : (p q p' q' : ℕ) → (q ≡ q' → ⊥) → (x y : ℕ) → hit x y p q + hit x y p' q' ≤ 1
apart_to p q p' q' h =
    at_edge_lem (λ (x y : ℕ). hit x y p q + hit x y p' q' ≤ 1) p q (omega (arith, hit_yes p q, no_to p q p' q' h))
    (λ x y e. omega (arith, hit_once x y p' q'))
