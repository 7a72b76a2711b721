-- Records' last numbers that are 0 or 1.
-- Assumes nothing.
use Prim.Native.Nat.{ℕ, zero, suc, ◌+◌, ◌*◌, ◌≤◌, ◌<◌}
use native.Mathlib.Omega.{arith}
use mathlib.Core.Bool.{Bool, true, false}
use mathlib.Core.List.{List, [], ◌∷◌}
use mathlib.Core.Path.{◌≡◌, refl, ap, ◌∙◌}
use lib.ListN.{set, get_or}
use lib.Seq.{get_or-set_other}
use lib.Dec.{eqb}
use borrow.Author.Tests.{eqb-true, eqb-false}
use Rattle.rules.specs.declared.Place.{Place}
use Rattle.border_theory.specs.Records.Plain.{number_of, is_one, record_at}

-- those of the first i records; all records are those of m₀
pub record Settled (m₀ m : List ℕ) (i : ℕ) : Type 0 where
  pub most : i ≤ 1024
  pub each : (p : ℕ) → p < i → get_or m (4 * p + 3) 0 ≤ 1
  pub same : (p : ℕ) → record_at m p ≡ record_at m₀ p

number_le : (b : Bool) → number_of b ≤ 1
number_le true = omega arith
number_le false = omega arith

pub number_one : (b : Bool) → is_one (number_of b) ≡ b
number_one true = refl
number_one false = refl

-- a number that is stored is at most that; if the list is too short it is 0
set_small : (m : List ℕ) (k x : ℕ) → x ≤ 1 → get_or (set m k x) k 0 ≤ 1
set_small [] k x h = omega arith
set_small (y ∷ m) zero x h = h
set_small (y ∷ m) (suc k) x h = set_small m k x h

-- a number stored again as 1 or 0 is open as before
set_open : (m : List ℕ) (k : ℕ) → is_one (get_or (set m k (number_of (is_one (get_or m k 0)))) k 0) ≡ is_one (get_or m k 0)
set_open [] k = refl
set_open (y ∷ m) zero = number_one (is_one y)
set_open (y ∷ m) (suc k) = set_open m k

-- the memory with record i settled
abbrev settled_at : List ℕ → ℕ → List ℕ
settled_at m i = set m (4 * i + 3) (number_of (is_one (get_or m (4 * i + 3) 0)))

place : ℕ → ℕ → ℕ → Bool → Place
place v b a o = record { vertex = v; before = b; after = a; «open» = o }

-- it has the same records
keeps : (m : List ℕ) (i p : ℕ) → record_at (settled_at m i) p ≡ record_at m p
unfolding place
keeps m i p =
    let x : ℕ = number_of (is_one (get_or m (4 * i + 3) 0)) in
    let v = get_or-set_other m (4 * i + 3) (4 * p) x 0 (λ z. omega (arith, z)) in
    let b = get_or-set_other m (4 * i + 3) (4 * p + 1) x 0 (λ z. omega (arith, z)) in
    let a = get_or-set_other m (4 * i + 3) (4 * p + 2) x 0 (λ z. omega (arith, z)) in
    ap (λ (n : ℕ). place n (get_or (settled_at m i) (4 * p + 1) 0) (get_or (settled_at m i) (4 * p + 2) 0)
    (is_one (get_or (settled_at m i) (4 * p + 3) 0))) v
    ∙ ap (λ (n : ℕ). place (get_or m (4 * p) 0) n (get_or (settled_at m i) (4 * p + 2) 0) (is_one (get_or (settled_at m i) (4 * p + 3) 0)))
    b
    ∙ ap (λ (n : ℕ). place (get_or m (4 * p) 0) (get_or m (4 * p + 1) 0) n (is_one (get_or (settled_at m i) (4 * p + 3) 0))) a
    ∙ ap (place (get_or m (4 * p) 0) (get_or m (4 * p + 1) 0) (get_or m (4 * p + 2) 0)) (go (eqb p i) refl)
  where
    go : (t : Bool) → eqb p i ≡ t → is_one (get_or (settled_at m i) (4 * p + 3) 0) ≡ is_one (get_or m (4 * p + 3) 0)
    go true e = let q : p ≡ i = eqb-true p i e in rw q (set_open m (4 * i + 3))
    go false e =
        let n = eqb-false p i e in
        ap is_one (get_or-set_other m (4 * i + 3) (4 * p + 3) (number_of (is_one (get_or m (4 * i + 3) 0))) 0 (λ z. n (omega (arith, z))))
