-- The numbering that a packing writes: where a vertex stands among those that have a number.
-- Assumes nothing.
use Prim.Native.Nat.{ℕ, zero, suc, ◌+◌, ◌≤◌, ◌<◌}
use native.Mathlib.Omega.{arith}
use native.Mathlib.Decide.{dec_le}
use mathlib.Core.Bool.{Bool, true, false}
use mathlib.Core.List.{List, [], ◌∷◌, ◌++◌}
use mathlib.Core.Path.{◌≡◌, refl, sym, ap, ◌∙◌, subst}
use lib.ListN.{length, get_or, length-append}
use lib.Seq.{get_or_at}
use lib.Dec.{eqb}
use borrow.Author.Tests.{eq-eqb, ne_eqb}
use Rattle.rules.specs.Count.{num, same, occurs}
use Rattle.rules.specs.Choice.{has}
use Rattle.rules.specs.Pack.{index_of, new_numbers}
use Rattle.choice_theory.proofs.Runs.Tracking.{up_to}

pub get_d_front : (xs ys : List ℕ) (i : ℕ) → i < length xs → get_or (xs ++ ys) i 0 ≡ get_or xs i 0
get_d_front [] ys i h = absurd (omega arith)
get_d_front (x ∷ xs) ys zero h = refl
get_d_front (x ∷ xs) ys (suc i) h = get_d_front xs ys i (omega arith)

pub length_new : (n : ℕ) (vs : List ℕ) → length (new_numbers n vs) ≡ n
unfolding new_numbers
length_new zero vs = refl
length_new (suc n) vs = omega (arith, length-append (new_numbers n vs) (index_of n vs ∷ []), length_new n vs)

-- the entry of an old vertex is its new number
pub new_at : (n x : ℕ) (vs : List ℕ) → x < n → get_or (new_numbers n vs) x 0 ≡ index_of x vs
unfolding new_numbers
new_at zero x vs h = absurd (omega arith)
new_at (suc n) x vs h = go (dec_le (suc x) n) (new_at n x vs)
  where
    go : Dec (suc x ≤ n) → (x < n → get_or (new_numbers n vs) x 0 ≡ index_of x vs)
        → get_or (new_numbers n vs ++ (index_of n vs ∷ [])) x 0 ≡ index_of x vs
    go (yes l) ih = get_d_front (new_numbers n vs) (index_of n vs ∷ []) x (omega (arith, length_new n vs)) ∙ ih l
    go (no l) ih =
        let e : n ≡ x = omega arith in
        get_or_at (new_numbers n vs) (index_of n vs) [] 0 x (length_new n vs ∙ e) ∙ ap (λ (k : ℕ). index_of k vs) e

-- a number of the list
pub has_at : (n : ℕ) (vs : List ℕ) → n < length vs → has (get_or vs n 0) vs ≡ true
unfolding has
has_at n [] h = absurd (omega arith)
has_at zero (v ∷ vs) h = rw (has, eq-eqb v v refl) refl
has_at (suc n) (v ∷ vs) h = go (eqb (get_or vs n 0) v) (has_at n vs (omega arith))
  where
    go : (t : Bool) → has (get_or vs n 0) vs ≡ true → ◌≡◌ {A = Bool} (elim t [ true ↦ true | false ↦ has (get_or vs n 0) vs ]) true
    go true g = refl
    go false g = g

occurs_at : (n : ℕ) (vs : List ℕ) → n < length vs → 1 ≤ occurs (get_or vs n 0) vs
unfolding occurs same
occurs_at n [] h = absurd (omega arith)
occurs_at zero (v ∷ vs) h = let e : num (eqb v v) ≡ 1 = ap num (eq-eqb v v refl) in omega arith
occurs_at (suc n) (v ∷ vs) h = let k = occurs_at n vs (omega arith) in omega arith

-- stands where it stands, if no number occurs twice
pub index_at : (n : ℕ) (vs : List ℕ) → ((x : ℕ) → occurs x vs ≤ 1) → n < length vs → index_of (get_or vs n 0) vs ≡ n
unfolding index_of occurs same
index_at n [] d h = absurd (omega arith)
index_at zero (v ∷ vs) d h = rw (index_of, eq-eqb v v refl) refl
index_at (suc n) (v ∷ vs) d h =
    rw (index_of, ne_eqb (get_or vs n 0) v apart) (ap suc (index_at n vs (λ x. (let k = d x in omega arith)) (omega arith)))
  where
    apart : get_or vs n 0 ≡ v → ⊥
    apart e =
        let k = d v in
        let one : num (eqb v v) ≡ 1 = ap num (eq-eqb v v refl) in
        let l : 1 ≤ occurs v vs = subst (λ (x : ℕ). 1 ≤ occurs x vs) e (occurs_at n vs (omega arith)) in
        omega arith

pub length_up : (n : ℕ) → length (up_to n) ≡ n
length_up zero = refl
length_up (suc n) = omega (arith, length-append (up_to n) (n ∷ []), length_up n)

index_front : (x : ℕ) (vs ws : List ℕ) → index_of x vs < length vs → index_of x (vs ++ ws) ≡ index_of x vs
unfolding index_of
index_front x [] ws h = absurd (omega arith)
index_front x (v ∷ vs) ws h = go (eqb x v) (index_front x vs ws) h
  where
    go : (t : Bool) → (index_of x vs < length vs → index_of x (vs ++ ws) ≡ index_of x vs)
        → elim t [ true ↦ 0 | false ↦ suc (index_of x vs) ] < suc (length vs)
        → ◌≡◌ {A = ℕ} (elim t [ true ↦ 0 | false ↦ suc (index_of x (vs ++ ws)) ]) (elim t [ true ↦ 0 | false ↦ suc (index_of x vs) ])
    go true ih g = refl
    go false ih g = ap suc (ih (omega arith))

index_after : (x : ℕ) (vs ws : List ℕ) → ((k : ℕ) → k < length vs → get_or vs k 0 ≡ x → ⊥) → index_of x (vs ++ (x ∷ ws)) ≡ length vs
unfolding index_of
index_after x [] ws h = rw (index_of, eq-eqb x x refl) refl
index_after x (v ∷ vs) ws h =
    rw (index_of, ne_eqb x v (λ e. h 0 (omega arith) (sym e))) (ap suc (index_after x vs ws (λ k l. h (suc k) (omega arith))))

up_at : (n k : ℕ) → k < n → get_or (up_to n) k 0 ≡ k
up_at zero k h = absurd (omega arith)
up_at (suc n) k h = go (dec_le (suc k) n) (up_at n k)
  where
    go : Dec (suc k ≤ n) → (k < n → get_or (up_to n) k 0 ≡ k) → get_or (up_to n ++ (n ∷ [])) k 0 ≡ k
    go (yes l) ih = get_d_front (up_to n) (n ∷ []) k (omega (arith, length_up n)) ∙ ih l
    go (no l) ih = let e : n ≡ k = omega arith in get_or_at (up_to n) n [] 0 k (length_up n ∙ e) ∙ e

-- in the list of all numbers below n each stands at its own place
pub index_up : (n x : ℕ) → x < n → index_of x (up_to n) ≡ x
index_up zero x h = absurd (omega arith)
index_up (suc n) x h = go (dec_le (suc x) n) (index_up n x)
  where
    go : Dec (suc x ≤ n) → (x < n → index_of x (up_to n) ≡ x) → index_of x (up_to n ++ (n ∷ [])) ≡ x
    go (yes l) ih = let k = ih l in index_front x (up_to n) (n ∷ []) (omega (arith, length_up n)) ∙ k
    go (no l) ih =
        let e : n ≡ x = omega arith in
        ap (λ (k : ℕ). index_of x (up_to n ++ (k ∷ []))) e
        ∙ (index_after x (up_to n) [] (λ k g q. (let z = up_at n k (omega (arith, length_up n)) in omega (arith, length_up n)))
        ∙ (length_up n ∙ e))
