-- Lists in which no number occurs twice: the numbered vertices, and how many they are.
-- Assumes nothing.
use Prim.Native.Nat.{ℕ, zero, suc, ◌+◌, ◌≤◌, ◌<◌}
use native.Mathlib.Omega.{arith}
use mathlib.Core.Bool.{Bool, true, false, false≢true}
use mathlib.Core.List.{List, [], ◌∷◌, ◌++◌, append_assoc}
use mathlib.Core.Path.{◌≡◌, refl, sym, ap, ◌∙◌, subst}
use mathlib.Core.Logic.{◌⊎◌, inl, inr}
use lib.ListN.{length}
use lib.Dec.{eqb}
use borrow.Author.Tests.{eqb-true, eqb-false}
use Rattle.rules.specs.Count.{num, same, occurs}
use Rattle.rules.specs.Choice.{has}
use Rattle.choice_theory.proofs.Places.Numbering.{has_not}
use Rattle.counting.proofs.Counts.{same_yes, same_no, occurs_append}

-- two numbers are equal, and counted, or not
same_by : (x y : ℕ) (t : Bool) → eqb x y ≡ t → ((num t ≡ 0) × (x ≡ y → ⊥)) ⊎ ((num t ≡ 1) × (x ≡ y))
same_by x y true e = inr (refl, eqb-true x y e)
same_by x y false e = inl (refl, eqb-false x y e)

same_cases : (x y : ℕ) → ((same x y ≡ 0) × (x ≡ y → ⊥)) ⊎ ((same x y ≡ 1) × (x ≡ y))
unfolding same
same_cases x y = same_by x y (eqb x y) refl

-- no number occurs twice
abbrev pub Distinct : List ℕ → Type 0
Distinct vs = (x : ℕ) → occurs x vs ≤ 1

-- whether a number is in the list
occurs_by : (x v : ℕ) (vs : List ℕ) (t : Bool) → eqb x v ≡ t
    → ((has x vs ≡ false) × (occurs x vs ≡ 0)) ⊎ ((has x vs ≡ true) × (1 ≤ occurs x vs))
    → ((◌≡◌ {A = Bool} (elim t [ true ↦ true | false ↦ has x vs ]) false) × (num t + occurs x vs ≡ 0))
    ⊎ ((◌≡◌ {A = Bool} (elim t [ true ↦ true | false ↦ has x vs ]) true) × (1 ≤ num t + occurs x vs))
occurs_by x v vs true e h = inr (refl, omega arith)
occurs_by x v vs false e (inl h) = inl (h.0, let k = h.1 in omega arith)
occurs_by x v vs false e (inr h) = inr (h.0, let k = h.1 in omega arith)

occurs_cases : (x : ℕ) (vs : List ℕ) → ((has x vs ≡ false) × (occurs x vs ≡ 0)) ⊎ ((has x vs ≡ true) × (1 ≤ occurs x vs))
unfolding occurs has same
occurs_cases x [] = inl (refl, refl)
occurs_cases x (v ∷ vs) = occurs_by x v vs (eqb x v) refl (occurs_cases x vs)

occurs_none : (x : ℕ) (vs : List ℕ) → has x vs ≡ false → occurs x vs ≡ 0
occurs_none x vs h = go (occurs_cases x vs)
  where
    go : ((has x vs ≡ false) × (occurs x vs ≡ 0)) ⊎ ((has x vs ≡ true) × (1 ≤ occurs x vs)) → occurs x vs ≡ 0
    go (inl r) = r.1
    go (inr r) = absurd (false≢true (sym h ∙ r.0))

occurs_some : (x : ℕ) (vs : List ℕ) → has x vs ≡ true → 1 ≤ occurs x vs
occurs_some x vs h = go (occurs_cases x vs)
  where
    go : ((has x vs ≡ false) × (occurs x vs ≡ 0)) ⊎ ((has x vs ≡ true) × (1 ≤ occurs x vs)) → 1 ≤ occurs x vs
    go (inl r) = absurd (false≢true (sym r.0 ∙ h))
    go (inr r) = r.1

some_occurs : (x : ℕ) (vs : List ℕ) → 1 ≤ occurs x vs → has x vs ≡ true
some_occurs x vs h = go (occurs_cases x vs)
  where
    go : ((has x vs ≡ false) × (occurs x vs ≡ 0)) ⊎ ((has x vs ≡ true) × (1 ≤ occurs x vs)) → has x vs ≡ true
    go (inl r) = let k = r.1 in absurd (omega arith)
    go (inr r) = r.0

-- a number that is not in the list is added
pub distinct_new : (vs : List ℕ) (c : ℕ) → Distinct vs → has c vs ≡ false → Distinct (vs ++ (c ∷ []))
unfolding occurs
distinct_new vs c d h x =
    let e : occurs x (vs ++ (c ∷ [])) ≡ occurs x vs + (same x c + 0) = occurs_append x vs (c ∷ []) in
    go e (same_cases x c)
  where
    go : occurs x (vs ++ (c ∷ [])) ≡ occurs x vs + (same x c + 0) → ((same x c ≡ 0) × (x ≡ c → ⊥)) ⊎ ((same x c ≡ 1) × (x ≡ c))
        → occurs x (vs ++ (c ∷ [])) ≤ 1
    go e (inl r) = let k = r.0 in let l = d x in omega arith
    go e (inr r) = let k = r.0 in let l : occurs x vs ≡ 0 = occurs_none x vs (subst (λ (y : ℕ). has y vs ≡ false) (sym r.1) h) in
        omega arith

pub distinct_start : (vs : List ℕ) (p q r : ℕ) → Distinct vs → has p vs ≡ false → has q vs ≡ false → has r vs ≡ false
    → ((p ≡ q) → ⊥) × ((q ≡ r) → ⊥) × ((r ≡ p) → ⊥) → Distinct (vs ++ (p ∷ (q ∷ (r ∷ []))))
distinct_start vs p q r d hp hq hr n =
    let d1 = distinct_new vs p d hp in
    let d2 = distinct_new (vs ++ (p ∷ [])) q d1 (has_not q p vs hq (λ g. n.0 (sym g))) in
    let d3 = distinct_new ((vs ++ (p ∷ [])) ++ (q ∷ [])) r d2 (has_not r q (vs ++ (p ∷ [])) (has_not r p vs hr n.2) (λ g. n.1 (sym g)))
    in
    subst Distinct (append_assoc (vs ++ (p ∷ [])) (q ∷ []) (r ∷ []) ∙ append_assoc vs (p ∷ []) (q ∷ (r ∷ []))) d3

-- how often the numbers below n occur in all
abbrev sum : ℕ → List ℕ → ℕ
sum zero vs = 0
sum (suc n) vs = occurs n vs + sum n vs

sum_out : (n x : ℕ) (vs : List ℕ) → n ≤ x → sum n (x ∷ vs) ≡ sum n vs
unfolding occurs
sum_out zero x vs h = refl
sum_out (suc n) x vs h = let k = sum_out n x vs (omega arith) in let s = same_no n x (λ e. omega arith) in omega arith

sum_in : (n x : ℕ) (vs : List ℕ) → x < n → sum n (x ∷ vs) ≡ suc (sum n vs)
unfolding occurs
sum_in zero x vs h = absurd (omega arith)
sum_in (suc n) x vs h = go (same_cases n x) (sum_in n x vs)
  where
    go : ((same n x ≡ 0) × (n ≡ x → ⊥)) ⊎ ((same n x ≡ 1) × (n ≡ x)) → (x < n → sum n (x ∷ vs) ≡ suc (sum n vs))
        → (same n x + occurs n vs) + sum n (x ∷ vs) ≡ suc (occurs n vs + sum n vs)
    go (inl r) ih = let k = r.0 in let l = r.1 in let g = ih (omega arith) in omega arith
    go (inr r) ih = let k = r.0 in let e = r.1 in let g = sum_out n x vs (omega arith) in omega arith

sum_length : (n : ℕ) (vs : List ℕ) → ((x : ℕ) → 1 ≤ occurs x vs → x < n) → sum n vs ≡ length vs
unfolding occurs
sum_length n [] h = none n
  where
    none : (k : ℕ) → sum k [] ≡ 0
    none zero = refl
    none (suc k) = let l = none k in omega arith
sum_length n (x ∷ vs) h =
    let s = same_yes x in
    let k = sum_length n vs (λ y l. h y (omega arith)) in
    sum_in n x vs (h x (omega arith)) ∙ ap suc k

sum_ones : (n : ℕ) (vs : List ℕ) → ((x : ℕ) → x < n → occurs x vs ≡ 1) → sum n vs ≡ n
sum_ones zero vs h = refl
sum_ones (suc n) vs h = let k = sum_ones n vs (λ x l. h x (omega arith)) in let o = h n (omega arith) in omega arith

-- the numbers below n, each once
pub all_once : (n : ℕ) (vs : List ℕ) → Distinct vs → ((x : ℕ) → x < n → has x vs ≡ true) → ((x : ℕ) → has x vs ≡ true → x < n)
    → length vs ≡ n
all_once n vs d in-it below =
    sym (sum_length n vs (λ x h. below x (some_occurs x vs h)))
    ∙ sum_ones n vs (λ x h. (let a = d x in let b = occurs_some x vs (in-it x h) in omega arith))
