-- A vertex is in no triangle exactly if its chain is empty, and in as many as its chain has corners.
-- Assumes nothing.
use Prim.Native.Nat.{ℕ, zero, suc, ◌+◌, ◌*◌, ◌-◌, ◌≤◌, ◌<◌}
use native.Mathlib.Omega.{arith}
use mathlib.Core.Bool.{Bool, true, false}
use mathlib.Core.List.{List, [], ◌∷◌}
use mathlib.Core.Path.{◌≡◌, refl, sym, ap, ◌∙◌}
use lib.ListN.{length, get_or}
use lib.Dec.{eqb}
use borrow.Author.Tests.{eqb-true, eqb-false, eq-eqb, ne_eqb}
use Rattle.rules.specs.declared.Triangle.{Triangle}
use Rattle.rules.specs.Triangle.{triangles_of, corners}
use Rattle.rules.specs.Count.{same, occurs}
use Rattle.rules.specs.Check.{all_used}
use Rattle.mesh_theory.specs.Chains.Corner.{first_triangles, triangle_at, latest, degree}
use Rattle.mesh_theory.proofs.Chains.Prefix.{first_more, occurs_append}
use Rattle.mesh_theory.proofs.Chains.Walking.{degree_here, degree_other, latest_none, latest_some}
use Rattle.counting.proofs.Counts.{same_yes, same_no}

degree_step : (v : ℕ) (xs : List ℕ) (c : ℕ) → degree v xs (suc c) ≡ same v (get_or xs c 0) + degree v xs c
degree_step v xs c = go (eqb (get_or xs c 0) v) refl
  where
    go : (b : Bool) → eqb (get_or xs c 0) v ≡ b → degree v xs (suc c) ≡ same v (get_or xs c 0) + degree v xs c
    go true e =
        let k : get_or xs c 0 ≡ v = eqb-true (get_or xs c 0) v e in
        omega (arith, degree_here v xs c k, ap (same v) k, same_yes v)
    go false e =
        let k = eqb-false (get_or xs c 0) v e in
        omega (arith, degree_other v xs c k, same_no v (get_or xs c 0) (λ q. k (sym q)))

pub occurs_degree : (v n : ℕ) (xs : List ℕ) → 3 * n ≤ length xs → occurs v (corners (first_triangles n xs)) ≡ degree v xs (3 * n)
unfolding occurs corners degree triangles_of
occurs_degree v zero xs h = refl
occurs_degree v (suc n) xs h =
    let e : 3 * suc n ≡ suc (3 * n + 2) = omega arith in
    let e₂ : 3 * n + 2 ≡ suc (3 * n + 1) = omega arith in
    let e₁ : 3 * n + 1 ≡ suc (3 * n) = omega arith in
    let d₃ = ap (degree v xs) e ∙ degree_step v xs (3 * n + 2) in
    let d₂ = ap (degree v xs) e₂ ∙ degree_step v xs (3 * n + 1) in
    let d₁ = ap (degree v xs) e₁ ∙ degree_step v xs (3 * n) in
    ap (λ (ts : List Triangle). occurs v (corners ts)) (first_more n xs (omega arith))
    ∙ occurs_append v (first_triangles n xs) (triangle_at xs n ∷ [])
    ∙ omega (arith, occurs_degree v n xs (omega arith), d₃, d₂, d₁)

-- the test of 6, from the highest vertex down
module _ (xs : List ℕ) (n : ℕ) (whole : 3 * n ≤ length xs) where
  pub used_none : (u : ℕ) → u ≤ 0 → all_used u (corners (first_triangles n xs)) ≡ true
  unfolding all_used
  used_none zero h = refl
  used_none (suc u) h = absurd (omega arith)

  before : (c : ℕ) → suc c - 1 ≡ c
  before c = omega arith

  pub used_here : (u : ℕ) → 0 < u → 0 < latest (u - 1) xs (3 * n)
      → all_used (u - 1) (corners (first_triangles n xs)) ≡ all_used u (corners (first_triangles n xs))
  unfolding all_used
  used_here zero h l = absurd (omega arith)
  used_here (suc u) h l =
      let l' : 0 < latest u xs (3 * n) = rw (before u) at l in
      let d = latest_some u xs (3 * n) l' in
      rw (before u)
      (sym
      (rw (all_used, ne_eqb (occurs u (corners (first_triangles n xs))) 0 (λ q. omega (arith, occurs_degree u n xs whole, d)))))

  pub used_not : (u : ℕ) → 0 < u → latest (u - 1) xs (3 * n) ≡ 0 → false ≡ all_used u (corners (first_triangles n xs))
  unfolding all_used
  used_not zero h l = absurd (omega arith)
  used_not (suc u) h l =
      let l' : latest u xs (3 * n) ≡ 0 = rw (before u) at l in
      let d = latest_none u xs (3 * n) l' in
      sym (rw (all_used, eq-eqb (occurs u (corners (first_triangles n xs))) 0 (occurs_degree u n xs whole ∙ d)))
