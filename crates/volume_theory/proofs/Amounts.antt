-- How large the volume can be, and how far it moves where one position of one vertex is moved.
-- Assumes nothing.
use Prim.Native.Nat.{ℕ, ◌+◌, ◌*◌, ◌≤◌}
use native.Mathlib.Omega.{arith}
use native.Mathlib.Nat.{mul-le-mul, mul-add, mul_assoc, mul_comm}
use mathlib.Core.List.{List, [], ◌∷◌}
use mathlib.Core.Path.{◌≡◌, sym, ap, ◌∙◌, subst}
use lib.ListN.{length}
use lib.IntN.{ℤ, nat_abs, ◌+ℤ◌, ◌-ℤ◌, ◌*ℤ◌}
use Rattle.rules.specs.declared.Triangle.{Triangle}
use Rattle.rules.specs.Triangle.{corners}
use Rattle.rules.specs.Count.{same, occurs}
use Rattle.volume_theory.specs.Axes.{Axis, term, terms, det, volume}
use Rattle.volume_theory.proofs.Integers.{amount_sum, amount_difference, amount_product, add_difference, less_itself}
use Rattle.volume_theory.proofs.Determinant.{volume_sum}

le_refl : (n : ℕ) → n ≤ n
le_refl n = omega arith

-- M bounds the amounts along two axes
module _ (M : ℕ) (K Y Z : Axis) (hy : (w : ℕ) → nat_abs (Y w) ≤ M) (hz : (w : ℕ) → nat_abs (Z w) ≤ M) where
  term_amount : (p q r : ℕ) → nat_abs (term K Y Z p q r) ≤ nat_abs (K p) * M * M
  term_amount p q r =
      let a = amount_product (K p *ℤ Y q) (Z r) in
      let b = amount_product (K p) (Y q) in
      let c : nat_abs (K p) * nat_abs (Y q) ≤ nat_abs (K p) * M = mul-le-mul (le_refl (nat_abs (K p))) (hy q) in
      let d : nat_abs (K p) * nat_abs (Y q) * nat_abs (Z r) ≤ nat_abs (K p) * M * M = mul-le-mul c (hz r) in
      subst (λ (n : ℕ). n ≤ nat_abs (K p) * M * M) (sym (a ∙ ap (λ (n : ℕ). n * nat_abs (Z r)) b)) d

  terms_amount : (p q r : ℕ) → nat_abs (terms K Y Z p q r) ≤ nat_abs (K p) * M * M + nat_abs (K q) * M * M + nat_abs (K r) * M * M
  terms_amount p q r =
      let a = amount_sum (term K Y Z p q r +ℤ term K Y Z q r p) (term K Y Z r p q) in
      let b = amount_sum (term K Y Z p q r) (term K Y Z q r p) in
      omega (arith, term_amount p q r, term_amount q r p, term_amount r p q)

  det_amount : (p q r : ℕ) → nat_abs (det K Y Z p q r) ≤ 2 * (nat_abs (K p) * M * M + nat_abs (K q) * M * M + nat_abs (K r) * M * M)
  det_amount p q r =
      let a = amount_difference (terms K Y Z p q r) (terms K Y Z q p r) in
      omega (arith, terms_amount p q r, terms_amount q p r)

  module _ (hk : (w : ℕ) → nat_abs (K w) ≤ M) where
    each_amount : (w : ℕ) → nat_abs (K w) * M * M ≤ M * M * M
    each_amount w = mul-le-mul (mul-le-mul (hk w) (le_refl M)) (le_refl M)

    -- six products of three positions for each triangle
    pub volume_amount : (ts : List Triangle) → nat_abs (volume K Y Z ts) ≤ 6 * (M * M * M) * length ts
    unfolding volume
    volume_amount [] = omega arith
    volume_amount (t ∷ ts) =
        let a = amount_sum (det K Y Z t.p t.q t.r) (volume K Y Z ts) in
        let d = det_amount t.p t.q t.r in
        let s : 6 * (M * M * M) * (1 + length ts) ≡ 6 * (M * M * M) * 1 + 6 * (M * M * M) * length ts =
        mul-add (6 * (M * M * M)) 1 (length ts) in
        omega (arith, each_amount t.p, each_amount t.q, each_amount t.r, volume_amount ts)

  -- K moves the vertex v alone, by d at most
  module _ (v d : ℕ) (hk : (w : ℕ) → nat_abs (K w) ≤ same v w * d) where
    moved_amount : (w : ℕ) → nat_abs (K w) * M * M ≤ d * M * M * same v w
    moved_amount w =
        subst (λ (n : ℕ). nat_abs (K w) * M * M ≤ n)
        (ap (λ (n : ℕ). n * M) (mul_assoc (same v w) d M) ∙ mul_assoc (same v w) (d * M) M ∙ mul_comm (same v w) (d * M * M))
        (mul-le-mul (mul-le-mul (hk w) (le_refl M)) (le_refl M))

    moving : (ts : List Triangle) → nat_abs (volume K Y Z ts) ≤ 2 * (d * M * M * occurs v (corners ts))
    unfolding volume occurs corners
    moving [] = omega arith
    moving (t ∷ ts) =
        let a = amount_sum (det K Y Z t.p t.q t.r) (volume K Y Z ts) in
        let b = det_amount t.p t.q t.r in
        let n = occurs v (corners ts) in
        let k = mul-add (d * M * M) (same v t.r) (same v t.q + (same v t.p + n)) in
        let l = mul-add (d * M * M) (same v t.q) (same v t.p + n) in
        let m = mul-add (d * M * M) (same v t.p) n in
        omega (arith, moved_amount t.p, moved_amount t.q, moved_amount t.r, moving ts)

-- the first axis changed at one vertex, by d at most
pub volume_moved : (M : ℕ) (X X' Y Z : Axis) → ((w : ℕ) → nat_abs (Y w) ≤ M) → ((w : ℕ) → nat_abs (Z w) ≤ M)
    → (v d : ℕ) → ((w : ℕ) → nat_abs (X' w -ℤ X w) ≤ same v w * d) → (ts : List Triangle)
    → nat_abs (volume X' Y Z ts -ℤ volume X Y Z ts) ≤ 2 * (d * M * M * occurs v (corners ts))
volume_moved M X X' Y Z hy hz v d h ts =
    let K : Axis = λ w. X' w -ℤ X w in
    let e : volume X' Y Z ts -ℤ volume X Y Z ts ≡ volume K Y Z ts =
    ap (λ (x : ℤ). x -ℤ volume X Y Z ts)
    (ap (λ (A : Axis). volume A Y Z ts) (λ i w. sym (add_difference (X w) (X' w)) i) ∙ volume_sum X K Y Z ts)
    ∙ less_itself (volume X Y Z ts) (volume K Y Z ts) in
    subst (λ (x : ℤ). nat_abs x ≤ 2 * (d * M * M * occurs v (corners ts))) (sym e) (moving M K Y Z hy hz v d h ts)
