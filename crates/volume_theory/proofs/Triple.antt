-- The determinant as a sum of three products, each of a position and a difference of two products.
-- Assumes nothing.
use mathlib.Core.Path.{◌≡◌, sym, ap, ap₂, ◌∙◌}
use lib.IntN.{ℤ, ◌+ℤ◌, ◌-ℤ◌, ◌*ℤ◌, +ℤ_assoc, +ℤ_comm, *ℤ_comm, +ℤ-neg_ℤ_cancel, -ℤ-+ℤ_cancel}
use Rattle.rules.specs.declared.Point.{Point}
use Rattle.rules.specs.Volume.{determinant}
use Rattle.volume_theory.proofs.Integers.{difference_sums, spreads, *ℤ-assoc, three_factors}

-- a product with a difference
times_difference : (a b c : ℤ) → a *ℤ (b -ℤ c) ≡ a *ℤ b -ℤ a *ℤ c
times_difference a b c =
    sym (+ℤ-neg_ℤ_cancel (a *ℤ (b -ℤ c)) (a *ℤ c))
    ∙ ap (λ (x : ℤ). x -ℤ a *ℤ c)
    (ap₂ ◌+ℤ◌ (*ℤ_comm a (b -ℤ c)) (*ℤ_comm a c) ∙ sym (spreads (b -ℤ c) c a) ∙ ap (λ (x : ℤ). x *ℤ a) (-ℤ-+ℤ_cancel b c) ∙ *ℤ_comm b a)

swap_last : (a b c : ℤ) → a +ℤ b +ℤ c ≡ a +ℤ c +ℤ b
swap_last a b c = +ℤ_assoc a b c ∙ ap (λ (x : ℤ). a +ℤ x) (+ℤ_comm b c) ∙ sym (+ℤ_assoc a c b)

pub triple : (p q r : Point) → p.x *ℤ (q.y *ℤ r.z -ℤ q.z *ℤ r.y) +ℤ p.y *ℤ (q.z *ℤ r.x -ℤ q.x *ℤ r.z)
    +ℤ p.z *ℤ (q.x *ℤ r.y -ℤ q.y *ℤ r.x)
    ≡ determinant p q r
unfolding determinant
triple p q r =
    let u1 = p.x *ℤ (q.y *ℤ r.z) in
    let u2 = p.y *ℤ (q.z *ℤ r.x) in
    let u3 = p.z *ℤ (q.x *ℤ r.y) in
    let v1 = p.x *ℤ (q.z *ℤ r.y) in
    let v2 = p.y *ℤ (q.x *ℤ r.z) in
    let v3 = p.z *ℤ (q.y *ℤ r.x) in
    ap₂ ◌+ℤ◌ (ap₂ ◌+ℤ◌ (times_difference p.x (q.y *ℤ r.z) (q.z *ℤ r.y)) (times_difference p.y (q.z *ℤ r.x) (q.x *ℤ r.z)))
    (times_difference p.z (q.x *ℤ r.y) (q.y *ℤ r.x))
    ∙ ap (λ (x : ℤ). x +ℤ (u3 -ℤ v3)) (sym (difference_sums u1 u2 v1 v2)) ∙ sym (difference_sums (u1 +ℤ u2) u3 (v1 +ℤ v2) v3)
    ∙ ap₂ ◌-ℤ◌
    (swap_last u1 u2 u3
    ∙ ap₂ ◌+ℤ◌
    (ap₂ ◌+ℤ◌ (sym (*ℤ-assoc p.x q.y r.z)) (sym (*ℤ-assoc p.z q.x r.y) ∙ sym (three_factors q.x r.y p.z)))
    (sym (*ℤ-assoc p.y q.z r.x) ∙ three_factors p.y q.z r.x))
    (ap₂ ◌+ℤ◌
    (+ℤ_comm v1 v2
    ∙ ap₂ ◌+ℤ◌ (sym (*ℤ-assoc p.y q.x r.z) ∙ ap (λ (x : ℤ). x *ℤ r.z) (*ℤ_comm p.y q.x))
    (ap (λ (x : ℤ). p.x *ℤ x) (*ℤ_comm q.z r.y) ∙ sym (*ℤ-assoc p.x r.y q.z)))
    (*ℤ_comm p.z (q.y *ℤ r.x) ∙ ap (λ (x : ℤ). x *ℤ p.z) (*ℤ_comm q.y r.x)))
