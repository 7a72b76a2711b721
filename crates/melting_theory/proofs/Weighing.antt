-- The sum of the determinants.
-- Assumes nothing.
use Prim.Native.Nat.{ℕ, ◌+◌, ◌*◌, ◌≤◌, ◌<◌}
use native.Mathlib.Omega.{arith}
use mathlib.Core.Bool.{Bool, true, false, false≢true}
use mathlib.Core.List.{List, [], ◌∷◌}
use mathlib.Core.Path.{◌≡◌, refl, sym, ap, ◌∙◌}
use lib.IntN.{ℤ, pos, nat_abs, ◌+ℤ◌, +ℤ_idl}
use lib.ListN.{length}
use lib.Dec.{eqb}
use borrow.Author.Tests.{eq-eqb, ne_eqb, eqb-true}
use Rattle.rules.specs.declared.Triangle.{Triangle}
use Rattle.rules.specs.Limits.{max_triangles}
use Rattle.rules.specs.Grid.{positions_from}
use Rattle.rules.specs.Volume.{six_volumes, determinant}
use Rattle.rules.specs.declared.Counts.{Counts}
use Rattle.volume_theory.specs.Near.{largest, limit64, HasCorners, determinant_of}
use Rattle.rules.specs.Later.{Given, not_given, given}
use Rattle.melting_theory.specs.Runs.{Weighable, weighed_part, Weighs, WeighsTo, Weighed}

-- without positions every determinant is zero
nothing : (field : List ℕ) (t : Triangle) → length field ≡ 0 → determinant_of (positions_from field) t ≡ pos 0
unfolding positions_from determinant
nothing [] t h = refl
nothing (b ∷ bs) t h = absurd (omega (arith, h))

pub weighs_nothing : (field : List ℕ) (t : Triangle) (six : ℤ) → length field ≡ 0 → WeighsTo field t six six
weighs_nothing field t six h = record {
  sum = sym (ap (λ (z : ℤ). z +ℤ six) (nothing field t h) ∙ +ℤ_idl six);
  amount = omega arith;
}

-- a sum that is told, of the number y that stands for six
pub weighs_told : (field : List ℕ) (t : Triangle) (six y z w : ℤ) → y ≡ six → w ≡ z
    → (z ≡ determinant_of (positions_from field) t +ℤ y) × (nat_abs z ≤ largest + nat_abs y) → WeighsTo field t six w
weighs_told field t six y z w ey ew h = record {
  sum = ew ∙ h.0 ∙ ap (λ (x : ℤ). determinant_of (positions_from field) t +ℤ x) ey;
  amount = omega (arith, h.1, ap nat_abs ey, ap nat_abs ew);
}

-- one more triangle
pub weighed_more : (field : List ℕ) (ts : List Triangle) (t : Triangle) (six z : ℤ) → Weighed field ts six → WeighsTo field t six z
    → Weighed field (t ∷ ts) z
unfolding six_volumes
weighed_more field ts t six z w e = record {
  sum = e.sum ∙ ap (λ (x : ℤ). determinant_of (positions_from field) t +ℤ x) w.sum;
  amount = omega (arith, e.amount, w.amount);
}

pub weighs_may : (c : Counts) (field : List ℕ) (ts : List Triangle) (t : Triangle) (six : ℤ) → Weighable c field → Weighed field ts six
    → length ts ≤ max_triangles → (t.p < c.vertices) × (t.q < c.vertices) × (t.r < c.vertices) → Weighs field t six
weighs_may c field ts t six h w few b = record {
  corners = λ n.
      let l = h n in record { p = omega (arith, l, b.0); q = omega (arith, l, b.1); r = omega (arith, l, b.2) };
  room = omega (arith, w.amount, few);
}

-- the part of a field that is weighed with
pub part_all : (v : ℕ) (field : List ℕ) → length field ≡ 6 * v → weighed_part (given field) v ≡ field
part_all v field e = ap (λ (t : Bool). elim t [ true ↦ field | false ↦ [] ]) (eq-eqb (length field) (6 * v) e)

part_by : (field : List ℕ) (v : ℕ) (t : Bool) → eqb (length field) (6 * v) ≡ t
    → (length (elim t as (λ _. List ℕ) [ true ↦ field | false ↦ [] ]) ≡ 0 → ⊥)
    → length (elim t as (λ _. List ℕ) [ true ↦ field | false ↦ [] ]) ≡ 6 * v
part_by field v true e h = eqb-true (length field) (6 * v) e
part_by field v false e h = absurd (h refl)

pub part_weighable : (c : Counts) (ps : Given (List ℕ)) → Weighable c (weighed_part ps c.vertices)
part_weighable c not_given h = absurd (h refl)
part_weighable c (given field) h = part_by field c.vertices (eqb (length field) (6 * c.vertices)) refl h
