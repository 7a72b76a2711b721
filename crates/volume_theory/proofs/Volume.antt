-- The claims of six times the volume.
-- Assumes nothing.
use Prim.Native.Nat.{ℕ, zero, suc, ◌+◌, ◌*◌, ◌≤◌}
use native.Mathlib.Omega.{arith}
use native.Mathlib.Nat.{mul_assoc}
use mathlib.Core.Bool.{Bool, true, false}
use mathlib.Core.List.{List, [], ◌∷◌}
use mathlib.Core.Logic.{◌↔◌, ◌⊎◌, inl, inr}
use mathlib.Core.Path.{◌≡◌, refl, sym, ap, ap₂, ◌∙◌, subst}
use lib.Dec.{eqb}
use lib.IntN.{ℤ, pos, negsuc, neg_ℤ, nat_abs, ◌+ℤ◌, ◌-ℤ◌, +ℤ_invr, neg_ℤ-+ℤ, neg_ℤ-neg_ℤ}
use lib.ListN.{length, get_or, set}
use lib.Seq.{get_or-set_other}
use borrow.Author.Tests.{ltb-true, eqb-true, eqb-false}
use Rattle.rules.specs.declared.Triangle.{Triangle}
use Rattle.rules.specs.Triangle.{tri, at_p, at_q, at_r, corners, In, here, there, Free}
use Rattle.rules.specs.Check.{all_distinct}
use Rattle.rules.specs.Count.{same, occurs}
use Rattle.rules.specs.Fan.{about}
use Rattle.rules.specs.Grid.{grid_steps, in_grid, all_in_grid}
use Rattle.rules.specs.Volume.{six_volumes}
use Rattle.counting.proofs.Counts.{same_yes}
use Rattle.mesh_theory.specs.Fans.Corner.{Once}
use Rattle.mesh_theory.proofs.Chains.Turning.{about_length}
use Rattle.wire_theory.proofs.Grid.{each_grid}
use Rattle.volume_theory.specs.Axes.{Axis, along_x, along_y, along_z, det, volume}
use Rattle.volume_theory.specs.Claims.{SameTrianglesSameVolume, InsideOutOtherSign, MovedByAtMost, VolumeIsAtMost}
use Rattle.volume_theory.proofs.Determinant.{by_axes, det_turned, volume_axes}
use Rattle.volume_theory.proofs.Amounts.{volume_amount, volume_moved}
use Rattle.volume_theory.proofs.Order.{any_order}

pub same_triangles_same_volume : SameTrianglesSameVolume
same_triangles_same_volume zs ts us o o' h =
    by_axes zs ts ∙ any_order (along_x zs) (along_y zs) (along_z zs) ts us o o' h ∙ sym (by_axes zs us)

-- every triangle turned over
abbrev turned : List Triangle → List Triangle
turned [] = []
turned (t ∷ ts) = tri t.q t.p t.r ∷ turned ts

turned_in : (x y z : ℕ) (ts : List Triangle) → In x y z (turned ts) → In y x z ts
turned_in x y z (t ∷ ts) (here (at_p a b c)) = here (at_p b a c)
turned_in x y z (t ∷ ts) (here (at_q a b c)) = here (at_r b a c)
turned_in x y z (t ∷ ts) (here (at_r a b c)) = here (at_q b a c)
turned_in x y z (t ∷ ts) (there i) = there (turned_in x y z ts i)
turned_in x y z [] x'' = elim x'' [ ]

in_turned : (x y z : ℕ) (ts : List Triangle) → In y x z ts → In x y z (turned ts)
in_turned x y z (t ∷ ts) (here (at_p a b c)) = here (at_p b a c)
in_turned x y z (t ∷ ts) (here (at_q a b c)) = here (at_r b a c)
in_turned x y z (t ∷ ts) (here (at_r a b c)) = here (at_q b a c)
in_turned x y z (t ∷ ts) (there i) = there (in_turned x y z ts i)
in_turned x y z [] x'' = elim x'' [ ]

once_turned : (ts : List Triangle) → Once ts → Once (turned ts)
once_turned [] o = tt
once_turned (t ∷ ts) o = (
  (free o.0.0, free o.0.2, free o.0.1),
  (λ e. o.1.0 (sym e), λ e. o.1.2 (sym e), λ e. o.1.1 (sym e)),
  once_turned ts
      o.2,
)
  where
    free : {x y : ℕ} → Free x y ts → Free y x (turned ts)
    free {x} {y} f z i = f z (turned_in y x z ts i)

volume_turned : (X Y Z : Axis) (ts : List Triangle) → volume X Y Z (turned ts) ≡ neg_ℤ (volume X Y Z ts)
unfolding volume
volume_turned X Y Z [] = refl
volume_turned X Y Z (t ∷ ts) =
    ap₂ ◌+ℤ◌ (det_turned X Y Z t.p t.q t.r) (volume_turned X Y Z ts)
    ∙ sym (neg_ℤ-+ℤ (det X Y Z t.p t.q t.r) (volume X Y Z ts))

pub inside_out_other_sign : InsideOutOtherSign
inside_out_other_sign zs ts us o o' h =
    sym (neg_ℤ-neg_ℤ (six_volumes zs us))
    ∙ ap neg_ℤ
    (ap neg_ℤ (by_axes zs us) ∙ sym (volume_turned (along_x zs) (along_y zs) (along_z zs) us) ∙ sym (by_axes zs (turned us))
    ∙ sym (same_triangles_same_volume zs ts (turned us) o (once_turned us o') both))
  where
    both : (x y z : ℕ) → In x y z ts ↔ In x y z (turned us)
    both x y z = (λ i. in_turned x y z us ((h x y z).0 i), λ i. (h x y z).1 (turned_in x y z us i))

-- positions in range
in_range_lem : (z : ℤ) → in_grid z ≡ true → nat_abs z ≤ 2048
in_range_lem (pos n) h = let k = ltb-true n grid_steps h in omega arith
in_range_lem (negsuc n) h = let k = ltb-true n grid_steps h in omega arith

each_in_range : (zs : List ℤ) → all_in_grid zs ≡ true → (i : ℕ) → nat_abs (get_or zs i (pos 0)) ≤ 2048
each_in_range zs h i = in_range_lem (get_or zs i (pos 0)) (each_grid zs h i)

pub volume_is_at_most : VolumeIsAtMost
volume_is_at_most zs ts h =
    let e = each_in_range zs h in
    let k = volume_amount 2048 (along_x zs) (along_y zs) (along_z zs) (λ w. e (3 * w + 1)) (λ w. e (3 * w + 2)) (λ w. e (3 * w)) ts in
    subst (λ (x : ℤ). nat_abs x ≤ 51539607552 * length ts) (sym (by_axes zs ts)) (omega (arith, k))

-- one position changed: what is read there, and elsewhere
set_read : (zs : List ℤ) (i : ℕ) (z : ℤ) → (get_or (set zs i z) i (pos 0) ≡ z) ⊎ (get_or (set zs i z) i (pos 0) ≡ get_or zs i (pos 0))
set_read [] i z = inr refl
set_read (y ∷ zs) zero z = inl refl
set_read (y ∷ zs) (suc i) z = set_read zs i z

abbrev along : List ℤ → (ℕ → ℕ) → Axis
along zs f w = get_or zs (f w) (pos 0)

-- f tells where the positions along an axis stand; the one of v is changed
module _ (zs : List ℤ) (z : ℤ) (v : ℕ) (f : ℕ → ℕ) where
  abbrev steps : ℕ
  steps = nat_abs (z -ℤ get_or zs (f v) (pos 0))

  abbrev changed : List ℤ
  changed = set zs (f v) z

  no_steps : (x : ℤ) → nat_abs (x -ℤ x) ≤ 0
  no_steps x = subst (λ (y : ℤ). nat_abs y ≤ 0) (sym (+ℤ_invr x)) (omega arith)

  moved_itself : nat_abs (along changed f v -ℤ along zs f v) ≤ steps
  moved_itself = go (set_read zs (f v) z)
    where
      go : (along changed f v ≡ z) ⊎ (along changed f v ≡ along zs f v) → nat_abs (along changed f v -ℤ along zs f v) ≤ steps
      go (inl e) = subst (λ (x : ℤ). nat_abs (x -ℤ along zs f v) ≤ steps) (sym e) (omega arith)
      go (inr e) = subst (λ (x : ℤ). nat_abs (x -ℤ along zs f v) ≤ steps) (sym e) (let k = no_steps (along zs f v) in omega arith)

  moved_along : ((w : ℕ) → f w ≡ f v → v ≡ w) → (w : ℕ) → nat_abs (along changed f w -ℤ along zs f w) ≤ same v w * steps
  moved_along tells w = go (eqb v w) refl
    where
      go : (b : Bool) → eqb v w ≡ b → nat_abs (along changed f w -ℤ along zs f w) ≤ same v w * steps
      go true e =
          subst (λ (u : ℕ). nat_abs (along changed f u -ℤ along zs f u) ≤ same v u * steps) (eqb-true v w e)
          (let s : same v v * steps ≡ 1 * steps = ap (λ (n : ℕ). n * steps) (same_yes v) in omega (arith, moved_itself))
      go false e =
          subst (λ (x : ℤ). nat_abs (x -ℤ along zs f w) ≤ same v w * steps)
          (sym (get_or-set_other zs (f v) (f w) z (pos 0) (λ q. eqb-false v w e (tells w q))))
          (let k = no_steps (along zs f w) in omega arith)

  module _ (ts : List Triangle) (g h : ℕ → ℕ) (range : all_in_grid zs ≡ true) (distinct : all_distinct ts ≡ true)
      (tells : (w : ℕ) → f w ≡ f v → v ≡ w) (no-g : (w : ℕ) → g w ≡ f v → ⊥) (no-h : (w : ℕ) → h w ≡ f v → ⊥) where
    others_same : (k : ℕ → ℕ) → ((w : ℕ) → k w ≡ f v → ⊥) → along changed k ≡ along zs k
    others_same k n = λ i w. get_or-set_other zs (f v) (k w) z (pos 0) (n w) i

    bound : 2 * (steps * 2048 * 2048 * occurs v (corners ts)) ≡ 8388608 * (steps * length (about v ts))
    bound =
        let a : steps * 2048 * 2048 ≡ 4194304 * steps = omega arith in
        let b = mul_assoc 4194304 steps (occurs v (corners ts)) in
        let c : steps * 2048 * 2048 * occurs v (corners ts) ≡ 4194304 * steps * occurs v (corners ts) =
        ap (λ (n : ℕ). n * occurs v (corners ts)) a in
        let d : steps * length (about v ts) ≡ steps * occurs v (corners ts) = ap (λ (n : ℕ). steps * n) (about_length v ts distinct) in
        omega arith

    moved : nat_abs (volume (along changed f) (along changed g) (along changed h) ts -ℤ volume (along zs f) (along zs g) (along zs h) ts)
        ≤ 8388608 * (steps * length (about v ts))
    moved =
        let e = each_in_range zs range in
        subst (λ (B : Axis). nat_abs (volume (along changed f) B (along changed h) ts -ℤ volume (along zs f) (along zs g) (along zs h) ts)
        ≤ 8388608 * (steps * length (about v ts))) (sym (others_same g no-g))
        (subst (λ (C : Axis). nat_abs (volume (along changed f) (along zs g) C ts -ℤ volume (along zs f) (along zs g) (along zs h) ts)
        ≤ 8388608 * (steps * length (about v ts))) (sym (others_same h no-h))
        (subst (λ (n : ℕ). nat_abs
        (volume (along changed f) (along zs g) (along zs h) ts -ℤ volume (along zs f) (along zs g) (along zs h) ts) ≤ n)
        bound
        (volume_moved 2048 (along zs f) (along changed f) (along zs g) (along zs h) (λ w. e (g w)) (λ w. e (h w)) v steps
        (moved_along tells) ts)))

-- where the positions of a vertex stand
abbrev first : ℕ → ℕ
first w = 3 * w

abbrev second : ℕ → ℕ
second w = 3 * w + 1

abbrev third : ℕ → ℕ
third w = 3 * w + 2

pub moved_by_at_most : MovedByAtMost
moved_by_at_most zs ts range distinct v zero z l =
    subst (λ (i : ℕ). nat_abs (six_volumes (set zs i z) ts -ℤ six_volumes zs ts)
    ≤ 8388608 * (nat_abs (z -ℤ get_or zs i (pos 0)) * length (about v ts)))
    (let e : 3 * v ≡ 3 * v + 0 = omega arith in e)
    (subst (λ (x : ℤ). nat_abs x ≤ 8388608 * (nat_abs (z -ℤ get_or zs (first v) (pos 0)) * length (about v ts)))
    (sym (ap₂ ◌-ℤ◌ (by_axes (set zs (first v) z) ts) (by_axes zs ts)))
    (moved zs z v first ts second third range distinct (λ w e. omega arith) (λ w e. omega arith) (λ w e. omega arith)))
moved_by_at_most zs ts range distinct v (suc zero) z l =
    subst (λ (x : ℤ). nat_abs x ≤ 8388608 * (nat_abs (z -ℤ get_or zs (second v) (pos 0)) * length (about v ts)))
    (sym (ap₂ ◌-ℤ◌ (by_axes (set zs (second v) z) ts ∙ sym (volume_axes _ _ _ ts)) (by_axes zs ts ∙ sym (volume_axes _ _ _ ts))))
    (moved zs z v second ts third first range distinct (λ w e. omega arith) (λ w e. omega arith) (λ w e. omega arith))
moved_by_at_most zs ts range distinct v (suc (suc zero)) z l =
    subst (λ (x : ℤ). nat_abs x ≤ 8388608 * (nat_abs (z -ℤ get_or zs (third v) (pos 0)) * length (about v ts)))
    (sym (ap₂ ◌-ℤ◌ (by_axes (set zs (third v) z) ts ∙ volume_axes _ _ _ ts) (by_axes zs ts ∙ volume_axes _ _ _ ts)))
    (moved zs z v third ts first second range distinct (λ w e. omega arith) (λ w e. omega arith) (λ w e. omega arith))
moved_by_at_most zs ts range distinct v (suc (suc (suc k))) z l = absurd (omega arith)
