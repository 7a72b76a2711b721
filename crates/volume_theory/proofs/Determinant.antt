-- Laws of the determinant and of the volume, axis by axis: from any corner on, turned over, axes exchanged in turn, and an axis that is
-- a sum.
-- Assumes nothing.
use Prim.Native.Nat.{ℕ}
use mathlib.Core.List.{List, [], ◌∷◌}
use mathlib.Core.Path.{◌≡◌, refl, sym, ap, ap₂, ◌∙◌}
use lib.IntN.{ℤ, neg_ℤ, ◌+ℤ◌, ◌-ℤ◌, ◌*ℤ◌}
use Rattle.rules.specs.declared.Triangle.{Triangle}
use Rattle.rules.specs.Triangle.{Rot, at_p, at_q, at_r, In}
use Rattle.rules.specs.Volume.{determinant, six_volumes}
use Rattle.choice_theory.proofs.Turning.Ways.{others}
use Rattle.rules.specs.Triangle.{here, there}
use Rattle.volume_theory.specs.Axes.{Axis, along_x, along_y, along_z, term, terms, det, volume}
use Rattle.volume_theory.proofs.Integers.{swap_sums, swap_first, three, turned_difference, difference_sums, spreads, three_factors}

-- the rules' sum
pub by_axes : (zs : List ℤ) (ts : List Triangle) → six_volumes zs ts ≡ volume (along_x zs) (along_y zs) (along_z zs) ts
unfolding six_volumes volume determinant
by_axes zs [] = refl
by_axes zs (t ∷ ts) = ap (λ (x : ℤ). det (along_x zs) (along_y zs) (along_z zs) t.p t.q t.r +ℤ x) (by_axes zs ts)

module _ (X Y Z : Axis) where
  -- from the next corner on
  det_next : (p q r : ℕ) → det X Y Z q r p ≡ det X Y Z p q r
  det_next p q r =
      ap₂ ◌-ℤ◌ (sym (three (term X Y Z p q r) (term X Y Z q r p) (term X Y Z r p q)))
      (three (term X Y Z r q p) (term X Y Z q p r) (term X Y Z p r q))

  -- from any corner on
  det_seen : {t : Triangle} {x y z : ℕ} → Rot t x y z → det X Y Z t.p t.q t.r ≡ det X Y Z x y z
  det_seen (at_p a b c) = λ i. det X Y Z (a i) (b i) (c i)
  det_seen {t} (at_q a b c) = sym (det_next t.p t.q t.r) ∙ (λ i. det X Y Z (a i) (b i) (c i))
  det_seen {t} (at_r a b c) = det_next t.r t.p t.q ∙ (λ i. det X Y Z (a i) (b i) (c i))

  pub det_turned : (p q r : ℕ) → det X Y Z q p r ≡ neg_ℤ (det X Y Z p q r)
  det_turned p q r = turned_difference (terms X Y Z p q r) (terms X Y Z q p r)

  -- a triangle of the list, and the others
  pub volume_others : {x y z : ℕ} {ts : List Triangle} (i : In x y z ts) → volume X Y Z ts ≡ det X Y Z x y z +ℤ volume X Y Z (others i)
  unfolding volume others
  volume_others (here {ts = ts} r) = ap (λ (w : ℤ). w +ℤ volume X Y Z ts) (det_seen r)
  volume_others {x} {y} {z} (there {t = t} i) =
      ap (λ (w : ℤ). det X Y Z t.p t.q t.r +ℤ w) (volume_others i)
      ∙ swap_first (det X Y Z t.p t.q t.r) (det X Y Z x y z) (volume X Y Z (others i))

  -- the axes in turn
  terms_turned : (p q r : ℕ) → terms Y Z X p q r ≡ terms X Y Z p q r
  terms_turned p q r =
      ap₂ ◌+ℤ◌ (ap₂ ◌+ℤ◌ (three_factors (Y p) (Z q) (X r)) (three_factors (Y q) (Z r) (X p))) (three_factors (Y r) (Z p) (X q))
      ∙ three (term X Y Z r p q) (term X Y Z p q r) (term X Y Z q r p)

  pub volume_axes : (ts : List Triangle) → volume Y Z X ts ≡ volume X Y Z ts
  unfolding volume
  volume_axes [] = refl
  volume_axes (t ∷ ts) = ap₂ ◌+ℤ◌ (ap₂ ◌-ℤ◌ (terms_turned t.p t.q t.r) (terms_turned t.q t.p t.r)) (volume_axes ts)

-- an axis that is a sum
module _ (X K Y Z : Axis) where
  abbrev sum : Axis
  sum w = X w +ℤ K w

  term_sum : (p q r : ℕ) → term sum Y Z p q r ≡ term X Y Z p q r +ℤ term K Y Z p q r
  term_sum p q r = ap (λ (x : ℤ). x *ℤ Z r) (spreads (X p) (K p) (Y q)) ∙ spreads (X p *ℤ Y q) (K p *ℤ Y q) (Z r)

  terms_sum : (p q r : ℕ) → terms sum Y Z p q r ≡ terms X Y Z p q r +ℤ terms K Y Z p q r
  terms_sum p q r =
      ap₂ ◌+ℤ◌
      (ap₂ ◌+ℤ◌ (term_sum p q r) (term_sum q r p)
      ∙ swap_sums (term X Y Z p q r) (term K Y Z p q r) (term X Y Z q r p) (term K Y Z q r p)) (term_sum r p q)
      ∙ swap_sums (term X Y Z p q r +ℤ term X Y Z q r p) (term K Y Z p q r +ℤ term K Y Z q r p) (term X Y Z r p q) (term K Y Z r p q)

  det_sum : (p q r : ℕ) → det sum Y Z p q r ≡ det X Y Z p q r +ℤ det K Y Z p q r
  det_sum p q r =
      ap₂ ◌-ℤ◌ (terms_sum p q r) (terms_sum q p r)
      ∙ difference_sums (terms X Y Z p q r) (terms K Y Z p q r) (terms X Y Z q p r) (terms K Y Z q p r)

  pub volume_sum : (ts : List Triangle) → volume sum Y Z ts ≡ volume X Y Z ts +ℤ volume K Y Z ts
  unfolding volume
  volume_sum [] = refl
  volume_sum (t ∷ ts) =
      ap₂ ◌+ℤ◌ (det_sum t.p t.q t.r) (volume_sum ts)
      ∙ swap_sums (det X Y Z t.p t.q t.r) (det K Y Z t.p t.q t.r) (volume X Y Z ts) (volume K Y Z ts)
