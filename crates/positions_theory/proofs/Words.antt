-- A signed number of 16 bits as an unsigned one.
-- Assumes nothing.
use Prim.Native.Nat.{ℕ, suc, ◌-◌, ◌<◌, ◌^◌}
use native.Mathlib.Nat.{lt_trans}
use native.Mathlib.Omega.{arith}
use mathlib.Core.Bool.{Bool, true, false, false≢true, cond}
use mathlib.Core.List.{List}
use mathlib.Core.Path.{◌≡◌, refl, sym, ap, ◌∙◌, subst}
use lib.Dec.{T, lit<}
use lib.ListN.{get_or}
use borrow.Author.Tests.{ltb-true, le-ltb}
use lib.IntN.{ℤ, pos, negsuc, nat_abs, ◌+ℤ◌}
use lib.Signed.{non_neg, lt_z, mag}
use mir.Syntax.{w16, w32}
use mir.Val.{Fits, SFits, hbits, to_z, of_z}
use mir.Facts.{to_z-of_z}
use Rattle.rules.specs.Grid.{in_grid, unsigned_of, signed_of}
use Rattle.wire_theory.proofs.Positions.{signed_below, signed_from}

-- a negative number of 16 bits, and 65,536
raised : (n : ℕ) → n < 32768 → negsuc n +ℤ pos 65536 ≡ pos (65535 - n)
raised n h =
    let e : 65536 - suc n ≡ 65535 - n = omega arith in
    ap (λ (t : Bool). cond t (negsuc (suc n - suc 65536)) (pos (65536 - suc n))) (le-ltb 65536 (suc n) (omega arith)) ∙ ap pos e

module _ (z : ℤ) (h : SFits w16 z) where
  fits : SFits w32 z
  fits = record { sfits = lt_trans h.sfits (lit< tt) }

  pub cast_fits : SFits w32 (to_z w16 (of_z w16 z))
  cast_fits = subst (SFits w32) (sym (to_z-of_z h)) fits

  abbrev kept : ℤ
  kept = to_z w32 (of_z w32 (to_z w16 (of_z w16 z)))

  kept_is : kept ≡ z
  kept_is = ap (λ (y : ℤ). to_z w32 (of_z w32 y)) (to_z-of_z h) ∙ to_z-of_z fits

  -- of one that is not negative
  pub plain_fits : lt_z kept (pos 0) ≡ false → T (non_neg kept) × Fits w16 (nat_abs kept)
  plain_fits k = rw kept_is (go z h (subst (λ (y : ℤ). lt_z y (pos 0) ≡ false) kept_is k))
    where
      go : (y : ℤ) → SFits w16 y → lt_z y (pos 0) ≡ false → T (non_neg y) × Fits w16 (nat_abs y)
      go (pos a) f l = (tt, record { fits = lt_trans f.sfits (lit< tt) })
      go (negsuc a) f l = absurd (false≢true (sym l))

  pub plain_is : lt_z kept (pos 0) ≡ false → nat_abs kept ≡ unsigned_of z
  plain_is k = rw kept_is (go z (subst (λ (y : ℤ). lt_z y (pos 0) ≡ false) kept_is k))
    where
      go : (y : ℤ) → lt_z y (pos 0) ≡ false → nat_abs y ≡ unsigned_of y
      go (pos a) l = refl
      go (negsuc a) l = absurd (false≢true (sym l))

  -- of one that is
  module _ (k : lt_z kept (pos 0) ≡ true) where
    sum_is : kept +ℤ pos 65536 ≡ pos (unsigned_of z)
    sum_is = ap (λ (y : ℤ). y +ℤ pos 65536) kept_is ∙ go z h (subst (λ (y : ℤ). lt_z y (pos 0) ≡ true) kept_is k)
      where
        go : (y : ℤ) → SFits w16 y → lt_z y (pos 0) ≡ true → y +ℤ pos 65536 ≡ pos (unsigned_of y)
        go (pos a) f l = absurd (omega (arith, ltb-true a 0 l))
        go (negsuc a) f l = raised a f.sfits

    small : unsigned_of z < 65536
    small = go z h (subst (λ (y : ℤ). lt_z y (pos 0) ≡ true) kept_is k)
      where
        go : (y : ℤ) → SFits w16 y → lt_z y (pos 0) ≡ true → unsigned_of y < 65536
        go (pos a) f l = absurd (omega (arith, ltb-true a 0 l))
        go (negsuc a) f l = omega arith

    pub sum_fits : SFits w32 (kept +ℤ pos 65536)
    sum_fits = subst (SFits w32) (sym sum_is) (record { sfits = lt_trans small (lit< tt) })

    raised_is : to_z w32 (of_z w32 (kept +ℤ pos 65536)) ≡ pos (unsigned_of z)
    raised_is = to_z-of_z sum_fits ∙ sum_is

    pub raised_fits : T (non_neg (to_z w32 (of_z w32 (kept +ℤ pos 65536)))) × Fits w16 (nat_abs (to_z w32 (of_z w32 (kept +ℤ pos 65536))))
    raised_fits = rw raised_is (tt, record { fits = small })

    pub raised_word : nat_abs (to_z w32 (of_z w32 (kept +ℤ pos 65536))) ≡ unsigned_of z
    raised_word = ap nat_abs raised_is

-- read back
signed_16 : (z : ℤ) → SFits w16 z → signed_of (unsigned_of z) ≡ z
signed_16 (pos n) h = signed_below n h.sfits
signed_16 (negsuc n) h =
    let l : n < 32768 = h.sfits in
    let e : 65535 - (65535 - n) ≡ n = omega arith in
    signed_from (65535 - n) (omega arith) ∙ ap negsuc e

-- whether it is in range, by the test of the unsigned one
pub by_word : (z : ℤ) → SFits w16 z → (w : ℕ) (b : Bool) → w ≡ unsigned_of z → b ≡ in_grid (signed_of w) → b ≡ in_grid z
by_word z h w b e f = f ∙ ap in_grid (ap signed_of e ∙ signed_16 z h)

-- what is asked of a number that was read
pub test_told : (b : Bool) (zs : List ℤ) (i : ℕ) → mag (get_or zs i (pos 0)) < 2 ^ hbits w16
    → b ≡ in_grid (to_z w16 (of_z w16 (get_or zs i (pos 0)))) → b ≡ in_grid (get_or zs i (pos 0))
test_told b zs i l e = e ∙ ap in_grid (to_z-of_z {w = w16} {z = get_or zs i (pos 0)} (record { sfits = l }))
