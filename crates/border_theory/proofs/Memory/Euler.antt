-- The Euler number in 32 bits: its sums do not overflow.
-- Assumes nothing.
use Prim.Native.Nat.{ℕ, zero, suc, ◌+◌, ◌-◌, ◌<◌, ◌^◌}
use native.Mathlib.Nat.{lt_trans}
use native.Mathlib.Omega.{arith}
use mathlib.Core.Bool.{Bool, true, false, cond}
use mathlib.Core.Path.{◌≡◌, sym, ap₂, ◌∙◌, subst}
use lib.Dec.{ltb, lit<}
use lib.IntN.{ℤ, pos, negsuc, sub_ℕ, ◌+ℤ◌, ◌-ℤ◌}
use lib.Signed.{mag}
use mir.Syntax.{w32}
use mir.Val.{SFits, to_z, of_z}
use mir.Facts.{to_z_pos, to_z-of_z}

by_test_lem : (t : Bool) (a b n : ℕ) → a < n → b < n → mag (cond t (negsuc (b - suc a)) (pos (a - b))) < n
by_test_lem true a b n h k = omega arith
by_test_lem false a b n h k = omega arith

mag_subℕ : (a b n : ℕ) → a < n → b < n → mag (sub_ℕ a b) < n
mag_subℕ a b n h k = by_test_lem (ltb a b) a b n h k

mag_sub : (a b n : ℕ) → a < n → b < n → mag (pos a -ℤ pos b) < n
mag_sub a zero n h k = omega arith
mag_sub a (suc b) n h k = mag_subℕ a (suc b) n h k

mag_add : (z : ℤ) (t n m : ℕ) → mag z < n → t < m → mag (z +ℤ pos t) < n + m
mag_add (pos a) t n m h k = omega arith
mag_add (negsuc a) t n m h k = mag_subℕ t (suc a) (n + m) (omega arith) (omega arith)

module _ (v e t : ℕ) (hv : v < 2 ^ 16) (he : e < 2 ^ 16) (ht : t < 2 ^ 16) where
  z : (n : ℕ) → n < 2 ^ 16 → to_z w32 n ≡ pos n
  z n h = to_z_pos w32 (lt_trans h (lit< tt))

  pub sub_fits : SFits w32 (to_z w32 v -ℤ to_z w32 e)
  sub_fits = rw (z v hv, z e he) (record { sfits = lt_trans (mag_sub v e (2 ^ 16) hv he) (lit< tt) })

  pub back : to_z w32 (of_z w32 (to_z w32 v -ℤ to_z w32 e)) ≡ pos v -ℤ pos e
  back = to_z-of_z sub_fits ∙ ap₂ ◌-ℤ◌ (z v hv) (z e he)

  pub add_fits : SFits w32 (to_z w32 (of_z w32 (to_z w32 v -ℤ to_z w32 e)) +ℤ to_z w32 t)
  add_fits = subst (SFits w32) (sym (ap₂ ◌+ℤ◌ back (z t ht)))
      (record { sfits = lt_trans (mag_add (pos v -ℤ pos e) t (2 ^ 16) (2 ^ 16) (mag_sub v e (2 ^ 16) hv he) ht) (lit< tt) })

  pub is : to_z w32 (of_z w32 (to_z w32 (of_z w32 (to_z w32 v -ℤ to_z w32 e)) +ℤ to_z w32 t)) ≡ (pos v -ℤ pos e) +ℤ pos t
  is = to_z-of_z add_fits ∙ ap₂ ◌+ℤ◌ back (z t ht)
