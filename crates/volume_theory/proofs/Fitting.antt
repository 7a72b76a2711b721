-- Integers that fit 64 bits.
-- Assumes nothing.
use Prim.Native.Nat.{ℕ, suc, ◌+◌, ◌-◌, ◌*◌, ◌≤◌, ◌<◌}
use native.Mathlib.Nat.{mul-le-mul}
use native.Mathlib.Omega.{arith}
use lib.IntN.{ℤ, pos, negsuc, nat_abs, ◌+ℤ◌, ◌-ℤ◌, ◌*ℤ◌}
use lib.Signed.{mag}
use mathlib.Core.Path.{◌≡◌, refl, sym, ap, ap₂, ◌∙◌, subst}
use mathlib.Core.Bool.{Bool, true, false, cond}
use lib.Dec.{ltb}
use borrow.Author.Tests.{ltb-true, ltb-false}
use mir.Syntax.{w16, w64}
use mir.Val.{SFits, of_z, to_z}
use mir.Facts.{to_z_pos, to_z-of_z}
use Rattle.rules.specs.Grid.{signed_of}
use Rattle.wire_theory.proofs.Positions.{signed_below, signed_from}
use Rattle.volume_theory.specs.Near.{limit64}
use Rattle.volume_theory.proofs.Integers.{amount_sum, amount_difference, amount_product}

mag_amount : (z : ℤ) → mag z ≤ nat_abs z
mag_amount (pos n) = omega arith
mag_amount (negsuc n) = omega arith

amount_fits : (z : ℤ) → nat_abs z < limit64 → SFits w64 z
amount_fits z h = record { sfits = (let k = mag_amount z in let e : mag z < 9223372036854775808 = omega arith in e) }

-- a number as the machine keeps it
abbrev pub held : ℤ → ℤ
held z = to_z w64 (of_z w64 z)

pub held_same : (z : ℤ) → nat_abs z < limit64 → held z ≡ z
held_same z h = to_z-of_z (amount_fits z h)

-- z is a number that an argument or a call's answer holds: it is y, and at most m
pub record Holds (z y : ℤ) (m : ℕ) : Type 0 where
  pub fits : SFits w64 z
  pub is : z ≡ y
  pub small : nat_abs z ≤ m

pub answered : {z y : ℤ} {m : ℕ} → Holds z y m → (held z ≡ y) × (nat_abs (held z) ≤ m)
answered {z} {y} {m} h = subst (λ (x : ℤ). (x ≡ y) × (nat_abs x ≤ m)) (sym (to_z-of_z h.fits)) (h.is, h.small)

-- an operation on two of them
module _ {a b x y : ℤ} {m n : ℕ} (ha : Holds a x m) (hb : Holds b y n) where
  pub product_holds : m * n < limit64 → Holds (held a *ℤ held b) (x *ℤ y) (m * n)
  product_holds h =
      let k : nat_abs (held a) * nat_abs (held b) ≤ m * n = mul-le-mul (answered ha).1 (answered hb).1 in
      let s : nat_abs (held a *ℤ held b) ≤ m * n = omega (arith, amount_product (held a) (held b)) in
      record {
        fits = amount_fits (held a *ℤ held b) (omega arith);
        is = ap₂ ◌*ℤ◌ (answered ha).0 (answered hb).0;
        small = s;
      }

  pub sum_holds : m + n < limit64 → Holds (held a +ℤ held b) (x +ℤ y) (m + n)
  sum_holds h =
      let s : nat_abs (held a +ℤ held b) ≤ m + n =
      omega (arith, amount_sum (held a) (held b), (answered ha).1, (answered hb).1) in
      record {
        fits = amount_fits (held a +ℤ held b) (omega arith);
        is = ap₂ ◌+ℤ◌ (answered ha).0 (answered hb).0;
        small = s;
      }

  pub difference_holds : m + n < limit64 → Holds (held a -ℤ held b) (x -ℤ y) (m + n)
  difference_holds h =
      let s : nat_abs (held a -ℤ held b) ≤ m + n =
      omega (arith, amount_difference (held a) (held b), (answered ha).1, (answered hb).1) in
      record {
        fits = amount_fits (held a -ℤ held b) (omega arith);
        is = ap₂ ◌-ℤ◌ (answered ha).0 (answered hb).0;
        small = s;
      }

-- an argument, and a small number
pub given : {z : ℤ} {m : ℕ} → SFits w64 z → nat_abs z ≤ m → Holds z z m
given f l = record { fits = f; is = refl; small = l }

pub small : (z : ℤ) (m : ℕ) → m < limit64 → nat_abs z ≤ m → Holds z z m
small z m h l = given (amount_fits z (omega arith)) l

pub near : (z : ℤ) → nat_abs z ≤ 32768 → Holds z z 32768
near z l = given (amount_fits z (omega arith)) l

-- a number of 16 bits, as a signed one
cast_is : (w : ℕ) → w < 65536 → to_z w16 w ≡ signed_of w
cast_is w h = go (ltb w 32768) refl
  where
    go : (b : Bool) → ltb w 32768 ≡ b → to_z w16 w ≡ signed_of w
    go true e = to_z_pos w16 (ltb-true w 32768 e) ∙ sym (signed_below w (ltb-true w 32768 e))
    go false e =
        let k : 65536 - suc w ≡ 65535 - w = omega arith in
        ap (λ (t : Bool). cond t (pos w) (negsuc (65536 - suc w))) e ∙ ap negsuc k ∙ sym (signed_from w (ltb-false w 32768 e))

cast_small : (w : ℕ) → w < 65536 → nat_abs (signed_of w) ≤ 32768
cast_small w h = go (ltb w 32768) refl
  where
    go : (b : Bool) → ltb w 32768 ≡ b → nat_abs (signed_of w) ≤ 32768
    go true e = omega (arith, ap nat_abs (signed_below w (ltb-true w 32768 e)), ltb-true w 32768 e)
    go false e = omega (arith, ap nat_abs (signed_from w (ltb-false w 32768 e)), ltb-false w 32768 e)

pub signed_holds : (w : ℕ) (x y : ℤ) → w < 65536 → SFits w16 x → SFits w64 y → x ≡ to_z w16 w → y ≡ to_z w16 (of_z w16 x)
    → Holds y (signed_of w) 32768
signed_holds w x y h fx fy ex ey =
    let e : y ≡ signed_of w = ey ∙ to_z-of_z fx ∙ ex ∙ cast_is w h in
    record { fits = fy; is = e; small = omega (arith, ap nat_abs e, cast_small w h) }
