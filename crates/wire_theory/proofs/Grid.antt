-- Which positions are in range, by the numbers of 16 bits that they stand as, and whether all of a list are.
-- Assumes nothing.
use Prim.Native.Nat.{ℕ, zero, suc, ◌+◌, ◌-◌, ◌*◌, ◌≤◌, ◌<◌}
use native.Mathlib.Omega.{arith}
use mathlib.Core.Bool.{Bool, true, false, ◌&&◌}
use mathlib.Core.List.{List, [], ◌∷◌}
use mathlib.Core.Path.{◌≡◌, refl, sym, ap, ◌∙◌}
use lib.Dec.{eqb, leb, ltb}
use lib.IntN.{ℤ, pos}
use lib.ListN.{length, get_or}
use borrow.Author.Tests.{eqb-true, eqb-false, leb-true, leb-false, ltb-true, ltb-false, eq-eqb, ne_eqb, lt-ltb, le-ltb}
use Rattle.rules.specs.Fields.{word_at}
use Rattle.rules.specs.Grid.{grid_steps, in_grid, all_in_grid, signed_of, positions_from}
use Rattle.counting.proofs.Bools.{and_left, and_right, and_both}
use Rattle.wire_theory.proofs.Positions.{signed_below, signed_from, position_at}

pub low_in : (w : ℕ) → w < 2048 → true ≡ in_grid (signed_of w)
low_in w h = sym (ap in_grid (signed_below w (omega arith)) ∙ lt-ltb w grid_steps h)

high_in : (w : ℕ) → w < 65536 → 63488 ≤ w → true ≡ in_grid (signed_of w)
high_in w k h = sym (ap in_grid (signed_from w (omega arith)) ∙ lt-ltb (65535 - w) grid_steps (omega arith))

middle_out : (w : ℕ) → 2048 ≤ w → w < 63488 → false ≡ in_grid (signed_of w)
middle_out w h k = go (ltb w 32768) refl
  where
    go : (t : Bool) → ltb w 32768 ≡ t → false ≡ in_grid (signed_of w)
    go true e = sym (ap in_grid (signed_below w (ltb-true w 32768 e)) ∙ le-ltb w grid_steps h)
    go false e = sym (ap in_grid (signed_from w (ltb-false w 32768 e)) ∙ le-ltb (65535 - w) grid_steps (omega arith))

pub other_in : (w : ℕ) → w < 65536 → 2048 ≤ w → leb 63488 w ≡ in_grid (signed_of w)
other_in w h k = go (leb 63488 w) refl
  where
    go : (t : Bool) → leb 63488 w ≡ t → t ≡ in_grid (signed_of w)
    go true f = high_in w h (leb-true 63488 w f)
    go false f = middle_out w k (leb-false 63488 w f)

-- all of a list, and each of it
pub each_grid : (zs : List ℤ) → all_in_grid zs ≡ true → (i : ℕ) → in_grid (get_or zs i (pos 0)) ≡ true
unfolding all_in_grid
each_grid [] h i = refl
each_grid (z ∷ zs) h zero = and_left (in_grid z) (all_in_grid zs) h
each_grid (z ∷ zs) h (suc i) = each_grid zs (and_right (in_grid z) (all_in_grid zs) h) i

pub all_grid : (zs : List ℤ) → ((i : ℕ) → i < length zs → in_grid (get_or zs i (pos 0)) ≡ true) → all_in_grid zs ≡ true
unfolding all_in_grid
all_grid [] h = refl
all_grid (z ∷ zs) h = and_both (in_grid z) (all_in_grid zs) (h 0 (omega arith)) (all_grid zs (λ i l. h (suc i) (omega arith)))

-- a position by the test of the number in its two bytes
pub by_bytes : (bs : List ℕ) (i w : ℕ) (b : Bool) → 2 * i + 1 < length bs → w ≡ word_at bs (2 * i) → b ≡ in_grid (signed_of w)
    → b ≡ in_grid (get_or (positions_from bs) i (pos 0))
by_bytes bs i w b l e f = f ∙ sym (ap in_grid (position_at bs i l ∙ ap signed_of (sym e)))

-- m numbers or bytes, where n are asked for, stand for zs, which is tested from its end: the positions from i on are in range
pub record InGridFrom (m n : ℕ) (zs : List ℤ) (i : ℕ) : Type 0 where
  pub long : m ≡ n
  pub within : i ≤ length zs
  pub range : (j : ℕ) → i ≤ j → j < length zs → in_grid (get_or zs j (pos 0)) ≡ true

module _ (m n : ℕ) (zs : List ℤ) where
  pub other_count : (m ≡ n → ⊥) → false ≡ (eqb m n && all_in_grid zs)
  other_count h = sym (ap (λ (t : Bool). t && all_in_grid zs) (ne_eqb m n h))

  pub none_tested : (i : ℕ) → m ≡ n → length zs ≡ i → InGridFrom m n zs i
  none_tested i l e = record { long = l; within = omega arith; range = λ j a b. absurd (omega arith) }

  counted : m ≡ n → (eqb m n && all_in_grid zs) ≡ all_in_grid zs
  counted l = ap (λ (t : Bool). t && all_in_grid zs) (eq-eqb m n l)

  module _ (i : ℕ) (t : InGridFrom m n zs i) where
    pub all_tested : i ≤ 0 → true ≡ (eqb m n && all_in_grid zs)
    all_tested l = sym (counted t.long ∙ all_grid zs (λ j k. t.range j (omega arith) k))

    -- the test of the next one
    module _ (b : Bool) (e : b ≡ in_grid (get_or zs (i - 1) (pos 0))) where
      pub one_outside : b ≡ false → false ≡ (eqb m n && all_in_grid zs)
      one_outside f = sym (counted t.long ∙ go (all_in_grid zs) refl)
        where
          go : (s : Bool) → all_in_grid zs ≡ s → s ≡ false
          go true g = sym (each_grid zs g (i - 1)) ∙ sym e ∙ f
          go false g = refl

      pub more_tested : 0 < i → b ≡ true → InGridFrom m n zs (i - 1)
      more_tested l y = record { long = t.long; within = omega (arith, t.within); range = each }
        where
          each : (j : ℕ) → i - 1 ≤ j → j < length zs → in_grid (get_or zs j (pos 0)) ≡ true
          each j a k = go (eqb j (i - 1)) refl
            where
              go : (s : Bool) → eqb j (i - 1) ≡ s → in_grid (get_or zs j (pos 0)) ≡ true
              go true f = ap (λ (x : ℕ). in_grid (get_or zs x (pos 0))) (eqb-true j (i - 1) f) ∙ sym e ∙ y
              go false f = t.range j (let g = eqb-false j (i - 1) f in omega (arith, g)) k
