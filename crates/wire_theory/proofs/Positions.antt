-- Positions as bytes: what is written is read, and what is read was written.
-- Assumes nothing.
use Prim.Native.Nat.{ℕ, zero, suc, ◌+◌, ◌-◌, ◌*◌, ◌≤◌, ◌<◌}
use native.Mathlib.Omega.{arith}
use mathlib.Core.Bool.{Bool, true, false}
use mathlib.Core.List.{List, [], ◌∷◌, ◌++◌}
use mathlib.Core.Path.{◌≡◌, refl, ap, ap₂, ◌∙◌}
use lib.Dec.{ltb}
use lib.IntN.{ℤ, pos, negsuc}
use lib.ListN.{length, get_or}
use borrow.Author.Tests.{ltb-true, ltb-false, lt-ltb, le-ltb}
use Rattle.rules.specs.Fields.{word}
use Rattle.rules.specs.Grid.{grid_steps, in_grid, all_in_grid, unsigned_of, signed_of, position_bytes, positions_from}
use Rattle.counting.proofs.Bools.{and_left, and_right}
use Rattle.wire_theory.specs.Shape.{Bytes}
use Rattle.wire_theory.proofs.Fields.{word_back, word_again}

-- a number of 16 bits, signed and back
pub signed_below : (n : ℕ) → n < 32768 → signed_of n ≡ pos n
unfolding signed_of
signed_below n h = rw (lt-ltb n 32768 h, signed_of) refl

pub signed_from : (n : ℕ) → 32768 ≤ n → signed_of n ≡ negsuc (65535 - n)
unfolding signed_of
signed_from n h = rw (le-ltb n 32768 h, signed_of) refl

signed_back : (z : ℤ) → in_grid z ≡ true → signed_of (unsigned_of z) ≡ z
signed_back (pos n) h = let k = ltb-true n grid_steps h in signed_below n (omega arith)
signed_back (negsuc n) h =
    let k = ltb-true n grid_steps h in
    let e : 65535 - (65535 - n) ≡ n = omega arith in
    signed_from (65535 - n) (omega arith) ∙ ap negsuc e

fits_16 : (z : ℤ) → in_grid z ≡ true → unsigned_of z < 65536
fits_16 (pos n) h = let k = ltb-true n grid_steps h in omega arith
fits_16 (negsuc n) h = omega arith

unsigned_back : (n : ℕ) → n < 65536 → unsigned_of (signed_of n) ≡ n
unsigned_back n h = go (ltb n 32768) refl
  where
    go : (b : Bool) → ltb n 32768 ≡ b → unsigned_of (signed_of n) ≡ n
    go true e = ap unsigned_of (signed_below n (ltb-true n 32768 e))
    go false e = ap unsigned_of (signed_from n (ltb-false n 32768 e)) ∙ omega (arith, ltb-false n 32768 e)

-- lists of them
pub length_positions : (zs : List ℤ) → length (position_bytes zs) ≡ 2 * length zs
unfolding position_bytes
length_positions [] = refl
length_positions (z ∷ zs) = omega (arith, length_positions zs)

pub positions_read : (zs : List ℤ) → all_in_grid zs ≡ true → positions_from (position_bytes zs) ≡ zs
unfolding position_bytes positions_from all_in_grid
positions_read [] h = refl
positions_read (z ∷ zs) h =
    let k = and_left (in_grid z) (all_in_grid zs) h in
    ap₂ (λ (x : ℤ) (xs : List ℤ). x ∷ xs) (ap signed_of (word_back (unsigned_of z) (fits_16 z k)) ∙ signed_back z k)
    (positions_read zs (and_right (in_grid z) (all_in_grid zs) h))

pub positions_again : (bs : List ℕ) (n : ℕ) → Bytes bs → length bs ≡ 2 * n → position_bytes (positions_from bs) ≡ bs
unfolding position_bytes positions_from
positions_again [] n h l = refl
positions_again (a ∷ []) n h l = absurd (omega arith)
positions_again (a ∷ (b ∷ bs)) n h l =
    ap₂ (λ (us vs : List ℕ). us ++ vs)
    (ap word (unsigned_back (256 * a + b) (omega (arith, h.0, h.1.0))) ∙ word_again a b h.0 h.1.0)
    (positions_again bs (n - 1) h.1.1 (omega arith))

pub length_from : (bs : List ℕ) (n : ℕ) → length bs ≡ 2 * n → length (positions_from bs) ≡ n
unfolding positions_from
length_from [] n l = omega arith
length_from (a ∷ []) n l = absurd (omega arith)
length_from (a ∷ (b ∷ bs)) n l = omega (arith, length_from bs (n - 1) (omega arith))

-- a position where its two bytes stand
pub position_at : (bs : List ℕ) (i : ℕ) → 2 * i + 1 < length bs
    → get_or (positions_from bs) i (pos 0) ≡ signed_of (256 * get_or bs (2 * i) 0 + get_or bs (2 * i + 1) 0)
unfolding positions_from
position_at [] i l = absurd (omega arith)
position_at (a ∷ []) i l = absurd (omega arith)
position_at (a ∷ (b ∷ bs)) zero l = refl
position_at (a ∷ (b ∷ bs)) (suc i) l =
    let e : suc (suc (2 * i)) ≡ 2 * suc i = omega arith in
    let f : suc (suc (2 * i + 1)) ≡ 2 * suc i + 1 = omega arith in
    position_at bs i (omega arith)
    ∙ (λ j. signed_of (256 * get_or (a ∷ (b ∷ bs)) (e j) 0 + get_or (a ∷ (b ∷ bs)) (f j) 0))
