-- A number of a few bits, read from the three bytes in which it lies; bits written into the bytes in which they lie.
-- Assumes nothing.
use Prim.Native.Nat.{ℕ, zero, suc, ◌+◌, ◌*◌, ◌-◌, ◌/◌, ◌%◌, ◌^◌, ◌≤◌, ◌<◌}
use native.Mathlib.Nat.{add-zero}
use native.Mathlib.Omega.{arith}
use mathlib.Core.List.{List, [], ◌∷◌, ◌++◌}
use mathlib.Core.Path.{◌≡◌, refl, sym, ap, ◌∙◌}
use lib.ListN.{length, take, drop, get_or, length-drop}
use lib.Seq.{get_or-drop}
use Rattle.rules.specs.Bits.{bits, value_of, bits_of_bytes}
use Rattle.wire_theory.specs.Shape.{Bytes}
use Rattle.wire_theory.proofs.Lists.{Bits, below_append, below_drop, below_get_d, part_front}
use Rattle.wire_theory.proofs.Numbers.{bits_are, value_append, value_bits, value_of_bits, value_part}
use Rattle.wire_theory.proofs.Bytes.{drop_bits}

-- the bits of three bytes, and their number
three : ℕ → ℕ → ℕ → List ℕ
three a b c = bits 8 a ++ (bits 8 b ++ bits 8 c)

length_three : (a b c : ℕ) → length (three a b c) ≡ 24
unfolding three bits
length_three a b c = refl

three_are : (a b c : ℕ) → Bits (three a b c)
unfolding three
three_are a b c = below_append 2 (bits 8 a) (bits 8 b ++ bits 8 c) (bits_are 8 a)
    (below_append 2 (bits 8 b) (bits 8 c) (bits_are 8 b) (bits_are 8 c))

-- a byte more
byte_more : (v b : ℕ) → b < 256 → value_of v (bits 8 b) ≡ 256 * v + b
byte_more v b h = omega (arith, value_bits v 8 b)

three_value : (a b c : ℕ) → a < 256 → b < 256 → c < 256 → value_of 0 (three a b c) ≡ 65536 * a + 256 * b + c
unfolding three
three_value a b c ha hb hc =
    let e : value_of 0 (bits 8 a) ≡ a = value_of_bits 8 a ha in
    let f : value_of 0 (bits 8 a ++ (bits 8 b ++ bits 8 c)) ≡ value_of (value_of (value_of 0 (bits 8 a)) (bits 8 b)) (bits 8 c) =
    value_append 0 (bits 8 a) (bits 8 b ++ bits 8 c) ∙ value_append (value_of 0 (bits 8 a)) (bits 8 b) (bits 8 c) in
    let g : value_of a (bits 8 b) ≡ 256 * a + b = byte_more a b hb in
    let i : value_of (256 * a + b) (bits 8 c) ≡ 256 * (256 * a + b) + c = byte_more (256 * a + b) c hc in
    rw (f, e, g, i) (omega arith)

-- a part of the bits of some bytes lies in the first three, of which those that are missing count as 0
in_three : (bs : List ℕ) (r n : ℕ) → r + n ≤ 24 → r + n ≤ 8 * length bs
    → take n (drop r (bits_of_bytes bs)) ≡ take n (drop r (three (get_or bs 0 0) (get_or bs 1 0) (get_or bs 2 0)))
unfolding three bits_of_bytes bits
in_three [] r zero h k = refl
in_three [] r (suc n) h k = absurd (omega arith)
in_three (a ∷ []) r n h k =
    part_front n r (bits 8 a) [] (omega arith) ∙ sym (part_front n r (bits 8 a) (bits 8 0 ++ bits 8 0) (omega arith))
in_three (a ∷ (b ∷ [])) r n h k =
    part_front n r (bits 8 a ++ bits 8 b) [] (omega arith) ∙ sym (part_front n r (bits 8 a ++ bits 8 b) (bits 8 0) (omega arith))
in_three (a ∷ (b ∷ (c ∷ bs))) r n h k =
    part_front n r (bits 8 a ++ (bits 8 b ++ bits 8 c)) (bits_of_bytes bs) (omega arith)

-- the number of n bits from the bit position at on, by one division and one remainder
pub window_value : (bs : List ℕ) (at n : ℕ) → Bytes bs → at % 8 + n ≤ 24 → at + n ≤ 8 * length bs
    → value_of 0 (take n (drop at (bits_of_bytes bs)))
    ≡ (65536 * get_or bs (at / 8) 0 + 256 * get_or bs (at / 8 + 1) 0 + get_or bs (at / 8 + 2) 0) / 2 ^ (24 - at % 8 - n) % 2 ^ n
window_value bs at n h w l =
    let k = at / 8 in
    let r = at % 8 in
    let cs = drop k bs in
    let hc : Bytes cs = below_drop 256 k bs h in
    let a = get_or cs 0 0 in
    let b = get_or cs 1 0 in
    let c = get_or cs 2 0 in
    let ea : a ≡ get_or bs k 0 = get_or-drop k bs 0 0 ∙ ap (λ (i : ℕ). get_or bs i 0) (add-zero k) in
    let eb : b ≡ get_or bs (k + 1) 0 = get_or-drop k bs 1 0 in
    let ec : c ≡ get_or bs (k + 2) 0 = get_or-drop k bs 2 0 in
    let d : take n (drop at (bits_of_bytes bs)) ≡ take n (drop r (three a b c)) =
    ap (take n) (drop_bits at bs) ∙ in_three cs r n w (omega (arith, length-drop k bs)) in
    let v : value_of 0 (three a b c) ≡ 65536 * get_or bs k 0 + 256 * get_or bs (k + 1) 0 + get_or bs (k + 2) 0 =
    three_value a b c (below_get_d 256 cs 0 (omega arith) hc) (below_get_d 256 cs 1 (omega arith) hc)
    (below_get_d 256 cs 2 (omega arith) hc)
    ∙ omega arith in
    ap (value_of 0) d ∙ value_part (three a b c) r n (24 - r - n) (three_are a b c) (length_three a b c ∙ omega arith)
    ∙ ap (λ (x : ℕ). x / 2 ^ (24 - r - n) % 2 ^ n) v
