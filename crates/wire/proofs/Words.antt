-- An operation's bits as a number, and the bytes in which it lies: laws over plain values.
-- Assumes nothing.
use Prim.Native.Nat.{ℕ, ◌+◌, ◌*◌, ◌-◌, ◌/◌, ◌%◌, ◌^◌, ◌≤◌, ◌<◌}
use native.Mathlib.Nat.{mod-eq_of_lt, lt_of_lt_of_le}
use native.Mathlib.Omega.{arith}
use mathlib.Core.Bool.{Bool, true}
use mathlib.Core.List.{List, [], ◌∷◌, ◌++◌, append_assoc}
use mathlib.Core.Path.{◌≡◌, refl, sym, ap, ap₂, ◌∙◌, subst}
use lib.Arith.{digits_lt}
use lib.ListN.{length, take, drop, get_or}
use lib.Pow.{pow-add, pow_mono, shl_lt, shr_lt}
use lib.Seq.{paste, drop-drop}
use mir.Syntax.{w8}
use mir.Val as Val
use borrow.Author.Tests.{le-leb}
use Rattle.std.specs.Int.{w32, to_be_bytes}
use Rattle.rules.specs.declared.Operation.{Operation}
use Rattle.rules.specs.declared.Operation.TheVariants.{New, Forward, Backward, Border, Split, Close, Union, Start}
use Rattle.rules.specs.Bits.{bits, value_of}
use Rattle.rules.specs.Code.{operation_bits}
use Rattle.wire_theory.specs.Buffer.{written_at, bytes_for, four_bytes, word_of}
use Rattle.wire_theory.specs.Shape.{width_of}
use Rattle.wire_theory.proofs.Lists.{below_all}
use Rattle.wire_theory.proofs.Numbers.{value_append, value_bits, value_below}
use Rattle.wire_theory.proofs.Operations.{length_operation, operation_bits_are, width_most}
use Rattle.wire_theory.proofs.Buffer.{written_word}
use Rattle.wire.specs.Fields.{pick_buffer}
use Rattle.wire.specs.Writer.{value_in, fits_in, buffer_after}

-- ---- an operation as a number

piece_value : (o : Operation) → value_in o ≡ value_of 0 (operation_bits o)
unfolding operation_bits bits value_of
piece_value New = refl
piece_value Forward = refl
piece_value Backward = refl
piece_value Border = refl
piece_value (Split i) = omega (arith, value_append 0 (bits 3 4) (bits 10 i), value_bits 4 10 i)
piece_value Close = refl
piece_value (Union p j) =
    let a : value_of 0 (bits 3 6 ++ (bits 7 p ++ bits 10 j)) ≡ value_of (value_of 6 (bits 7 p)) (bits 10 j) =
    value_append 0 (bits 3 6) (bits 7 p ++ bits 10 j) ∙ value_append 6 (bits 7 p) (bits 10 j) in
    let b : value_of 6 (bits 7 p) ≡ 6 * 128 + p % 128 = value_bits 6 7 p in
    let c : value_of (6 * 128 + p % 128) (bits 10 j) ≡ (6 * 128 + p % 128) * 1024 + j % 1024 = value_bits (6 * 128 + p % 128) 10 j in
    let d : (6 * 128 + p % 128) * 1024 + j % 1024 ≡ 786432 + p % 128 * 1024 + j % 1024 = omega arith in
    sym (a ∙ ap (λ (x : ℕ). value_of x (bits 10 j)) b ∙ c ∙ d)
piece_value Start = refl

pub piece_below : (o : Operation) (n v : ℕ) → n ≡ width_of o → v ≡ value_in o → v < 2 ^ n
piece_below o n v e f =
    rw (e, f, piece_value o) (subst (λ (k : ℕ). value_of 0 (operation_bits o) < 2 ^ k) (length_operation o)
    (value_below (operation_bits o) (operation_bits_are o)))

pub piece_most : (o : Operation) (n : ℕ) → n ≡ width_of o → n ≤ 20
piece_most o n e = omega (arith, width_most o)

-- ---- the word

module _ (b bit n v : ℕ) (hb : b < 256) (hbit : bit < 8) (hn : n ≤ 20) (hv : v < 2 ^ n) where
  -- nothing is shifted out
  front : b / 2 ^ (8 - bit) * 2 ^ n + v < 2 ^ (bit + n)
  front =
      let e : bit + (8 - bit) ≡ 8 = omega arith in
      let h : b < 2 ^ (bit + (8 - bit)) = subst (λ (k : ℕ). b < 2 ^ k) (sym e) hb in
      subst (λ (k : ℕ). b / 2 ^ (8 - bit) * 2 ^ n + v < k) (sym (pow-add 2 bit n)) (digits_lt (shr_lt bit (8 - bit) h) hv)

  front_small : b / 2 ^ (8 - bit) * 2 ^ n + v < 134217728
  front_small = lt_of_lt_of_le front (pow_mono {i = bit + n} {j = 27} (omega arith))

  pub front_fits : b / 2 ^ (8 - bit) * 2 ^ n % 18446744073709551616 + v < 18446744073709551616
  front_fits = omega (arith, front_small)

  word_small : word_of b bit n v < 4294967296
  word_small =
      let e : bit + n + (32 - bit - n) ≡ 32 = omega arith in
      subst (λ (k : ℕ). word_of b bit n v < 2 ^ k) e (shl_lt (bit + n) (32 - bit - n) front)

  pub word_is : (b / 2 ^ (8 - bit) * 2 ^ n % 18446744073709551616 + v) * 2 ^ (32 - bit - n) % 18446744073709551616 ≡ word_of b bit n v
  word_is =
      let f : b / 2 ^ (8 - bit) * 2 ^ n % 18446744073709551616 ≡ b / 2 ^ (8 - bit) * 2 ^ n = mod-eq_of_lt (omega (arith, front_small)) in
      ap (λ (x : ℕ). (x + v) * 2 ^ (32 - bit - n) % 18446744073709551616) f ∙ mod-eq_of_lt (omega (arith, word_small))

  pub word_fits : (b / 2 ^ (8 - bit) * 2 ^ n % 18446744073709551616 + v) * 2 ^ (32 - bit - n) % 18446744073709551616 < 4294967296
  word_fits = omega (arith, word_is, word_small)

-- its bytes
four_is : (w : ℕ) → to_be_bytes w32 w ≡ four_bytes w
four_is w =
    let e : w % 256 ≡ w / 1 % 256 = omega arith in
    ap (λ (x : ℕ). w / 16777216 % 256 ∷ (w / 65536 % 256 ∷ (w / 256 % 256 ∷ (x ∷ [])))) e

-- ---- the buffer

module _ (buffer : List ℕ) (at : ℕ) (o : Operation) (n : ℕ) (wide : n ≡ width_of o) where
  pub buffer_written : (b v w : ℕ) (ys : List ℕ) → ((i : ℕ) → Val.Fits w8 (get_or buffer i 0))
      → at / 8 + (at % 8 + n + 7) / 8 ≤ length buffer
      → b ≡ get_or buffer (at / 8) 0 → v ≡ value_in o → w ≡ word_of b (at % 8) n v
      → ys ≡ take ((at % 8 + n + 7) / 8) (to_be_bytes w32 w)
      → take (at / 8) buffer ++ (ys ++ drop (at / 8 + (at % 8 + n + 7) / 8 - at / 8) (drop (at / 8) buffer)) ≡ buffer_after buffer at o
  unfolding buffer_after
  buffer_written b v w ys all h eb ev ew el =
      let xs = operation_bits o in
      let k = at / 8 in
      let m = (at % 8 + n + 7) / 8 in
      let l : length xs ≡ width_of o = length_operation o in
      let i : n ≡ length xs = wide ∙ sym l in
      let f : fits_in (length buffer) at o ≡ true = le-leb (bytes_for (at + width_of o)) (length buffer) (omega arith) in
      let p : written_at buffer at xs
      ≡ paste buffer k (four_bytes (word_of (get_or buffer k 0) (at % 8) (length xs) (value_of 0 xs))) (bytes_for (at % 8 + length xs)) =
      written_word buffer at xs (below_all 256 buffer (λ j. (all j).fits)) (operation_bits_are o) (omega (arith, width_most o))
      (omega arith)
      (omega arith) in
      let q : word_of b (at % 8) n v ≡ word_of (get_or buffer k 0) (at % 8) (length xs) (value_of 0 xs) = rw (eb, ev, piece_value o, i) in
      let r : paste buffer k (four_bytes w) m ≡ written_at buffer at xs =
      ap₂ (λ (x y : ℕ). paste buffer k (four_bytes x) (bytes_for (at % 8 + y))) (ew ∙ q) i ∙ sym p in
      let d : drop (k + m - k) (drop k buffer) ≡ drop (k + m) buffer =
      drop-drop (k + m - k) k buffer ∙ ap (λ (y : ℕ). drop y buffer) (omega arith) in
      ap₂ (λ (us vs : List ℕ). take k buffer ++ (us ++ vs)) (el ∙ ap (take m) (four_is w)) d
      ∙ sym (append_assoc (take k buffer) (take m (four_bytes w)) (drop (k + m) buffer)) ∙ r
      ∙ sym (ap (λ (t : Bool). pick_buffer t (written_at buffer at xs) buffer) f)
