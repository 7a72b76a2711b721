-- Bits written into a lent buffer: one after the other, and by the bytes in which they lie.
-- Assumes nothing.
use Prim.Native.Nat.{ℕ, zero, suc, ◌+◌, ◌*◌, ◌-◌, ◌/◌, ◌%◌, ◌^◌, ◌≤◌, ◌<◌}
use native.Mathlib.Nat.{add-zero}
use native.Mathlib.Omega.{arith}
use mathlib.Core.List.{List, [], ◌∷◌, ◌++◌, append_assoc}
use mathlib.Core.Path.{◌≡◌, refl, sym, ap, ap₂, ◌∙◌, subst}
use lib.ListN.{length, take, drop, get_or, replicate, length-append, length-replicate, length-drop, take-append-drop, drop_of_length-le}
use lib.ListN.{replicate-append-replicate}
use lib.Pow.{shr_mod}
use lib.Seq.{paste, length-take-le, length_paste_head, take-append-le, take_at, drop_at, drop-drop, take-add, take-append_seam}
use lib.Seq.{drop-append-add, get_or-drop, take-nil}
use Rattle.rules.specs.Bits.{bits, value_of, bits_of_bytes, bytes_of}
use Rattle.rules.specs.Buffer.{over}
use Rattle.wire_theory.specs.Shape.{Bytes}
use Rattle.wire_theory.specs.Buffer.{written_at, bytes_for, four_bytes, word_of}
use Rattle.wire_theory.proofs.Lists.{Bits, below_append, below_take, below_replicate, below_get_d}
use Rattle.wire_theory.proofs.Numbers.{length_bits, bits_are, value_append, value_from, value_of_bits, value_part, twice}
use Rattle.wire_theory.proofs.Bytes.{length_bits_of_bytes, bits_of_bytes_append, drop_bytes, bytes_step, bytes_nil, bytes_append}
use Rattle.wire_theory.proofs.Bytes.{bytes_of_bits, bits_of_bytes_lem, bytes_of_front, length_bytes, fill}

-- the bits that were written stand at the front
pub written_front : (bs ds : List ℕ) → Bits bs → take (length bs) (bits_of_bytes (bytes_of bs ++ ds)) ≡ bs
written_front bs ds h =
    let zs : List ℕ = replicate (fill (length bs)) 0 in
    ap (take (length bs)) (bits_of_bytes_append (bytes_of bs) ds ∙ ap (λ (us : List ℕ). us ++ bits_of_bytes ds) (bits_of_bytes_lem bs h)
    ∙ append_assoc bs zs (bits_of_bytes ds))
    ∙ take-append_seam bs (zs ++ bits_of_bytes ds)

-- longer results cover shorter ones
pub over_over : (xs ys buffer : List ℕ) → length xs ≤ length ys → over ys (over xs buffer) ≡ over ys buffer
over_over xs ys buffer h =
    let n = length ys - length xs in
    let e : length ys ≡ length xs + n = omega arith in
    ap (λ (us : List ℕ). ys ++ us)
    (ap (λ (k : ℕ). drop k (xs ++ drop (length xs) buffer)) e ∙ drop-append-add xs (drop (length xs) buffer) n
    ∙ drop-drop n (length xs) buffer
    ∙ ap (λ (k : ℕ). drop k buffer) (sym e))

-- more bits after those that were written
pub written_more : (bs xs buffer : List ℕ) → Bits bs
    → written_at (over (bytes_of bs) buffer) (length bs) xs ≡ over (bytes_of (bs ++ xs)) buffer
unfolding written_at
written_more bs xs buffer h =
    let e : take (length bs) (bits_of_bytes (over (bytes_of bs) buffer)) ≡ bs = written_front bs (drop (length (bytes_of bs)) buffer) h in
    let l : length (bytes_of bs) ≤ length (bytes_of (bs ++ xs)) =
    omega (arith, length_bytes bs, length_bytes (bs ++ xs), length-append bs xs) in
    ap (λ (us : List ℕ). over (bytes_of (us ++ xs)) (over (bytes_of bs) buffer)) e ∙ over_over (bytes_of bs) (bytes_of (bs ++ xs)) buffer l

-- ---- by bytes

take_bytes : (k : ℕ) (bs : List ℕ) → take (8 * k) (bits_of_bytes bs) ≡ bits_of_bytes (take k bs)
unfolding bits_of_bytes
take_bytes zero bs = refl
take_bytes (suc k) [] = take-nil (8 * suc k)
take_bytes (suc k) (b ∷ bs) =
    let e : 8 * suc k ≡ 8 + 8 * k = omega arith in
    let d : drop 8 (bits 8 b ++ bits_of_bytes bs) ≡ bits_of_bytes bs = drop_at (bits 8 b) (bits_of_bytes bs) 8 (length_bits 8 b) in
    let t : take 8 (bits 8 b ++ bits_of_bytes bs) ≡ bits 8 b = take_at (bits 8 b) (bits_of_bytes bs) 8 (length_bits 8 b) in
    ap (λ (n : ℕ). take n (bits 8 b ++ bits_of_bytes bs)) e ∙ take-add 8 (8 * k) (bits 8 b ++ bits_of_bytes bs)
    ∙ ap₂ (λ (us vs : List ℕ). us ++ take (8 * k) vs) t d ∙ ap (λ (us : List ℕ). bits 8 b ++ us) (take_bytes k bs)

-- fewer than eight bits lie in the first byte
in_first : (cs : List ℕ) (r : ℕ) → r ≤ 8 → r ≤ 8 * length cs → take r (bits_of_bytes cs) ≡ take r (bits 8 (get_or cs 0 0))
unfolding bits_of_bytes
in_first [] zero h l = refl
in_first [] (suc r) h l = absurd (omega arith)
in_first (c ∷ cs) r h l = take-append-le r (bits 8 c) (bits_of_bytes cs) (omega (arith, length_bits 8 c))

-- the bits before a position: whole bytes, and the front of one
before_at : (buffer : List ℕ) (at : ℕ) → at ≤ 8 * length buffer
    → take at (bits_of_bytes buffer) ≡ bits_of_bytes (take (at / 8) buffer) ++ take (at % 8) (bits 8 (get_or buffer (at / 8) 0))
before_at buffer at h =
    let k = at / 8 in
    let r = at % 8 in
    let e : at ≡ 8 * k + r = omega arith in
    let g : get_or (drop k buffer) 0 0 ≡ get_or buffer k 0 = get_or-drop k buffer 0 0 ∙ ap (λ (i : ℕ). get_or buffer i 0) (add-zero k) in
    let d : take r (drop (8 * k) (bits_of_bytes buffer)) ≡ take r (bits 8 (get_or buffer k 0)) =
    ap (take r) (drop_bytes k buffer) ∙ in_first (drop k buffer) r (omega arith) (omega (arith, length-drop k buffer))
    ∙ ap (λ (b : ℕ). take r (bits 8 b)) g in
    ap (λ (n : ℕ). take n (bits_of_bytes buffer)) e ∙ take-add (8 * k) r (bits_of_bytes buffer)
    ∙ ap₂ (λ (us vs : List ℕ). us ++ vs) (take_bytes k buffer) d

value_zeros : (a n : ℕ) → value_of a (replicate n 0) ≡ a * 2 ^ n
unfolding value_of
value_zeros a zero = omega arith
value_zeros a (suc n) = value_zeros (2 * a + 0) n ∙ ap (λ (k : ℕ). k * 2 ^ n) (add-zero (2 * a)) ∙ sym (twice a n)

-- the byte from the bit position k on, and the others
chunk : (zs : List ℕ) (k : ℕ) → k + 8 ≤ length zs → bytes_of (drop k zs) ≡ value_of 0 (take 8 (drop k zs)) ∷ bytes_of (drop (k + 8) zs)
chunk zs k h =
    let us = drop k zs in
    let l : length (take 8 us) ≡ 8 = length-take-le 8 us (omega (arith, length-drop k zs)) in
    ap bytes_of (sym (take-append-drop 8 us)) ∙ bytes_step (take 8 us) (drop 8 us) l
    ∙ ap (λ (vs : List ℕ). value_of 0 (take 8 us) ∷ bytes_of vs) (drop-drop 8 k zs)

-- the four bytes of 32 bits
four_chunks : (zs : List ℕ) → Bits zs → length zs ≡ 32 → bytes_of zs ≡ four_bytes (value_of 0 zs)
four_chunks zs h l =
    let w = value_of 0 zs in
    let a : bytes_of zs ≡ w / 2 ^ 24 % 256 ∷ bytes_of (drop 8 zs) =
    chunk zs 0 (omega arith) ∙ ap (λ (x : ℕ). x ∷ bytes_of (drop 8 zs)) (value_part zs 0 8 24 h l) in
    let b : bytes_of (drop 8 zs) ≡ w / 2 ^ 16 % 256 ∷ bytes_of (drop 16 zs) =
    chunk zs 8 (omega arith) ∙ ap (λ (x : ℕ). x ∷ bytes_of (drop 16 zs)) (value_part zs 8 8 16 h l) in
    let c : bytes_of (drop 16 zs) ≡ w / 2 ^ 8 % 256 ∷ bytes_of (drop 24 zs) =
    chunk zs 16 (omega arith) ∙ ap (λ (x : ℕ). x ∷ bytes_of (drop 24 zs)) (value_part zs 16 8 8 h l) in
    let d : bytes_of (drop 24 zs) ≡ w / 2 ^ 0 % 256 ∷ bytes_of (drop 32 zs) =
    chunk zs 24 (omega arith) ∙ ap (λ (x : ℕ). x ∷ bytes_of (drop 32 zs)) (value_part zs 24 8 0 h l) in
    let e : bytes_of (drop 32 zs) ≡ [] = ap bytes_of (drop_of_length-le zs {i = 32} (omega arith)) ∙ bytes_nil in
    rw (a, b, c, d, e)

-- up to four bytes of bits
pub bytes_of_four : (ys : List ℕ) → Bits ys → length ys ≤ 32
    → bytes_of ys ≡ take (bytes_for (length ys)) (four_bytes (value_of 0 ys * 2 ^ (32 - length ys)))
bytes_of_four ys h l =
    let n = fill (length ys) in
    let m = 32 - (length ys + n) in
    let z : List ℕ = replicate (32 - length ys) 0 in
    let e : (ys ++ replicate n 0) ++ replicate m 0 ≡ ys ++ z =
    append_assoc ys (replicate n 0) (replicate m 0)
    ∙ ap (λ (us : List ℕ). ys ++ us) (replicate-append-replicate n m 0 ∙ ap (λ (k : ℕ). replicate k 0) (fills (length ys) l)) in
    let lz : length (ys ++ z) ≡ 32 = omega (arith, length-append ys z, length-replicate {A = ℕ} (32 - length ys) 0) in
    let hz : Bits (ys ++ z) = below_append 2 ys z h (below_replicate 2 (32 - length ys) 0 (omega arith)) in
    let v : value_of 0 (ys ++ z) ≡ value_of 0 ys * 2 ^ (32 - length ys) =
    value_append 0 ys z ∙ value_zeros (value_of 0 ys) (32 - length ys) in
    bytes_of_front ys m h ∙ ap (λ (us : List ℕ). take (bytes_for (length ys)) (bytes_of us)) e
    ∙ ap (take (bytes_for (length ys))) (four_chunks (ys ++ z) hz lz ∙ ap four_bytes v)
  where
    fills : (l : ℕ) → l ≤ 32 → fill l + (32 - (l + fill l)) ≡ 32 - l
    fills l h = omega arith

-- the front of a byte, as a number
front_value : (b r : ℕ) → b < 256 → r ≤ 8 → value_of 0 (take r (bits 8 b)) ≡ b / 2 ^ (8 - r)
front_value b r h k =
    let e : 8 ≡ r + (8 - r) = omega arith in
    value_part (bits 8 b) 0 r (8 - r) (bits_are 8 b) (length_bits 8 b ∙ omega arith)
    ∙ ap (λ (x : ℕ). x / 2 ^ (8 - r) % 2 ^ r) (value_of_bits 8 b h) ∙ shr_mod r (8 - r) (subst (λ (x : ℕ). b < 2 ^ x) e h)

-- the word that the bits lie in, from the byte of their position on
abbrev pub word_at : List ℕ → ℕ → List ℕ → ℕ
word_at buffer at xs = word_of (get_or buffer (at / 8) 0) (at % 8) (length xs) (value_of 0 xs)

module _ (buffer : List ℕ) (at : ℕ) (xs : List ℕ) (hr : Bytes buffer) (hx : Bits xs) (small : at % 8 + length xs ≤ 32)
    (within : at ≤ 8 * length buffer) where
  bytes_by_word : bytes_of (take at (bits_of_bytes buffer) ++ xs)
      ≡ take (at / 8) buffer ++ take (bytes_for (at % 8 + length xs)) (four_bytes (word_at buffer at xs))
  bytes_by_word =
      let k = at / 8 in
      let r = at % 8 in
      let b = get_or buffer k 0 in
      let hb : b < 256 = below_get_d 256 buffer k (omega arith) hr in
      let us = take r (bits 8 b) in
      let ys = us ++ xs in
      let hy : Bits ys = below_append 2 us xs (below_take 2 r (bits 8 b) (bits_are 8 b)) hx in
      let lu : length us ≡ r = length-take-le r (bits 8 b) (omega (arith, length_bits 8 b)) in
      let ly : length ys ≡ r + length xs = omega (arith, length-append us xs) in
      let lt : length (take k buffer) ≡ k = length-take-le k buffer (omega arith) in
      let lf : length (bits_of_bytes (take k buffer)) ≡ 8 * k = omega (arith, length_bits_of_bytes (take k buffer)) in
      let v : value_of 0 ys ≡ b / 2 ^ (8 - r) * 2 ^ length xs + value_of 0 xs =
      value_append 0 us xs ∙ value_from (value_of 0 us) xs
      ∙ ap (λ (x : ℕ). x * 2 ^ length xs + value_of 0 xs) (front_value b r hb (omega arith)) in
      let s : 32 - length ys ≡ 32 - r - length xs = omega arith in
      let w : value_of 0 ys * 2 ^ (32 - length ys) ≡ word_of b r (length xs) (value_of 0 xs) = ap₂ (λ (x y : ℕ). x * 2 ^ y) v s in
      ap (λ (zs : List ℕ). bytes_of (zs ++ xs)) (before_at buffer at within)
      ∙ ap bytes_of (append_assoc (bits_of_bytes (take k buffer)) us xs)
      ∙ bytes_append k (bits_of_bytes (take k buffer)) ys lf
      ∙ ap₂ (λ (cs ds : List ℕ). cs ++ ds) (bytes_of_bits (take k buffer) (below_take 256 k buffer hr))
      (bytes_of_four ys hy (omega arith) ∙ ap₂ (λ (m x : ℕ). take (bytes_for m) (four_bytes x)) ly w)

  -- the bits are written by writing the bytes in which they lie
  pub written_word : bytes_for (at + length xs) ≤ length buffer
      → written_at buffer at xs ≡ paste buffer (at / 8) (four_bytes (word_at buffer at xs)) (bytes_for (at % 8 + length xs))
  unfolding written_at
  written_word fits =
      let k = at / 8 in
      let m = bytes_for (at % 8 + length xs) in
      let ds = take k buffer ++ take m (four_bytes (word_at buffer at xs)) in
      let l : length ds ≡ k + m = length_paste_head buffer k (four_bytes (word_at buffer at xs)) m (omega arith) (omega arith) in
      ap (λ (cs : List ℕ). over cs buffer) bytes_by_word ∙ ap (λ (n : ℕ). ds ++ drop n buffer) l
