-- Bits in bytes, and bytes as bits.
-- Assumes nothing.
use Prim.Native.Nat.{ℕ, zero, suc, ◌+◌, ◌*◌, ◌-◌, ◌/◌, ◌%◌, ◌≤◌, ◌<◌}
use native.Mathlib.Decide.{dec_le}
use native.Mathlib.Omega.{arith}
use mathlib.Core.List.{List, [], ◌∷◌, ◌++◌, append_assoc, append-nil}
use mathlib.Core.Path.{◌≡◌, refl, sym, ap, ap₂, ◌∙◌}
use lib.ListN.{length, take, drop, replicate, length-append, length-replicate, take-append-drop, length-drop, drop_of_length-le}
use lib.Seq.{length-take-le, take-append-le, take_at, drop_at, drop-drop, take-append-add, drop-append-add, drop-nil}
use Rattle.rules.specs.Bits.{bits, value_of, bits_of_bytes, bytes_within, bytes_of}
use Rattle.wire_theory.specs.Shape.{Bytes}
use Rattle.wire_theory.proofs.Lists.{Bits, below_append, below_take, below_drop, below_replicate}
use Rattle.wire_theory.proofs.Numbers.{length_bits, bits_are, value_below, value_of_bits, bits_of_value}

pub length_bits_of_bytes : (bs : List ℕ) → length (bits_of_bytes bs) ≡ 8 * length bs
unfolding bits_of_bytes
length_bits_of_bytes [] = refl
length_bits_of_bytes (b ∷ bs) = omega (arith, length-append (bits 8 b) (bits_of_bytes bs), length_bits 8 b, length_bits_of_bytes bs)

pub bits_of_bytes_are : (bs : List ℕ) → Bits (bits_of_bytes bs)
unfolding bits_of_bytes
bits_of_bytes_are [] = tt
bits_of_bytes_are (b ∷ bs) = below_append 2 (bits 8 b) (bits_of_bytes bs) (bits_are 8 b) (bits_of_bytes_are bs)

pub bits_of_bytes_append : (cs bs : List ℕ) → bits_of_bytes (cs ++ bs) ≡ bits_of_bytes cs ++ bits_of_bytes bs
unfolding bits_of_bytes
bits_of_bytes_append [] bs = refl
bits_of_bytes_append (a ∷ cs) bs =
    ap (λ (xs : List ℕ). bits 8 a ++ xs) (bits_of_bytes_append cs bs) ∙ sym (append_assoc (bits 8 a) (bits_of_bytes cs) (bits_of_bytes bs))

-- whole bytes dropped
pub drop_bytes : (k : ℕ) (bs : List ℕ) → drop (8 * k) (bits_of_bytes bs) ≡ bits_of_bytes (drop k bs)
unfolding bits_of_bytes
drop_bytes zero bs = refl
drop_bytes (suc k) [] = drop-nil (8 * suc k)
drop_bytes (suc k) (b ∷ bs) =
    let e : 8 * suc k ≡ length (bits 8 b) + 8 * k = omega (arith, length_bits 8 b) in
    ap (λ (n : ℕ). drop n (bits 8 b ++ bits_of_bytes bs)) e ∙ drop-append-add (bits 8 b) (bits_of_bytes bs) (8 * k) ∙ drop_bytes k bs

pub drop_bits : (at : ℕ) (bs : List ℕ) → drop at (bits_of_bytes bs) ≡ drop (at % 8) (bits_of_bytes (drop (at / 8) bs))
drop_bits at bs =
    let e : at ≡ 8 * (at / 8) + at % 8 = omega arith in
    ap (λ (n : ℕ). drop n (bits_of_bytes bs)) e ∙ sym (drop-drop (at % 8) (8 * (at / 8)) (bits_of_bytes bs))
    ∙ ap (drop (at % 8)) (drop_bytes (at / 8) bs)

-- more than enough fuel changes nothing
within_any : (m n : ℕ) (xs : List ℕ) → length xs ≤ m → length xs ≤ n → bytes_within m xs ≡ bytes_within n xs
unfolding bytes_within
within_any zero zero xs h k = refl
within_any zero (suc n) [] h k = refl
within_any zero (suc n) (x ∷ xs) h k = absurd (omega arith)
within_any (suc m) zero [] h k = refl
within_any (suc m) zero (x ∷ xs) h k = absurd (omega arith)
within_any (suc m) (suc n) [] h k = refl
within_any (suc m) (suc n) (x ∷ xs) h k =
    let l : length (drop 7 xs) ≡ length xs - 7 = length-drop 7 xs in
    ap (λ (bs : List ℕ). value_of 0 (take 8 ((x ∷ xs) ++ replicate 7 0)) ∷ bs) (within_any m n (drop 7 xs) (omega arith) (omega arith))

pub bytes_nil : bytes_of [] ≡ []
unfolding bytes_within
bytes_nil = refl

-- the first byte, and the others
pub bytes_cons : (x : ℕ) (xs : List ℕ) → bytes_of (x ∷ xs) ≡ value_of 0 (take 8 ((x ∷ xs) ++ replicate 7 0)) ∷ bytes_of (drop 8 (x ∷ xs))
unfolding bytes_within
bytes_cons x xs =
    let l : length (drop 7 xs) ≡ length xs - 7 = length-drop 7 xs in
    ap (λ (bs : List ℕ). value_of 0 (take 8 ((x ∷ xs) ++ replicate 7 0)) ∷ bs)
    (within_any (length xs) (length (drop 7 xs)) (drop 7 xs) (omega arith) (omega arith))

-- eight bits are a byte
pub bytes_step : (us vs : List ℕ) → length us ≡ 8 → bytes_of (us ++ vs) ≡ value_of 0 us ∷ bytes_of vs
bytes_step [] vs l = absurd (omega arith)
bytes_step (u ∷ us) vs l =
    let t : take 8 (((u ∷ us) ++ vs) ++ replicate 7 0) ≡ u ∷ us =
    ap (take 8) (append_assoc (u ∷ us) vs (replicate 7 0)) ∙ take_at (u ∷ us) (vs ++ replicate 7 0) 8 l in
    let d : drop 8 ((u ∷ us) ++ vs) ≡ vs = drop_at (u ∷ us) vs 8 l in
    bytes_cons u (us ++ vs) ∙ ap₂ (λ (cs bs : List ℕ). value_of 0 cs ∷ bytes_of bs) t d

pub length_within : (n : ℕ) (xs : List ℕ) → length xs ≤ n → length (bytes_within n xs) ≡ (length xs + 7) / 8
unfolding bytes_within
length_within zero [] h = refl
length_within zero (x ∷ xs) h = absurd (omega arith)
length_within (suc n) [] h = refl
length_within (suc n) (x ∷ xs) h =
    let l : length (drop 7 xs) ≡ length xs - 7 = length-drop 7 xs in
    omega (arith, length_within n (drop 7 xs) (omega arith), l)

-- as many bytes as the bits need
pub length_bytes : (xs : List ℕ) → length (bytes_of xs) ≡ (length xs + 7) / 8
length_bytes xs = length_within (length xs) xs (omega arith)

bytes_within_are : (n : ℕ) (xs : List ℕ) → Bits xs → Bytes (bytes_within n xs)
unfolding bytes_within
bytes_within_are zero xs h = tt
bytes_within_are (suc n) [] h = tt
bytes_within_are (suc n) (x ∷ xs) h =
    let zs = take 8 ((x ∷ xs) ++ replicate 7 0) in
    let hz : Bits zs = below_take 2 8 ((x ∷ xs) ++ replicate 7 0)
    (below_append 2 (x ∷ xs) (replicate 7 0) h (below_replicate 2 7 0 (omega arith))) in
    let l : length zs ≡ 8 = length-take-le 8 ((x ∷ xs) ++ replicate 7 0) (omega (arith, length-append (x ∷ xs) (replicate 7 0))) in
    (rw l at (value_below zs hz), bytes_within_are n (drop 7 xs) (below_drop 2 7 xs h.1))

pub bytes_are : (xs : List ℕ) → Bits xs → Bytes (bytes_of xs)
bytes_are xs h = bytes_within_are (length xs) xs h

-- bytes, taken apart and put together again
pub bytes_of_bits : (bs : List ℕ) → Bytes bs → bytes_of (bits_of_bytes bs) ≡ bs
unfolding bits_of_bytes
bytes_of_bits [] h = bytes_nil
bytes_of_bits (b ∷ bs) h =
    bytes_step (bits 8 b) (bits_of_bytes bs) (length_bits 8 b)
    ∙ ap₂ (λ (a : ℕ) (cs : List ℕ). a ∷ cs) (value_of_bits 8 b h.0) (bytes_of_bits bs h.1)

-- how many zero bits fill the last byte
abbrev pub fill : ℕ → ℕ
fill n = (8 - n % 8) % 8

-- fewer than eight, and then the bytes are whole
pub fill_below : (n : ℕ) → fill n < 8
fill_below n = omega arith

-- the first byte's bits
first_long : (n : ℕ) (xs : List ℕ) → Bits xs → 8 ≤ length xs
    → bits_of_bytes (bytes_within n (drop 8 xs)) ≡ drop 8 xs ++ replicate (fill (length (drop 8 xs))) 0
    → bits 8 (value_of 0 (take 8 (xs ++ replicate 7 0))) ++ bits_of_bytes (bytes_within n (drop 8 xs))
    ≡ xs ++ replicate (fill (length xs)) 0
first_long n xs h l e =
    let t : take 8 (xs ++ replicate 7 0) ≡ take 8 xs = take-append-le 8 xs (replicate 7 0) l in
    let lt : length (take 8 xs) ≡ 8 = length-take-le 8 xs l in
    let b : bits 8 (value_of 0 (take 8 (xs ++ replicate 7 0))) ≡ take 8 xs =
    ap (λ (ys : List ℕ). bits 8 (value_of 0 ys)) t ∙ ap (λ (k : ℕ). bits k (value_of 0 (take 8 xs))) (sym lt)
    ∙ bits_of_value 0 (take 8 xs) (below_take 2 8 xs h) in
    let f : fill (length (drop 8 xs)) ≡ fill (length xs) = omega (arith, length-drop 8 xs) in
    ap₂ (λ (us vs : List ℕ). us ++ vs) b (e ∙ ap (λ (k : ℕ). drop 8 xs ++ replicate k 0) f)
    ∙ sym (append_assoc (take 8 xs) (drop 8 xs) (replicate (fill (length xs)) 0))
    ∙ ap (λ (us : List ℕ). us ++ replicate (fill (length xs)) 0) (take-append-drop 8 xs)

take_replicate : (n m x : ℕ) → n ≤ m → take n (replicate m x) ≡ replicate n x
take_replicate zero m x h = refl
take_replicate (suc n) zero x h = absurd (omega arith)
take_replicate (suc n) (suc m) x h = ap (λ (xs : List ℕ). x ∷ xs) (take_replicate n m x (omega arith))

first_short : (n : ℕ) (xs : List ℕ) → Bits xs → 0 < length xs → length xs < 8
    → bits 8 (value_of 0 (take 8 (xs ++ replicate 7 0))) ++ bits_of_bytes (bytes_within n (drop 8 xs))
    ≡ xs ++ replicate (fill (length xs)) 0
unfolding bits_of_bytes
first_short n xs h p l =
    let m = 8 - length xs in
    let zs = xs ++ replicate m 0 in
    let e : 8 ≡ length xs + m = omega arith in
    let t : take 8 (xs ++ replicate 7 0) ≡ zs =
    ap (λ (k : ℕ). take k (xs ++ replicate 7 0)) e ∙ take-append-add xs (replicate 7 0) m
    ∙ ap (λ (ys : List ℕ). xs ++ ys) (take_replicate m 7 0 (omega arith)) in
    let lz : length zs ≡ 8 = omega (arith, length-append xs (replicate m 0), length-replicate {A = ℕ} m 0) in
    let hz : Bits zs = below_append 2 xs (replicate m 0) h (below_replicate 2 m 0 (omega arith)) in
    let b : bits 8 (value_of 0 (take 8 (xs ++ replicate 7 0))) ≡ zs =
    ap (λ (ys : List ℕ). bits 8 (value_of 0 ys)) t ∙ ap (λ (k : ℕ). bits k (value_of 0 zs)) (sym lz) ∙ bits_of_value 0 zs hz in
    let d : bytes_within n (drop 8 xs) ≡ [] =
    ap (bytes_within n) (drop_of_length-le xs {i = 8} (omega arith)) ∙ within_any n 0 [] (omega arith) (omega arith) ∙ bytes_nil in
    let f : m ≡ fill (length xs) = omega arith in
    ap₂ (λ (us vs : List ℕ). us ++ bits_of_bytes vs) b d ∙ append-nil zs ∙ ap (λ (k : ℕ). xs ++ replicate k 0) f

bits_within : (n : ℕ) (xs : List ℕ) → Bits xs → length xs ≤ n → bits_of_bytes (bytes_within n xs) ≡ xs ++ replicate (fill (length xs)) 0
unfolding bytes_within bits_of_bytes
bits_within zero [] h l = refl
bits_within zero (x ∷ xs) h l = absurd (omega arith)
bits_within (suc n) [] h l = refl
bits_within (suc n) (x ∷ xs) h l =
    go (dec_le 8 (length (x ∷ xs))) (bits_within n (drop 7 xs) (below_drop 2 7 xs h.1) (omega (arith, length-drop 7 xs)))
  where
    go : Dec (8 ≤ length (x ∷ xs))
        → bits_of_bytes (bytes_within n (drop 8 (x ∷ xs))) ≡ drop 8 (x ∷ xs) ++ replicate (fill (length (drop 8 (x ∷ xs)))) 0
        → bits_of_bytes (bytes_within (suc n) (x ∷ xs)) ≡ (x ∷ xs) ++ replicate (fill (length (x ∷ xs))) 0
    go (yes k) e = first_long n (x ∷ xs) h k e
    go (no k) e = first_short n (x ∷ xs) h (omega arith) (omega arith)

-- bits in bytes, read again: the bits, and fewer than eight zero bits
pub bits_of_bytes_lem : (xs : List ℕ) → Bits xs → bits_of_bytes (bytes_of xs) ≡ xs ++ replicate (fill (length xs)) 0
bits_of_bytes_lem xs h = bits_within (length xs) xs h (omega arith)

-- filled or not, the same bytes
pub bytes_filled : (xs : List ℕ) → Bits xs → bytes_of (xs ++ replicate (fill (length xs)) 0) ≡ bytes_of xs
bytes_filled xs h = ap bytes_of (sym (bits_of_bytes_lem xs h)) ∙ bytes_of_bits (bytes_of xs) (bytes_are xs h)

-- whole bytes, and then others
pub bytes_append : (k : ℕ) (xs ys : List ℕ) → length xs ≡ 8 * k → bytes_of (xs ++ ys) ≡ bytes_of xs ++ bytes_of ys
bytes_append zero [] ys l = ap (λ (bs : List ℕ). bs ++ bytes_of ys) (sym bytes_nil)
bytes_append zero (x ∷ xs) ys l = absurd (omega arith)
bytes_append (suc k) xs ys l =
    let us = take 8 xs in
    let vs = drop 8 xs in
    let lu : length us ≡ 8 = length-take-le 8 xs (omega arith) in
    let lv : length vs ≡ 8 * k = omega (arith, length-drop 8 xs) in
    let e : bytes_of xs ≡ value_of 0 us ∷ bytes_of vs = ap bytes_of (sym (take-append-drop 8 xs)) ∙ bytes_step us vs lu in
    ap (λ (zs : List ℕ). bytes_of (zs ++ ys)) (sym (take-append-drop 8 xs)) ∙ ap bytes_of (append_assoc us vs ys)
    ∙ bytes_step us (vs ++ ys) lu
    ∙ ap (λ (bs : List ℕ). value_of 0 us ∷ bs) (bytes_append k vs ys lv) ∙ ap (λ (bs : List ℕ). bs ++ bytes_of ys) (sym e)

-- zero bits beyond the last byte add bytes, and change none
front_by : (xs zs ws : List ℕ) (k : ℕ) → length (bytes_of xs) ≡ k → length zs ≡ 8 * k → bytes_of zs ≡ bytes_of xs
    → bytes_of xs ≡ take k (bytes_of (zs ++ ws))
front_by xs zs ws k l m e =
    sym (ap (take k) (bytes_append k zs ws m ∙ ap (λ (bs : List ℕ). bs ++ bytes_of ws) e) ∙ take_at (bytes_of xs) (bytes_of ws) k l)

pub bytes_of_front : (xs : List ℕ) (m : ℕ) → Bits xs
    → bytes_of xs ≡ take ((length xs + 7) / 8) (bytes_of ((xs ++ replicate (fill (length xs)) 0) ++ replicate m 0))
bytes_of_front xs m h =
    let n = fill (length xs) in
    front_by xs (xs ++ replicate n 0) (replicate m 0) ((length xs + 7) / 8) (length_bytes xs)
    (omega (arith, length-append xs (replicate n 0), length-replicate {A = ℕ} n 0)) (bytes_filled xs h)
