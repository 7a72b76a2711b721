-- Numbers as bits: written, read, and the two together.
-- Assumes nothing.
use Prim.Native.Nat.{ℕ, zero, suc, ◌+◌, ◌*◌, ◌/◌, ◌%◌, ◌^◌, ◌≤◌, ◌<◌}
use native.Mathlib.Nat.{pow-suc, mod-eq_of_lt, mul_comm, mul_assoc, add-mul, zero-mul, zero-add}
use native.Mathlib.Numerals.{one-add}
use native.Mathlib.Omega.{arith}
use mathlib.Core.List.{List, [], ◌∷◌, ◌++◌}
use mathlib.Core.Path.{◌≡◌, refl, sym, ap, ap₂, ◌∙◌}
use lib.ListN.{length, take, drop, take-append-drop, length-drop}
use lib.Pow.{mod-pow-add, high, low}
use lib.Seq.{length-take-le}
use lib.Arith.{digits_lt}
use native.Mathlib.Decide.{dec_le}
use Rattle.rules.specs.Bits.{bits, value_of, broken_off, number, read_number}
use Rattle.wire_theory.proofs.Lists.{Bits, below_take, below_drop}

pub length_bits : (n v : ℕ) → length (bits n v) ≡ n
unfolding bits
length_bits zero v = refl
length_bits (suc n) v = ap suc (length_bits n v)

pub bits_are : (n v : ℕ) → Bits (bits n v)
unfolding bits
bits_are zero v = tt
bits_are (suc n) v = (omega arith, bits_are n v)

pub value_append : (a : ℕ) (xs ys : List ℕ) → value_of a (xs ++ ys) ≡ value_of (value_of a xs) ys
unfolding value_of
value_append a [] ys = refl
value_append a (x ∷ xs) ys = value_append (2 * a + x) xs ys

pub twice : (a n : ℕ) → a * 2 ^ suc n ≡ 2 * a * 2 ^ n
twice a n =
    ap (λ (k : ℕ). a * k) (pow-suc 2 n ∙ mul_comm (2 ^ n) 2) ∙ sym (mul_assoc a 2 (2 ^ n)) ∙ ap (λ (k : ℕ). k * 2 ^ n) (mul_comm a 2)

mod_eq_of_lt_after : (z v m : ℕ) → z ≡ 0 → v < m → z + v % m ≡ v
mod_eq_of_lt_after z v m e h = omega (arith, mod-eq_of_lt h)

odd : (a x : ℕ) {w : ℕ} → x < 2 → w ≡ 2 * a + x → w % 2 ≡ x
odd a x h e = omega arith

-- the digits of a, then those of xs
pub value_from : (a : ℕ) (xs : List ℕ) → value_of a xs ≡ a * 2 ^ length xs + value_of 0 xs
unfolding value_of
value_from a [] = omega arith
value_from a (x ∷ xs) =
    let n = length xs in
    let e : value_of (2 * a + x) xs ≡ (2 * a + x) * 2 ^ n + value_of 0 xs = value_from (2 * a + x) xs in
    let f : value_of (2 * 0 + x) xs ≡ (2 * 0 + x) * 2 ^ n + value_of 0 xs = value_from (2 * 0 + x) xs in
    let g : (2 * a + x) * 2 ^ n ≡ 2 * a * 2 ^ n + x * 2 ^ n = add-mul (2 * a) x (2 ^ n) in
    let h : (2 * 0 + x) * 2 ^ n ≡ x * 2 ^ n = ap (λ (k : ℕ). k * 2 ^ n) (zero-add x) in
    let i : a * 2 ^ suc n ≡ 2 * a * 2 ^ n = twice a n in
    omega (arith, e, f, g, h, i)

-- one more digit in front
value_cons : (x : ℕ) (xs : List ℕ) → value_of 0 (x ∷ xs) ≡ x * 2 ^ length xs + value_of 0 xs
unfolding value_of
value_cons x xs = value_from (2 * 0 + x) xs ∙ ap (λ (k : ℕ). k * 2 ^ length xs + value_of 0 xs) (zero-add x)

pub value_below : (xs : List ℕ) → Bits xs → value_of 0 xs < 2 ^ length xs
unfolding value_of
value_below [] h = omega arith
value_below (x ∷ xs) h =
    let n = length xs in
    let f : value_of 0 (x ∷ xs) ≡ x * 2 ^ n + value_of 0 xs = value_cons x xs in
    let p : 2 ^ suc n ≡ 2 ^ n * 2 = pow-suc 2 n in
    let d : x * 2 ^ n + value_of 0 xs < 2 * 2 ^ n = digits_lt h.0 (value_below xs h.1) in
    omega (arith, f, p, d)

-- the lowest n bits of v, after the number a
pub value_bits : (a n v : ℕ) → value_of a (bits n v) ≡ a * 2 ^ n + v % 2 ^ n
unfolding bits value_of
value_bits a zero v = omega arith
value_bits a (suc n) v =
    let d = v / 2 ^ n % 2 in
    let e : value_of (2 * a + d) (bits n v) ≡ (2 * a + d) * 2 ^ n + v % 2 ^ n = value_bits (2 * a + d) n v in
    let f : (2 * a + d) * 2 ^ n ≡ 2 * a * 2 ^ n + d * 2 ^ n = add-mul (2 * a) d (2 ^ n) in
    let g : v % 2 ^ suc n ≡ d * 2 ^ n + v % 2 ^ n = rw one-add at (mod-pow-add v 1 n) in
    let h : a * 2 ^ suc n ≡ 2 * a * 2 ^ n = twice a n in
    omega (arith, e, f, g, h)

pub value_of_bits : (n v : ℕ) → v < 2 ^ n → value_of 0 (bits n v) ≡ v
value_of_bits n v h = value_bits 0 n v ∙ mod_eq_of_lt_after (0 * 2 ^ n) v (2 ^ n) (zero-mul (2 ^ n)) h

-- the bits of the number that bits are, whatever stood before them
pub bits_of_value : (a : ℕ) (xs : List ℕ) → Bits xs → bits (length xs) (value_of a xs) ≡ xs
unfolding bits value_of
bits_of_value a [] h = refl
bits_of_value a (x ∷ xs) h =
    let n = length xs in
    let w = value_of (2 * a + x) xs in
    let e : w ≡ (2 * a + x) * 2 ^ n + value_of 0 xs = value_from (2 * a + x) xs in
    let d : w / 2 ^ n ≡ 2 * a + x = ap (λ (k : ℕ). k / 2 ^ n) e ∙ high (2 * a + x) n (value_below xs h.1) in
    let b : w / 2 ^ n % 2 ≡ x = odd a x h.0 d in
    ap₂ (λ (y : ℕ) (ys : List ℕ). y ∷ ys) b (bits_of_value (2 * a + x) xs h.1)

-- a part of some bits is a part of their number: n bits after the first r, with q after them
pub value_part : (xs : List ℕ) (r n q : ℕ) → Bits xs → length xs ≡ r + n + q
    → value_of 0 (take n (drop r xs)) ≡ value_of 0 xs / 2 ^ q % 2 ^ n
value_part xs r n q h l =
    let ps = take r xs in
    let ms = take n (drop r xs) in
    let qs = drop n (drop r xs) in
    let lr : length (drop r xs) ≡ n + q = length-drop r xs ∙ omega arith in
    let lm : length ms ≡ n = length-take-le n (drop r xs) (omega arith) in
    let lq : length qs ≡ q = length-drop n (drop r xs) ∙ omega arith in
    let hm : Bits ms = below_take 2 n (drop r xs) (below_drop 2 r xs h) in
    let hq : Bits qs = below_drop 2 n (drop r xs) (below_drop 2 r xs h) in
    let p = value_of 0 ps in
    let e : value_of 0 xs ≡ value_of (value_of p ms) qs =
    ap (value_of 0) (sym (take-append-drop r xs)) ∙ value_append 0 ps (drop r xs) ∙ ap (value_of p) (sym (take-append-drop n (drop r xs)))
    ∙ value_append p ms qs in
    let f : value_of 0 xs ≡ value_of p ms * 2 ^ q + value_of 0 qs =
    e ∙ value_from (value_of p ms) qs ∙ ap (λ (k : ℕ). value_of p ms * 2 ^ k + value_of 0 qs) lq in
    let g : value_of 0 xs / 2 ^ q ≡ value_of p ms = ap (λ (k : ℕ). k / 2 ^ q) f ∙ high (value_of p ms) q (rw lq at (value_below qs hq)) in
    let j : value_of p ms ≡ p * 2 ^ n + value_of 0 ms = value_from p ms ∙ ap (λ (k : ℕ). p * 2 ^ k + value_of 0 ms) lm in
    let k : value_of p ms % 2 ^ n ≡ value_of 0 ms = ap (λ (k : ℕ). k % 2 ^ n) j ∙ low p n (rw lm at (value_below ms hm)) in
    sym (ap (λ (k : ℕ). k % 2 ^ n) g ∙ k)

-- what is read is the number that the first n bits are
pub read_front : (n a : ℕ) (xs ys : List ℕ) → length xs ≡ n → read_number n a (xs ++ ys) ≡ number (value_of a xs) ys
unfolding read_number value_of
read_front zero a [] ys l = refl
read_front zero a (x ∷ xs) ys l = absurd (omega arith)
read_front (suc n) a [] ys l = absurd (omega arith)
read_front (suc n) a (x ∷ xs) ys l = read_front n (2 * a + x) xs ys (omega arith)

pub read_enough : (n a : ℕ) (xs : List ℕ) → n ≤ length xs → read_number n a xs ≡ number (value_of a (take n xs)) (drop n xs)
read_enough n a xs h = ap (read_number n a) (sym (take-append-drop n xs)) ∙ read_front n a (take n xs) (drop n xs) (length-take-le n xs h)

pub read_short : (n a : ℕ) (xs : List ℕ) → length xs < n → read_number n a xs ≡ broken_off
unfolding read_number
read_short zero a xs h = absurd (omega arith)
read_short (suc n) a [] h = refl
read_short (suc n) a (x ∷ xs) h = read_short n (2 * a + x) xs (omega arith)

-- reading n bits back gives the number
pub read_bits : (n v : ℕ) (xs : List ℕ) → v < 2 ^ n → read_number n 0 (bits n v ++ xs) ≡ number v xs
read_bits n v xs h = read_front n 0 (bits n v) xs (length_bits n v) ∙ ap (λ (k : ℕ). number k xs) (value_of_bits n v h)

-- a number that was read, and what it was read from
pub record NumberRead (n v : ℕ) (xs ys : List ℕ) : Type 0 where
  pub from : xs ≡ bits n v ++ ys
  pub small : v < 2 ^ n
  pub long : length xs ≡ n + length ys

read_by : (n v : ℕ) (xs ys : List ℕ) → Bits xs → n ≤ length xs → v ≡ value_of 0 (take n xs) → ys ≡ drop n xs → NumberRead n v xs ys
read_by n v xs ys h l e f =
    let lt : length (take n xs) ≡ n = length-take-le n xs l in
    let ht : Bits (take n xs) = below_take 2 n xs h in
    let b : bits n v ≡ take n xs =
    ap (bits n) e ∙ ap (λ (k : ℕ). bits k (value_of 0 (take n xs))) (sym lt) ∙ bits_of_value 0 (take n xs) ht in
    record {
      from = sym (ap₂ (λ (us vs : List ℕ). us ++ vs) b f ∙ take-append-drop n xs);
      small = rw e (rw lt at (value_below (take n xs) ht));
      long = omega (arith, ap length f, length-drop n xs);
    }

pub read_inverse : (n v : ℕ) (xs ys : List ℕ) → Bits xs → read_number n 0 xs ≡ number v ys → NumberRead n v xs ys
read_inverse n v xs ys h e = go (dec_le n (length xs))
  where
    go : Dec (n ≤ length xs) → NumberRead n v xs ys
    go (yes l) =
        let f : number (value_of 0 (take n xs)) (drop n xs) ≡ number v ys = sym (read_enough n 0 xs l) ∙ e in
        read_by n v xs ys h l (cc) (cc)
    go (no l) =
        let f : broken_off ≡ number v ys = sym (read_short n 0 xs (omega arith)) ∙ e in
        let z : ◌≡◌ {A = ℕ} 0 1 = cc in
        absurd (omega arith)
