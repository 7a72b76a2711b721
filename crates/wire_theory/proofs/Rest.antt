-- What is left after the last operation: fewer than eight bits, all zero.
-- Assumes nothing.
use Prim.Native.Nat.{ℕ, zero, suc, ◌+◌, ◌*◌, ◌-◌, ◌/◌, ◌%◌, ◌^◌, ◌≤◌, ◌<◌}
use native.Mathlib.Nat.{mod-one, zero-mul, one-mul}
use native.Mathlib.Numerals.{one-add}
use native.Mathlib.Omega.{arith}
use mathlib.Core.Bool.{Bool, true, false, ◌&&◌}
use mathlib.Core.List.{List, [], ◌∷◌, append-nil}
use mathlib.Core.Path.{◌≡◌, refl, sym, ap, ap₂, ◌∙◌}
use lib.Dec.{eqb, ltb}
use lib.ListN.{length, drop, get_or, replicate, length-drop, length-replicate, drop_of_length-le}
use lib.Pow.{pow_pos, mod-pow-add}
use lib.Seq.{drop-cons}
use borrow.Author.Tests.{eq-eqb, ne_eqb, lt-ltb, le-ltb}
use Rattle.rules.specs.Bits.{bits, bits_of_bytes, all_zero}
use Rattle.rules.specs.Unpack.{rest_fits}
use Rattle.wire_theory.proofs.Numbers.{length_bits}
use Rattle.wire_theory.proofs.Bytes.{length_bits_of_bytes, drop_bits, fill}

-- a digit and the digits after it are zero if their number is
zero_digits : (d m p : ℕ) → d < 2 → 0 < p → (eqb d 0 && eqb m 0) ≡ eqb (d * p + m) 0
zero_digits zero m p h k = let e : 0 * p + m ≡ m = omega (arith, zero-mul p) in ap (λ (x : ℕ). eqb x 0) (sym e)
zero_digits (suc zero) m p h k = sym (ne_eqb (1 * p + m) 0 (λ e. omega (arith, one-mul p)))
zero_digits (suc (suc d)) m p h k = absurd (omega arith)

pub all_zero_bits : (n v : ℕ) → all_zero (bits n v) ≡ eqb (v % 2 ^ n) 0
unfolding all_zero bits
all_zero_bits zero v = sym (eq-eqb (v % 1) 0 (mod-one v))
all_zero_bits (suc n) v =
    let d = v / 2 ^ n % 2 in
    let g : d * 2 ^ n + v % 2 ^ n ≡ v % 2 ^ suc n = sym (rw one-add at (mod-pow-add v 1 n)) in
    ap (λ (t : Bool). eqb d 0 && t) (all_zero_bits n v) ∙ zero_digits d (v % 2 ^ n) (2 ^ n) (omega arith) (pow_pos n)
    ∙ ap (λ (x : ℕ). eqb x 0) g

-- the last bits of a byte
last_bits : (r b : ℕ) → r ≤ 8 → drop r (bits 8 b) ≡ bits (8 - r) b
unfolding bits
last_bits zero b h = refl
last_bits (suc zero) b h = refl
last_bits (suc (suc zero)) b h = refl
last_bits (suc (suc (suc zero))) b h = refl
last_bits (suc (suc (suc (suc zero)))) b h = refl
last_bits (suc (suc (suc (suc (suc zero))))) b h = refl
last_bits (suc (suc (suc (suc (suc (suc zero)))))) b h = refl
last_bits (suc (suc (suc (suc (suc (suc (suc zero))))))) b h = refl
last_bits (suc (suc (suc (suc (suc (suc (suc (suc zero)))))))) b h = refl
last_bits (suc (suc (suc (suc (suc (suc (suc (suc (suc r))))))))) b h = absurd (omega arith)

module _ (bs : List ℕ) (at : ℕ) where
  left : length (drop at (bits_of_bytes bs)) ≡ 8 * length bs - at
  left = length-drop at (bits_of_bytes bs) ∙ ap (λ (k : ℕ). k - at) (length_bits_of_bytes bs)

  -- nothing is left
  pub rest_none : length bs ≤ at / 8 → true ≡ rest_fits (drop at (bits_of_bytes bs))
  unfolding all_zero
  rest_none h = sym (ap rest_fits (drop_of_length-le (bits_of_bytes bs) {i = at} (omega (arith, length_bits_of_bytes bs))))

  -- a whole byte is left
  pub rest_whole : at + 8 ≤ 8 * length bs → false ≡ rest_fits (drop at (bits_of_bytes bs))
  rest_whole h =
      let f : ltb (length (drop at (bits_of_bytes bs))) 8 ≡ false = le-ltb (length (drop at (bits_of_bytes bs))) 8 (omega (arith, left)) in
      sym (ap (λ (t : Bool). t && all_zero (drop at (bits_of_bytes bs))) f)

  -- a part of the last byte is left
  pub rest_part : length bs ≡ at / 8 + 1 → 0 < at % 8
      → eqb (get_or bs (at / 8) 0 % 2 ^ (8 - at % 8)) 0 ≡ rest_fits (drop at (bits_of_bytes bs))
  unfolding bits_of_bytes
  rest_part h p =
      let k = at / 8 in
      let r = at % 8 in
      let b = get_or bs k 0 in
      let c : drop k bs ≡ b ∷ [] =
      drop-cons bs k 0 (omega arith) ∙ ap (λ (us : List ℕ). b ∷ us) (drop_of_length-le bs {i = suc k} (omega arith)) in
      let d : drop at (bits_of_bytes bs) ≡ bits (8 - r) b =
      drop_bits at bs ∙ ap (λ (us : List ℕ). drop r (bits_of_bytes us)) c ∙ ap (drop r) (append-nil (bits 8 b))
      ∙ last_bits r b (omega arith) in
      let l : ltb (length (bits (8 - r) b)) 8 ≡ true = lt-ltb (length (bits (8 - r) b)) 8 (omega (arith, length_bits (8 - r) b)) in
      sym (ap rest_fits d ∙ ap (λ (t : Bool). t && all_zero (bits (8 - r) b)) l ∙ all_zero_bits (8 - r) b)

zeros : (n : ℕ) → all_zero (replicate n 0) ≡ true
unfolding all_zero
zeros zero = refl
zeros (suc n) = zeros n

-- the zero bits that fill a last byte pass
pub fill_fits : (n : ℕ) → rest_fits (replicate (fill n) 0) ≡ true
fill_fits n =
    let l : ltb (length (replicate {A = ℕ} (fill n) 0)) 8 ≡ true =
    lt-ltb (length (replicate {A = ℕ} (fill n) 0)) 8 (omega (arith, length-replicate {A = ℕ} (fill n) 0)) in
    ap₂ (λ (s t : Bool). s && t) l (zeros (fill n))
