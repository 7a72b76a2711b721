-- Numbers as bits, the high one first, and bits as bytes.
-- Assumes nothing.
use Rattle.std.specs.Prelude.{ℕ, zero, suc, ◌+◌, ◌*◌, ◌/◌, ◌%◌, ◌^◌, Bool, true, ◌&&◌, List, [], ◌∷◌, ◌++◌, length, take, drop, replicate}
use Rattle.std.specs.Prelude.{eqb}

-- the lowest n bits of a number
unfoldable pub bits : ℕ → ℕ → List ℕ
bits zero v = []
bits (suc n) v = v / 2 ^ n % 2 ∷ bits n v

-- the number that a run of bits is, after the number a
unfoldable pub value_of : ℕ → List ℕ → ℕ
value_of a [] = a
value_of a (x ∷ xs) = value_of (2 * a + x) xs

-- the bits of a list of bytes
unfoldable pub bits_of_bytes : List ℕ → List ℕ
bits_of_bytes [] = []
bits_of_bytes (b ∷ bs) = bits 8 b ++ bits_of_bytes bs

-- bits in bytes, the last one filled with zero bits; n is at least the number of bytes
unfoldable pub bytes_within : ℕ → List ℕ → List ℕ
bytes_within zero xs = []
bytes_within (suc n) [] = []
bytes_within (suc n) (x ∷ xs) = value_of 0 (take 8 ((x ∷ xs) ++ replicate 7 0)) ∷ bytes_within n (drop 8 (x ∷ xs))

abbrev pub bytes_of : List ℕ → List ℕ
bytes_of xs = bytes_within (length xs) xs

-- a number of n bits at the front of some bits, and the bits after it; or they break off
pub data Number : Type 0 where
  broken_off : Number
  number : ℕ → List ℕ → Number

unfoldable pub read_number : ℕ → ℕ → List ℕ → Number
read_number zero a xs = number a xs
read_number (suc n) a [] = broken_off
read_number (suc n) a (x ∷ xs) = read_number n (2 * a + x) xs

unfoldable pub all_zero : List ℕ → Bool
all_zero [] = true
all_zero (x ∷ xs) = eqb x 0 && all_zero xs
