-- Bits written into a lent buffer, from any bit position on.
-- Assumes nothing.
use Rattle.std.specs.Prelude.{ℕ, ◌+◌, ◌*◌, ◌-◌, ◌/◌, ◌%◌, ◌^◌, List, [], ◌∷◌, ◌++◌, take}
use Rattle.rules.specs.Bits.{bits_of_bytes, bytes_of}
use Rattle.rules.specs.Buffer.{over}

-- the bits xs from the bit position at on: the bits before them stay, the rest of their last byte is zero, and nothing beyond it changes
unfoldable pub written_at : List ℕ → ℕ → List ℕ → List ℕ
written_at buffer at xs = over (bytes_of (take at (bits_of_bytes buffer) ++ xs)) buffer

-- how many bytes so many bits need
abbrev pub bytes_for : ℕ → ℕ
bytes_for n = (n + 7) / 8

-- a number in four bytes, the high one first
abbrev pub four_bytes : ℕ → List ℕ
four_bytes w = w / 2 ^ 24 % 256 ∷ (w / 2 ^ 16 % 256 ∷ (w / 2 ^ 8 % 256 ∷ (w / 2 ^ 0 % 256 ∷ [])))

-- the first r bits of the byte b, then the number v of n bits, at the front of four bytes
abbrev pub word_of : ℕ → ℕ → ℕ → ℕ → ℕ
word_of b r n v = (b / 2 ^ (8 - r) * 2 ^ n + v) * 2 ^ (32 - r - n)
