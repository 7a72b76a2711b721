-- What the pack buffer holds while a packing is under way: the operations' bits after its first 14 bytes, as long as they fit.
-- Assumes nothing.
use Rattle.std.specs.Prelude.{ℕ, ◌+◌, ◌≤◌, List, [], ◌∷◌, ◌++◌, ◌≡◌, length, take}
use Rattle.rules.specs.declared.Operation.{Operation}
use Rattle.rules.specs.Bits.{bits_of_bytes, bytes_of}
use Rattle.rules.specs.Code.{operations_bits}
use Rattle.rules.specs.Buffer.{over}
use Rattle.wire_theory.specs.Buffer.{bytes_for}

-- how many bits stand before the operations
abbrev pub header_bits : ℕ
header_bits = 112

abbrev pub Written : List Operation → List ℕ → List ℕ → Type 0
Written [] buffer₀ buffer = buffer ≡ buffer₀
Written (o ∷ os) buffer₀ buffer = buffer ≡ over (bytes_of (take header_bits (bits_of_bytes buffer₀) ++ operations_bits (o ∷ os))) buffer₀

-- the operations os are written, as far as the bit position at; if they do not fit, the buffer holds anything
pub record Writes (os : List Operation) (buffer₀ buffer : List ℕ) (at : ℕ) : Type 0 where
  pub position : at ≡ header_bits + length (operations_bits os)
  pub lengths : length buffer ≡ length buffer₀
  pub bytes : bytes_for at ≤ length buffer₀ → Written os buffer₀ buffer
