-- Numbers and operations at a bit position, by the definitions of the rules.
-- Assumes nothing.
use Rattle.std.specs.Prelude.{ℕ, ◌+◌, ◌*◌, ◌≤◌, ◌<◌, List, Option, ◌≡◌, length, drop, MatchOption}
use Rattle.rules.specs.declared.Operation.{Operation}
use Rattle.rules.specs.Bits.{bits_of_bytes, broken_off, number, read_number}
use Rattle.rules.specs.Code.{breaks_off, read, read_operation}
use Rattle.wire_theory.specs.Shape.{Fits, width_of}

-- the operations of a pack have at most so many bytes; more are not read
abbrev pub most_bytes : ℕ
most_bytes = 65535

-- what a number v of n bits that was found says of the bits
pub record NumberFound (n : ℕ) (bs : List ℕ) (at v next : ℕ) : Type 0 where
  pub reads : read_number n 0 (drop at (bits_of_bytes bs)) ≡ number v (drop next (bits_of_bytes bs))
  pub width : next ≡ at + n
  pub within : next ≤ 8 * length bs
  pub short : length bs ≤ most_bytes

abbrev pub NumberEnds : ℕ → List ℕ → ℕ → Type 0
NumberEnds n bs at = length bs < 65536 → read_number n 0 (drop at (bits_of_bytes bs)) ≡ broken_off

-- r is the number of n bits at a bit position and the position after it, or none where the bytes end before
abbrev pub NumberIs : ℕ → List ℕ → ℕ → Option (ℕ × ℕ) → Type 0
NumberIs n bs at r = MatchOption r (NumberEnds n bs at) (λ x. NumberFound n bs at x.0 x.1)

-- what an operation that was found says of the bits
pub record OperationFound (bs : List ℕ) (at : ℕ) (o : Operation) (next : ℕ) : Type 0 where
  pub reads : read_operation (drop at (bits_of_bytes bs)) ≡ read o (drop next (bits_of_bytes bs))
  pub fits : Fits o
  pub width : next ≡ at + width_of o
  pub ahead : at < next
  pub within : next ≤ 8 * length bs
  pub short : length bs ≤ most_bytes

abbrev pub OperationEnds : List ℕ → ℕ → Type 0
OperationEnds bs at = length bs < 65536 → read_operation (drop at (bits_of_bytes bs)) ≡ breaks_off

-- r is the operation at a bit position and the position after it, further on and in the bytes; or none where the bytes end inside it
abbrev pub ReadIs : List ℕ → ℕ → Option (Operation × ℕ) → Type 0
ReadIs bs at r = MatchOption r (OperationEnds bs at) (λ x. OperationFound bs at x.0 x.1)
