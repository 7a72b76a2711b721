-- What a lent buffer holds after an operation's bits were written, by the definitions of the rules.
-- Assumes nothing.
use Rattle.std.specs.Prelude.{ℕ, ◌+◌, ◌*◌, ◌%◌, Bool, List, leb, length}
use Rattle.rules.specs.declared.Operation.{Operation}
use Rattle.rules.specs.declared.Operation.TheVariants.{New, Forward, Backward, Border, Split, Close, Union, Start}
use Rattle.rules.specs.Code.{operation_bits}
use Rattle.wire_theory.specs.Buffer.{written_at, bytes_for}
use Rattle.wire_theory.specs.Shape.{width_of}
use Rattle.wire.specs.Fields.{pick_buffer}

-- the bits of an operation as one number
abbrev pub value_in : Operation → ℕ
value_in New = 0
value_in Forward = 1
value_in Backward = 2
value_in Border = 3
value_in (Split i) = 4096 + i % 1024
value_in Close = 5
value_in (Union p j) = 786432 + p % 128 * 1024 + j % 1024
value_in Start = 7

-- whether a buffer of so many bytes has the last byte of an operation at a bit position
abbrev pub fits_in : ℕ → ℕ → Operation → Bool
fits_in size at o = leb (bytes_for (at + width_of o)) size

abbrev pub last_number : ℕ
last_number = 18446744073709551615

unfoldable pub buffer_after : List ℕ → ℕ → Operation → List ℕ
buffer_after buffer at o = pick_buffer (fits_in (length buffer) at o) (written_at buffer at (operation_bits o)) buffer
