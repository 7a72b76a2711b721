-- What the writer leaves in the pack buffer, as a packing uses it.
-- Assumes nothing.
use Prim.Native.Nat.{ℕ, ◌+◌, ◌*◌, ◌/◌, ◌≤◌, min}
use native.Mathlib.Nat.{min-eq_left}
use native.Mathlib.Omega.{arith}
use mathlib.Core.Bool.{Bool}
use mathlib.Core.List.{List}
use mathlib.Core.Path.{◌≡◌, ap, ◌∙◌}
use lib.ListN.{length}
use borrow.Author.Tests.{le-leb}
use Rattle.rules.specs.declared.Counts.{Counts}
use Rattle.rules.specs.declared.Operation.{Operation}
use Rattle.rules.specs.Code.{operation_bits}
use Rattle.rules.specs.Buffer.{over}
use Rattle.wire_theory.specs.Header.{header_of}
use Rattle.wire_theory.specs.Buffer.{written_at, bytes_for}
use Rattle.wire_theory.specs.Shape.{width_of}
use Rattle.wire.specs.Fields.{pick_buffer, headed}
use Rattle.wire.specs.Writer.{last_number, buffer_after}

-- the position after an operation
pub written_position : (at : ℕ) (o : Operation) (n budget : ℕ) → n ≡ min (at + width_of o) last_number → budget ≤ 32769
    → at + width_of o ≤ 112 + 20 * budget → n ≡ at + width_of o
written_position at o n budget e b h = let l : at + width_of o ≤ last_number = omega (arith, b, h) in e ∙ min-eq_left l

-- what is written, if it fits
pub written_buffer : (buffer buffer' : List ℕ) (at : ℕ) (o : Operation) → buffer' ≡ buffer_after buffer at o
    → bytes_for (at + width_of o) ≤ length buffer
    → buffer' ≡ written_at buffer at (operation_bits o)
unfolding buffer_after
written_buffer buffer buffer' at o e h =
    e ∙ ap (λ (t : Bool). pick_buffer t (written_at buffer at (operation_bits o)) buffer)
    (le-leb (bytes_for (at + width_of o)) (length buffer) h)

-- the header, which fits where a pack does
pub written_header : (buffer buffer' : List ℕ) (c : Counts) (at n : ℕ) → 112 ≤ at → (at + 7) / 8 ≤ length buffer
    → buffer' ≡ headed buffer c n → buffer' ≡ over (header_of c n) buffer
unfolding headed
written_header buffer buffer' c at n a l e =
    e ∙ ap (λ (t : Bool). pick_buffer t (over (header_of c n) buffer) buffer) (le-leb 14 (length buffer) (omega (arith, a, l)))
