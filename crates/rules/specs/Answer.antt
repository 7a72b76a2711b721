-- What a call answers, in the words of the rules; and for each enum of the code the answer that it stands for.
-- Assumes nothing.
use Rattle.std.specs.Prelude.{ℕ}
use Rattle.rules.specs.declared.Triangle.{Triangle}
use Rattle.rules.specs.declared.Totals.{Totals}
use Rattle.rules.specs.declared.Model.{Model}
use Rattle.rules.specs.Checked.{Checked}
use Rattle.rules.specs.Checked.{Accepted, Refused}
use Rattle.rules.specs.Packed.{Packed}
use Rattle.rules.specs.Packed as P
use Rattle.rules.specs.Unpacked.{Unpacked}
use Rattle.rules.specs.Unpacked as U
use Rattle.rules.specs.Begun.{Begun}
use Rattle.rules.specs.Operated.{Operated}
use Rattle.rules.specs.Operated as O
use Rattle.rules.specs.Finished.{Finished}
use Rattle.rules.specs.Finished as F

pub data Answer : Type 0 where
  -- a refusal, by its number
  refusal : ℕ → Answer
  -- of a list that is checked, of a beginning
  accepted : Answer
  -- of an operation: the triangle it built, or none
  triangle : Triangle → Answer
  no_triangle : Answer
  -- of a finish
  numbers : Totals → Answer
  -- of a packing: the pack's length
  packed : ℕ → Answer
  -- of an unpacking
  unpacked : Model → Answer

abbrev pub checked_answer : Checked → Answer
checked_answer Accepted = accepted
checked_answer (Refused n) = refusal n

abbrev pub begun_answer : Begun → Answer
begun_answer x = checked_answer x.answer

abbrev pub operated_answer : Operated → Answer
operated_answer (O.Built t) = triangle t
operated_answer O.Marked = no_triangle
operated_answer (O.Refused n) = refusal n

abbrev pub finished_answer : Finished → Answer
finished_answer (F.Gives x) = numbers x
finished_answer (F.Refused n) = refusal n

abbrev pub packed_answer : Packed → Answer
packed_answer (P.Length n) = packed n
packed_answer (P.Refused n) = refusal n

abbrev pub unpacked_answer : Unpacked → Answer
unpacked_answer (U.Gives m) = unpacked m
unpacked_answer (U.Refused n) = refusal n
