-- What the bench reader comes to: as unpacking, and from which byte of the pack on the note stands and how many bytes it has, twice 0
-- where there is none; and what a result of the code stands for.
-- Assumes nothing.
use Rattle.std.specs.Prelude.{ℕ, Result, Ok, Err, Option, Some, None}
use Rattle.rules.specs.declared.Span.{Span}
use Rattle.rules.specs.declared.Located.{Located}
use Rattle.rules.specs.declared.refusal.Refusal.{Refusal}
use Rattle.rules.specs.Refusal.{number_of}
use Rattle.rules.specs.Unpacked.{Unpacked, Gives, Refused}

pub record Benched : Type 0 where
  pub answer : Unpacked
  pub start : ℕ
  pub length : ℕ

abbrev pub start_of : Option Span → ℕ
start_of (Some s) = s.start
start_of None = 0

abbrev pub length_of : Option Span → ℕ
length_of (Some s) = s.length
length_of None = 0

abbrev pub benched_of : Result Located Refusal → Benched
benched_of (Ok x) = record { answer = Gives x.model; start = start_of x.note; length = length_of x.note }
benched_of (Err e) = record { answer = Refused (number_of e); start = 0; length = 0 }
