-- What a test of a list, or of a beginning, comes to: it is accepted, or refused with a number; and what a result of the code stands for.
-- Assumes nothing.
use Rattle.std.specs.Prelude.{ℕ, Result, Ok, Err}
use Rattle.rules.specs.declared.refusal.Refusal.{Refusal}
use Rattle.rules.specs.Refusal.{number_of}

pub data Checked : Type 0 where
  Accepted : Checked
  Refused : ℕ → Checked

abbrev pub checked_of : Result (Unit {0}) Refusal → Checked
checked_of (Ok x) = Accepted
checked_of (Err e) = Refused (number_of e)
