-- What all steps come to: where the packing ended, and the bit position after the last operation, or 9 or 10; and what a result of the
-- code stands for.
-- Assumes nothing.
use Rattle.std.specs.Prelude.{ℕ, Result, Ok, Err}
use Rattle.rules.specs.declared.refusal.Refusal.{Refusal}
use Rattle.rules.specs.Refusal.{number_of}
use Rattle.cutborder.specs.declared.Course.{Course}

pub data Ran : Type 0 where
  Refused : ℕ → Ran
  Ended : Course → ℕ → Ran

abbrev pub ran_of : Result (Course × ℕ) Refusal → Ran
ran_of (Ok (t, at)) = Ended t at
ran_of (Err e) = Refused (number_of e)
