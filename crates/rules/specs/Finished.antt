-- What a finish comes to: edges, rims, unions and the Euler number, or a refusal's number; and what a result of the code stands for.
-- Assumes nothing.
use Rattle.std.specs.Prelude.{ℕ, Result, Ok, Err}
use Rattle.rules.specs.declared.Totals.{Totals}
use Rattle.rules.specs.declared.refusal.Refusal.{Refusal}
use Rattle.rules.specs.Refusal.{number_of}

pub data Finished : Type 0 where
  Gives : Totals → Finished
  Refused : ℕ → Finished

abbrev pub finished_of : Result Totals Refusal → Finished
finished_of (Ok x) = Gives x
finished_of (Err e) = Refused (number_of e)
