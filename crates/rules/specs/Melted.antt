-- What the furnace's own reader comes to: six times the volume, or a refusal's number; and what a result of the code stands for.
-- Assumes nothing.
use Rattle.std.specs.Prelude.{ℕ, ℤ, Result, Ok, Err}
use Rattle.rules.specs.declared.refusal.Refusal.{Refusal}
use Rattle.rules.specs.Refusal.{number_of}

pub data Melted : Type 0 where
  Six : ℤ → Melted
  Refused : ℕ → Melted

abbrev pub melted_of : Result ℤ Refusal → Melted
melted_of (Ok z) = Six z
melted_of (Err e) = Refused (number_of e)
