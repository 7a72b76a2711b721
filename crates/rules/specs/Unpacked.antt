-- What an unpacking comes to: the model's counts, or a refusal's number; and what a result of the code stands for.
-- Assumes nothing.
use Rattle.std.specs.Prelude.{ℕ, Result, Ok, Err}
use Rattle.rules.specs.declared.Model.{Model}
use Rattle.rules.specs.declared.refusal.Refusal.{Refusal}
use Rattle.rules.specs.Refusal.{number_of}

pub data Unpacked : Type 0 where
  Gives : Model → Unpacked
  Refused : ℕ → Unpacked

abbrev pub unpacked_of : Result Model Refusal → Unpacked
unpacked_of (Ok m) = Gives m
unpacked_of (Err e) = Refused (number_of e)
