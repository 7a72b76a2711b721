-- What the volume call comes to: the model's counts and six times its volume, or a refusal's number; and what a result of the code
-- stands for.
-- Assumes nothing.
use Rattle.std.specs.Prelude.{ℕ, ℤ, Result, Ok, Err}
use Rattle.rules.specs.declared.Model.{Model}
use Rattle.rules.specs.declared.refusal.Refusal.{Refusal}
use Rattle.rules.specs.Refusal.{number_of}

pub data Measured : Type 0 where
  Volume : Model → ℤ → Measured
  Refused : ℕ → Measured

abbrev pub measured_of : Result (Model × ℤ) Refusal → Measured
measured_of (Ok x) = Volume x.0 x.1
measured_of (Err e) = Refused (number_of e)
