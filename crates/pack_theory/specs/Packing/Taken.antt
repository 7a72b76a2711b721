-- What a step comes to: the operation taken and where the packing is, or 9 or 10; and what a result of the code stands for.
-- Assumes nothing.
use Rattle.std.specs.Prelude.{ℕ, Result, Ok, Err}
use Rattle.rules.specs.declared.Operation.{Operation}
use Rattle.rules.specs.declared.refusal.Refusal.{Refusal}
use Rattle.rules.specs.Refusal.{number_of}
use Rattle.cutborder.specs.declared.Course.{Course}

pub data Taken : Type 0 where
  Refused : ℕ → Taken
  Going : Operation → Course → Taken

abbrev pub taken_of : Result (Operation × Course) Refusal → Taken
taken_of (Ok (o, t)) = Going o t
taken_of (Err e) = Refused (number_of e)
