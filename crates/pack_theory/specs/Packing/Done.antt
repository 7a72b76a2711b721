-- What an operation on the loops comes to: the counts and the loops after it, or 9 or 10; and what a result of the code stands for.
-- Assumes nothing.
use Rattle.std.specs.Prelude.{ℕ, Result, Ok, Err}
use Rattle.rules.specs.declared.refusal.Refusal.{Refusal}
use Rattle.rules.specs.Refusal.{number_of}
use Rattle.cutborder.specs.declared.Front.{Front}

pub data Done : Type 0 where
  Going : Front → Done
  Refused : ℕ → Done

abbrev pub done_from : Result Front Refusal → Done
done_from (Ok f) = Going f
done_from (Err e) = Refused (number_of e)
