-- What a step of a run comes to, and a run: the state after it and the bit position after its operation, or the refusal's number, 15 to
-- 18; and what a result of the code stands for.
-- Assumes nothing.
use Rattle.std.specs.Prelude.{ℕ, Result, Ok, Err}
use Rattle.rules.specs.declared.refusal.Refusal.{Refusal}
use Rattle.rules.specs.Refusal.{number_of}
use Rattle.cutborder.specs.declared.Front.{Front}

pub data Stepped : Type 0 where
  Going : Front → ℕ → Stepped
  Refused : ℕ → Stepped

abbrev pub stepped_of : Result (Front × ℕ) Refusal → Stepped
stepped_of (Ok x) = Going x.0 x.1
stepped_of (Err e) = Refused (number_of e)

-- of a step whose operation ends at a bit position
abbrev pub stepped_to : ℕ → Result Front Refusal → Stepped
stepped_to at (Ok s) = Going s at
stepped_to at (Err e) = Refused (number_of e)
