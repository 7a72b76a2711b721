-- What a packing comes to: the pack's length, or a refusal's number; and what a result of the code stands for.
-- Assumes nothing.
use Rattle.std.specs.Prelude.{ℕ, Result, Ok, Err}
use Rattle.rules.specs.declared.refusal.Refusal.{Refusal}
use Rattle.rules.specs.Refusal.{number_of}

pub data Packed : Type 0 where
  Length : ℕ → Packed
  Refused : ℕ → Packed

abbrev pub packed_of : Result ℕ Refusal → Packed
packed_of (Ok n) = Length n
packed_of (Err e) = Refused (number_of e)
