-- What an operation comes to: the triangle that it built, that it marked an edge as border, or a refusal's number; and what a result of
-- the code stands for.
-- Assumes nothing.
use Rattle.std.specs.Prelude.{ℕ, Result, Ok, Err, Option, Some, None}
use Rattle.rules.specs.declared.Triangle.{Triangle}
use Rattle.rules.specs.declared.Builder.{Builder}
use Rattle.rules.specs.declared.refusal.Refusal.{Refusal}
use Rattle.rules.specs.Refusal.{number_of}

pub data Operated : Type 0 where
  Built : Triangle → Operated
  Marked : Operated
  Refused : ℕ → Operated

abbrev pub operated_of : Result (Option Triangle) Refusal → Operated
operated_of (Ok (Some t)) = Built t
operated_of (Ok None) = Marked
operated_of (Err e) = Refused (number_of e)

-- an operation leaves a state besides, changed or as it was
pub record Performed : Type 0 where
  pub state : Builder
  pub answer : Operated

abbrev pub performed_of : Builder → Result (Option Triangle) Refusal → Performed
performed_of b r = record { state = b; answer = operated_of r }
