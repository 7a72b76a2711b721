-- The positions that numbers stand for.
-- Assumes nothing.
use Rattle.std.specs.Prelude.{ℕ, ◌≤◌, ◌<◌, List, ◌≡◌, ℤ, pos, length, get_or}
use Rattle.rules.specs.Grid.{signed_of}

-- The first n of zs are the positions that the first n of xs stand for.
pub record StandFor (xs : List ℕ) (n : ℕ) (zs : List ℤ) : Type 0 where
  pub told : n ≤ length xs
  pub room : n ≤ length zs
  pub each : (i : ℕ) → i < n → get_or zs i (pos 0) ≡ signed_of (get_or xs i 0)

-- No more of xs fit zs than the first n.
abbrev pub AsManyAsFit : List ℕ → ℕ → List ℤ → Type 0
AsManyAsFit xs n zs = n < length xs → length zs ≤ n
