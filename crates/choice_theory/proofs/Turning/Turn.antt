-- Turning about a vertex: links, and jumps over the border.
-- Assumes nothing.
use Prim.Native.Nat.{ℕ}
use mathlib.Core.List.{List}
use Rattle.rules.specs.declared.Triangle.{Triangle}
use Rattle.rules.specs.Triangle.{In}
use Rattle.choice_theory.specs.Spots.{Unused}

-- turning about c (`Links` of the rules) with jumps from border to border: u→c has no other side in M, nor has c→w
pub data Turn (M : List Triangle) (c : ℕ) (ts : List Triangle) : ℕ → ℕ → Type 0 where
  rest : {x : ℕ} → Turn M c ts x x
  turn : {x z y : ℕ} → In c x z ts → Turn M c ts z y → Turn M c ts x y
  jump : {u w y : ℕ} → Unused c u M → Unused w c M → Turn M c ts w y → Turn M c ts u y
