-- What holds at each place of a ring: of the vertex before it, its own, the one after it.
-- Assumes nothing.
use Prim.Native.Nat.{ℕ}
use mathlib.Core.Bool.{false}
use mathlib.Core.List.{List, [], ◌∷◌}
use mathlib.Core.Path.{◌≡◌}
use Rattle.rules.specs.declared.Triangle.{Triangle}
use Rattle.rules.specs.Ring.{Node, Ring, vertex, is_open, start_or}
use Rattle.choice_theory.specs.Spots.{Unused}
use Rattle.choice_theory.proofs.Turning.Turn.{Turn}

-- the vertex of the last place, or else x
abbrev pub end_or : ℕ → List Node → ℕ
end_or x [] = x
end_or x (p ∷ ps) = end_or (vertex p) ps

-- Q at each place of ps, which stands between x and y
abbrev pub Along : (ℕ → ℕ → ℕ → Type 0) → ℕ → List Node → ℕ → Type 0
Along Q x [] y = Unit {0}
Along Q x (p ∷ ps) y = Q x (vertex p) (start_or y ps) × Along Q (vertex p) ps y

abbrev pub Around : (ℕ → ℕ → ℕ → Type 0) → List Node → Type 0
Around Q [] = Unit {0}
Around Q (p ∷ ps) = Along Q (end_or (vertex p) ps) (p ∷ ps) (vertex p)

abbrev pub Everywhere : (ℕ → ℕ → ℕ → Type 0) → List Ring → Type 0
Everywhere Q [] = Unit {0}
Everywhere Q (l ∷ ls) = Around Q l × Everywhere Q ls

-- a marked edge has no other side in M
abbrev pub Marks : List Triangle → List Node → ℕ → Type 0
Marks M [] y = Unit {0}
Marks M (p ∷ ps) y = (is_open p ≡ false → Unused (start_or y ps) (vertex p) M) × Marks M ps y

abbrev pub RingMarks : List Triangle → List Node → Type 0
RingMarks M [] = Unit {0}
RingMarks M (p ∷ ps) = Marks M (p ∷ ps) (vertex p)

abbrev pub AllMarks : List Triangle → List Ring → Type 0
AllMarks M [] = Unit {0}
AllMarks M (l ∷ ls) = RingMarks M l × AllMarks M ls

-- the gap at a place of v, entered from x and left to y, is filled by triangles of ts, up to the border
abbrev pub Filled : List Triangle → List Triangle → ℕ → ℕ → ℕ → Type 0
Filled M ts x v y = Turn M v ts x y
