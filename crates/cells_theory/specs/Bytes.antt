-- The memory of the furnace's own reader: 1,024 bytes, which stand for the numbers of a plain memory with 200 places and 12 loops
-- (border_theory/specs/Memory/Layout). The record of a place has four bytes: the low byte of its vertex, the place before, the place after,
-- and twice the rest of the vertex, plus 1 if the edge is open. Every other number has one byte.
-- Assumes nothing.
use Rattle.std.specs.Prelude.{ℕ, zero, suc, ◌+◌, ◌*◌, ◌/◌, ◌%◌, List, [], ◌∷◌, ◌≡◌, length}
use Rattle.rules.specs.Limits.{furnace_places, furnace_loops}

abbrev pub memory_bytes : ℕ
memory_bytes = 5 * furnace_places + 2 * furnace_loops

-- n records and what follows them
unfoldable pub records_then : ℕ → List ℕ → List ℕ
records_then zero bs = bs
records_then (suc n) (v ∷ (b ∷ (a ∷ (o ∷ bs)))) = (v + 256 * (o / 2)) ∷ (b ∷ (a ∷ ((o % 2) ∷ records_then n bs)))
records_then (suc n) (v ∷ (b ∷ (a ∷ []))) = v ∷ (b ∷ (a ∷ []))
records_then (suc n) (v ∷ (b ∷ [])) = v ∷ (b ∷ [])
records_then (suc n) (v ∷ []) = v ∷ []
records_then (suc n) [] = []

-- the numbers that the bytes stand for
abbrev pub numbers : List ℕ → List ℕ
numbers bs = records_then furnace_places bs

-- the memory has all its bytes
abbrev pub Whole : List ℕ → Type 0
Whole bs = length bs ≡ memory_bytes
