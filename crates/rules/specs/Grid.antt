-- Grid positions: three signed numbers for each vertex, each from -2,048 to 2,047. A pack holds each in two bytes, the high one first; a
-- negative number n is there 65,536 + n.
-- Assumes nothing.
use Rattle.std.specs.Prelude.{ℕ, ◌+◌, ◌-◌, ◌*◌, Bool, true, false, ◌&&◌, List, [], ◌∷◌, ◌++◌, ℤ, pos, negsuc, ltb}
use Rattle.rules.specs.Fields.{word}

-- how many steps of the grid there are on each side of 0, which counts as one of those above
abbrev pub grid_steps : ℕ
grid_steps = 2048

-- a position is in range; `negsuc n` is -(n + 1)
abbrev pub in_grid : ℤ → Bool
in_grid (pos n) = ltb n grid_steps
in_grid (negsuc n) = ltb n grid_steps

unfoldable pub all_in_grid : List ℤ → Bool
all_in_grid [] = true
all_in_grid (z ∷ zs) = in_grid z && all_in_grid zs

-- a signed number as one of 16 bits, and back
abbrev pub unsigned_of : ℤ → ℕ
unsigned_of (pos n) = n
unsigned_of (negsuc n) = 65535 - n

unfoldable pub signed_of : ℕ → ℤ
signed_of n = elim (ltb n 32768) [ true ↦ pos n | false ↦ negsuc (65535 - n) ]

-- positions as bytes, and back
unfoldable pub position_bytes : List ℤ → List ℕ
position_bytes [] = []
position_bytes (z ∷ zs) = word (unsigned_of z) ++ position_bytes zs

unfoldable pub positions_from : List ℕ → List ℤ
positions_from [] = []
positions_from (h ∷ []) = []
positions_from (h ∷ (l ∷ bs)) = signed_of (256 * h + l) ∷ positions_from bs
