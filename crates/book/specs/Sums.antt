-- Sums over the edges of loops: a weight for each edge, and with it at how many places an edge is open or marked.
-- Assumes nothing.
use Rattle.std.specs.Prelude.{ℕ, ◌+◌, Bool, true, false, List, [], ◌∷◌}
use Rattle.rules.specs.Count.{same, hit}
use Rattle.rules.specs.Ring.{Node, Ring, vertex, is_open, start_or}

-- a number for each edge of a loop, from its two vertices and whether it is open
abbrev pub Weight : Type 0
Weight = ℕ → ℕ → Bool → ℕ

-- its sum over a run of nodes whose last edge goes to b, over a loop, over all loops
unfoldable pub path_sum : Weight → List Node → ℕ → ℕ
path_sum w [] b = 0
path_sum w (p ∷ ps) b = w (vertex p) (start_or b ps) (is_open p) + path_sum w ps b

unfoldable pub ring_sum : Weight → Ring → ℕ
ring_sum w l = path_sum w l (start_or 0 l)

unfoldable pub loops_sum : Weight → List Ring → ℕ
loops_sum w [] = 0
loops_sum w (l ∷ ls) = ring_sum w l + loops_sum w ls

-- 1 for the open edge x→y, 1 for the marked edge x→y, else 0
abbrev pub open_hit : ℕ → ℕ → Weight
open_hit x y p q true = hit x y p q
open_hit x y p q false = 0

abbrev pub mark_hit : ℕ → ℕ → Weight
mark_hit x y p q true = 0
mark_hit x y p q false = hit x y p q

-- at how many places x→y is an open edge
abbrev pub open_edges : ℕ → ℕ → List Ring → ℕ
open_edges x y ls = loops_sum (open_hit x y) ls

-- at how many places x is: so many edges start at it
abbrev pub placed : ℕ → List Ring → ℕ
placed x ls = loops_sum (λ p q o. same x p) ls
