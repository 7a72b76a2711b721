-- Why a list of triangles is refused: 1 to 7, in their order.
-- Assumes nothing.
use Rattle.std.specs.Prelude.{ℕ, zero, suc, ◌%◌, Bool, true, false, ◌&&◌, not, List, [], ◌∷◌, length, eqb, ltb}
use Rattle.rules.specs.declared.Triangle.{Triangle}
use Rattle.rules.specs.Checked.{Checked}
use Rattle.rules.specs.Checked.{Accepted, Refused}
use Rattle.rules.specs.Limits.{max_numbers, between, vertex_range}
use Rattle.rules.specs.Triangle.{distinct, Edge, triangles_of, corners, edges_of}
use Rattle.rules.specs.Count.{occurs, count}
use Rattle.rules.specs.Fan.{one_fan_each}
use Rattle.rules.specs.Answer.{Answer, checked_answer}

-- 1: the list is not empty, not too long, and three numbers for each triangle
abbrev pub size_fits : List ℕ → Bool
size_fits xs = between 1 (length xs) max_numbers && eqb (length xs % 3) 0

-- 3: all numbers are below v
unfoldable pub all_below : ℕ → List ℕ → Bool
all_below v [] = true
all_below v (x ∷ xs) = ltb x v && all_below v xs

-- 4: no triangle has a vertex twice
unfoldable pub all_distinct : List Triangle → Bool
all_distinct [] = true
all_distinct (t ∷ ts) = distinct t && all_distinct ts

-- 5: no directed edge occurs twice
unfoldable pub none_twice : List Edge → Bool
none_twice [] = true
none_twice (d ∷ ds) = eqb (count d.from d.to ds) 0 && none_twice ds

-- 6: each vertex below n is in a triangle
unfoldable pub all_used : ℕ → List ℕ → Bool
all_used zero xs = true
all_used (suc n) xs = not (eqb (occurs n xs) 0) && all_used n xs

-- a test that a list must pass, and the refusal's number if it fails
unfoldable pub passes : Bool → ℕ → Checked → Checked
passes true n c = c
passes false n c = Refused n

unfoldable pub check_triangles : ℕ → List Triangle → Checked
check_triangles v ts =
    passes (all_distinct ts) 4
    (passes (none_twice (edges_of ts)) 5 (passes (all_used v (corners ts)) 6 (passes (one_fan_each v ts) 7 Accepted)))

-- a list of numbers for a model of v vertices
unfoldable pub check : ℕ → List ℕ → Checked
check v xs = passes (size_fits xs) 1 (passes (vertex_range v) 2 (passes (all_below v xs) 3 (check_triangles v (triangles_of xs))))

-- what the call that checks a list alone answers
abbrev pub checks : ℕ → List ℕ → Answer
checks v xs = checked_answer (check v xs)
