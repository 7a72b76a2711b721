-- The tests before the run of a packing: of the list, and of how long the buffers are.
-- Assumes nothing.
use Rattle.std.specs.Prelude.{ℕ, ◌&&◌, List, length, leb}
use Rattle.rules.specs.Checked.{Checked}
use Rattle.rules.specs.Checked.{Accepted, Refused}
use Rattle.rules.specs.Limits.{max_places}
use Rattle.rules.specs.Triangle.{triangles_of}
use Rattle.rules.specs.Check.{passes, check}

-- a list's refusal; of an accepted one d
abbrev pub if_accepted : Checked → Checked → Checked
if_accepted (Refused k) d = Refused k
if_accepted Accepted d = d

-- the first of 1 to 8 and 22 that packing the list of a model of v vertices meets, where the numbering has a entries, the order b, and n
-- place records were lent
unfoldable pub rooms_checked : ℕ → List ℕ → ℕ → ℕ → ℕ → Checked
rooms_checked v xs a b n =
    if_accepted (check v xs) (passes (leb v a && leb max_places n) 8 (passes (leb (length (triangles_of xs)) b) 22 Accepted))
