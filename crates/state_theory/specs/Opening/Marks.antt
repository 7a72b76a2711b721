-- The places of the loops, marked one after the other in a list of flags: a place that is marked already is in two loops, or twice in one.
-- Assumes nothing.
use Rattle.std.specs.Prelude.{ℕ, zero, suc, Bool, true, ◌&&◌, List, [], ◌∷◌, ◌≡◌, length, get_or, set, eqb, ltb, leb}
use Rattle.rules.specs.declared.Place.{Place}
use Rattle.rules.specs.declared.Builder.{Builder}
use Rattle.rules.specs.Limits.{max_places}
use Rattle.rules.specs.Machine.{long_enough}
use Rattle.rules.specs.View.{place_at, follow, followed, loop_places}
use Rattle.rules.specs.Sound.{counts_fit, sums_fit, place_fits, triangles_fit}
use Rattle.border_theory.specs.Records.Plain.{records}

-- what 21 asks of the numbers beside the loops' places
unfoldable pub numbers_fit : Builder → List ℕ → ℕ → Bool
numbers_fit b xs n =
    long_enough (record { triangles = length xs; places = n }) b.stated && counts_fit b && sums_fit b && triangles_fit b xs

-- place i is there, is not marked in s, and fits, its vertex below v
unfoldable pub markable : List Place → ℕ → List ℕ → ℕ → Bool
markable ps v s i = ltb i max_places && eqb (get_or s i 0) 0 && place_fits ps v i

-- each of the places can be marked after those before it; the flags then
unfoldable pub all_markable : List Place → ℕ → List ℕ → List ℕ → Bool
all_markable ps v s [] = true
all_markable ps v s (i ∷ is) = markable ps v s i && all_markable ps v (set s i 1) is

unfoldable pub flagged : List ℕ → List ℕ → List ℕ
flagged s [] = s
flagged s (i ∷ is) = flagged (set s i 1) is

-- k places from e on can be marked, and the last of them leads to `first`
unfoldable pub returns : List Place → ℕ → List ℕ → ℕ → ℕ → ℕ → Bool
returns ps v s k e first = all_markable ps v s (follow ps k e) && eqb (followed ps k e) first

-- a loop of k places from e on: it has a place, its current edge is open, and it returns
unfoldable pub loop_marks : List Place → ℕ → List ℕ → ℕ → ℕ → Bool
loop_marks ps v s k e = leb 1 k && (place_at ps e).«open» && returns ps v s k e e

-- the first n loops, the last of them first; the flags after them
unfoldable pub loops_mark : Builder → List Place → List ℕ → ℕ → Bool
loops_mark b ps s zero = true
loops_mark b ps s (suc n) =
    loop_marks ps b.used s (get_or b.sizes n 0) (get_or b.current n 0) && loops_mark b ps (flagged s (loop_places b ps n)) n

unfoldable pub all_flagged : Builder → List Place → List ℕ → ℕ → List ℕ
all_flagged b ps s zero = s
all_flagged b ps s (suc n) = all_flagged b ps (flagged s (loop_places b ps n)) n

-- what a function that marks answers, and the flags that it leaves where it answers true
abbrev pub Marked : Bool → List ℕ → Bool → List ℕ → Type 0
Marked test s r s' = (r ≡ test) × (r ≡ true → s' ≡ s)

-- of the records in the memory m and the flags s: one place, the k places from e on, a loop of them, and the first n loops are marked
abbrev pub MarksPlace : List ℕ → ℕ → ℕ → List ℕ → Bool → List ℕ → Type 0
MarksPlace m v i s r s' = Marked (markable (records max_places m) v s i) (set s i 1) r s'

abbrev pub MarksWalk : List ℕ → ℕ → ℕ → ℕ → List ℕ → Bool → List ℕ → Type 0
MarksWalk m v k e s r s' = Marked (returns (records max_places m) v s k e e) (flagged s (follow (records max_places m) k e)) r s'

abbrev pub MarksLoop : List ℕ → ℕ → ℕ → ℕ → List ℕ → Bool → List ℕ → Type 0
MarksLoop m v k e s r s' = Marked (loop_marks (records max_places m) v s k e) (flagged s (follow (records max_places m) k e)) r s'

abbrev pub MarksLoops : Builder → List ℕ → ℕ → List ℕ → Bool → List ℕ → Type 0
MarksLoops b m n s r s' = Marked (loops_mark b (records max_places m) s n) (all_flagged b (records max_places m) s n) r s'
