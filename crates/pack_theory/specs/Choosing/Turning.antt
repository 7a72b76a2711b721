-- Turning about a vertex by look-ups in the whole list, through triangles that are not built.
-- Assumes nothing.
use Rattle.std.specs.Prelude.{ℕ, ◌/◌, Option, Some, None, List, ◌≡◌, length}
use Rattle.rules.specs.Triangle.{triangles_of}
use Rattle.rules.specs.Choice.{turn_in, turn_out}
use Rattle.choice_theory.specs.Spots.{Unused}
use Rattle.pack_theory.specs.Choosing.Choosable.{unbuilt_of}

-- where turning about c from a triangle that has c→x ends: at the edge from the vertex that is told into c, or at one that no triangle of
-- the list has
abbrev pub EndsIn : List ℕ → List ℕ → ℕ → ℕ → Option ℕ → Type 0
EndsIn xs flags c x (Some last) = last ≡ turn_in (length xs / 3) c x (unbuilt_of flags xs)
EndsIn xs flags c x None = Unused (turn_in (length xs / 3) c x (unbuilt_of flags xs)) c (triangles_of xs)

-- the same the other way, from a triangle that has y→c: at the edge from c to the vertex that is told
abbrev pub EndsOut : List ℕ → List ℕ → ℕ → ℕ → Option ℕ → Type 0
EndsOut xs flags c y (Some last) = last ≡ turn_out (length xs / 3) c y (unbuilt_of flags xs)
EndsOut xs flags c y None = Unused c (turn_out (length xs / 3) c y (unbuilt_of flags xs)) (triangles_of xs)
