-- The limits of the rules, each in one place.
-- Assumes nothing.
use Rattle.std.specs.Prelude.{ℕ, Bool, ◌&&◌, leb}
use Rattle.rules.specs.declared.Counts.{Counts}

abbrev pub max_numbers : ℕ
max_numbers = 24576

abbrev pub min_vertices : ℕ
min_vertices = 3

abbrev pub max_vertices : ℕ
max_vertices = 4096

abbrev pub max_triangles : ℕ
max_triangles = 8192

abbrev pub min_places : ℕ
min_places = 3

-- all loops together have at most so many places
abbrev pub max_places : ℕ
max_places = 1024

-- at most so many loops are live, the current one included
abbrev pub max_loops : ℕ
max_loops = 100

-- the furnace's own reader keeps at most so many places and loops
abbrev pub furnace_places : ℕ
furnace_places = 200

abbrev pub furnace_loops : ℕ
furnace_loops = 12

-- a note has at most so many bytes
abbrev pub max_note : ℕ
max_note = 64

abbrev pub between : ℕ → ℕ → ℕ → Bool
between lo n hi = leb lo n && leb n hi

abbrev pub vertex_range : ℕ → Bool
vertex_range v = between min_vertices v max_vertices

-- 13
abbrev pub in_range : Counts → Bool
in_range s =
    vertex_range s.vertices && between 1 s.triangles max_triangles && between min_places s.places max_places
    && between 1 s.loops max_loops
