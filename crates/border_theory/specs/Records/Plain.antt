-- The core's plain memory: 5,328 numbers, of which the first 4,096 are four for each of 1,024 records; and how a list of records
-- is read into it.
-- Assumes nothing.
use Rattle.std.specs.Prelude.{ℕ, zero, suc, ◌+◌, ◌*◌, Bool, true, false, List, [], ◌∷◌, ◌++◌, ltb, eqb, replicate, set, get_or}
use Rattle.rules.specs.declared.Place.{Place}
use Rattle.rules.specs.Limits.{max_places, max_loops}
use Rattle.rules.specs.View.{place_at}

-- the records have four numbers each; with the stack of free places and the waiting loops they are what the core works on, and past that
-- an operation notes what it touched
abbrev pub record_numbers : ℕ
record_numbers = 4 * max_places

abbrev pub core_size : ℕ
core_size = 5 * max_places + 2 * max_loops

abbrev pub memory_size : ℕ
memory_size = core_size + 8

-- an edge's openness as a number, and a number read as one: what is not 1 is not open
abbrev pub number_of : Bool → ℕ
number_of true = 1
number_of false = 0

abbrev pub is_one : ℕ → Bool
is_one x = eqb x 1

-- the plain memory with p as record i
unfoldable pub stored_at : List ℕ → ℕ → Place → List ℕ
stored_at m i p =
    set (set (set (set m (4 * i) p.vertex) (4 * i + 1) p.before) (4 * i + 2) p.after) (4 * i + 3) (number_of p.«open»)

-- record i of the plain memory
abbrev pub record_at : List ℕ → ℕ → Place
record_at m i = record {
  vertex = get_or m (4 * i) 0;
  before = get_or m (4 * i + 1) 0;
  after = get_or m (4 * i + 2) 0;
  «open» = is_one (get_or m (4 * i + 3) 0);
}

-- the plain memory's first n records
unfoldable pub records : ℕ → List ℕ → List Place
records zero m = []
records (suc i) m = records i m ++ (record_at m i ∷ [])

-- the plain memory m with the first n records of the list ps
unfoldable pub loaded : ℕ → List Place → List ℕ → List ℕ
loaded zero ps m = m
loaded (suc i) ps m = stored_at (loaded i ps m) i (place_at ps i)

-- the plain memory that holds nothing
unfoldable pub blank : List ℕ
blank = replicate memory_size 0

-- how many of n records are read: all, or the first 1,024
unfoldable pub count_of : ℕ → ℕ
count_of n = elim (ltb n max_places) [ true ↦ n | false ↦ max_places ]
