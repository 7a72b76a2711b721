-- What lent buffers hold after a call.
-- Assumes nothing.
use Rattle.std.specs.Prelude.{ℕ, false, List, ◌++◌, length, drop, replicate}
use Rattle.rules.specs.declared.Place.{Place}
use Rattle.rules.specs.Limits.{max_places}

-- results at the front, and nothing beyond them
abbrev pub over : List ℕ → List ℕ → List ℕ
over xs buffer = xs ++ drop (length xs) buffer

-- the first n entries zero
abbrev pub zeroed : ℕ → List ℕ → List ℕ
zeroed n buffer = replicate n 0 ++ drop n buffer

-- a record that is zero, its edge not open
abbrev pub free_place : Place
free_place = record { vertex = 0; before = 0; after = 0; «open» = false }

-- the first 1,024 place records zero
unfoldable pub cleared : List Place → List Place
cleared ps = replicate max_places free_place ++ drop max_places ps

-- the triangle buffer and the place list that unpacking and the building calls are lent, and their lengths
pub record Buffers : Type 0 where
  pub triangles : List ℕ
  pub places : List Place

pub record Lengths : Type 0 where
  pub triangles : ℕ
  pub places : ℕ

abbrev pub lengths : Buffers → Lengths
lengths r = record { triangles = length r.triangles; places = length {A = Place} r.places }
