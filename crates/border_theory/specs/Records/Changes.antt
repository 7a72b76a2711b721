-- Changes of a list of place records.
-- Assumes nothing.
use Rattle.std.specs.Prelude.{ℕ, zero, suc, List, set}
use Rattle.rules.specs.declared.Place.{Place}
use Rattle.rules.specs.Buffer.{free_place}

-- record i is p
abbrev pub linked_at : List Place → ℕ → Place → List Place
linked_at ps i p = set ps i p

-- record i zero, its edge not open
abbrev pub freed_at : List Place → ℕ → List Place
freed_at ps i = set ps i free_place

-- the first n records zero, one after the other
unfoldable pub cleared_to : ℕ → List Place → List Place
cleared_to zero ps = ps
cleared_to (suc n) ps = freed_at (cleared_to n ps) n
