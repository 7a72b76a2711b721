-- What an operation touched, as it notes it in the last eight numbers of the plain memory: the records that it linked, at most five, and
-- the part of the stack of free places that has those that it freed; and the list of records with these written back.
-- Assumes nothing.
use Rattle.std.specs.Prelude.{ℕ, zero, suc, ◌+◌, ◌-◌, ◌≤◌, ◌<◌, List, get_or, set}
use Rattle.rules.specs.declared.Place.{Place}
use Rattle.rules.specs.Limits.{max_places}
use Rattle.rules.specs.Buffer.{free_place}
use Rattle.border_theory.specs.Records.Plain.{record_at, core_size, record_numbers}

-- how many records are linked, and which
abbrev pub linked_count : List ℕ → ℕ
linked_count m = get_or m core_size 0

abbrev pub linked_place : List ℕ → ℕ → ℕ
linked_place m k = get_or m ((core_size + 1) + k) 0

-- the freed ones stand on the stack from the one to before the other
abbrev pub freed_start : List ℕ → ℕ
freed_start m = get_or m (core_size + 6) 0

abbrev pub freed_end : List ℕ → ℕ
freed_end m = get_or m (core_size + 7) 0

abbrev pub freed_place : List ℕ → ℕ → ℕ
freed_place m k = get_or m (record_numbers + k) 0

-- a list of so many records has them all
abbrev pub Linkable : List ℕ → ℕ → Type 0
Linkable m long = (linked_count m ≤ 5) × ((k : ℕ) → k < linked_count m → (linked_place m k < max_places) × (linked_place m k < long))

abbrev pub Freeable : List ℕ → ℕ → Type 0
Freeable m long = (freed_end m ≤ max_places) × ((k : ℕ) → freed_start m ≤ k → k < freed_end m → freed_place m k < long)

-- the list with the first k of the linked records
unfoldable pub linked_to : ℕ → List ℕ → List Place → List Place
linked_to zero m ps = ps
linked_to (suc k) m ps = set (linked_to k m ps) (linked_place m k) (record_at m (linked_place m k))

abbrev pub linked_all : List ℕ → List Place → List Place
linked_all m ps = linked_to (linked_count m) m ps

-- the list without the first j of the freed records, which start at a
unfoldable pub freed_to : ℕ → ℕ → List ℕ → List Place → List Place
freed_to zero a m ps = ps
freed_to (suc j) a m ps = set (freed_to j a m ps) (get_or m (record_numbers + a + j) 0) free_place

abbrev pub freed_all : List ℕ → List Place → List Place
freed_all m ps = freed_to (freed_end m - freed_start m) (freed_start m) m ps
