-- The fields after the first two, as bytes.
-- Assumes nothing.
use Rattle.std.specs.Prelude.{ℕ, ◌<◌, List, [], length}
use Rattle.rules.specs.Fields.{field_of}
use Rattle.rules.specs.Later.{positions_tag, Given, not_given, given}

abbrev pub later_bytes : Given (List ℕ) → List ℕ
later_bytes not_given = []
later_bytes (given ps) = field_of positions_tag ps

-- a length that two bytes hold
abbrev pub LaterFits : Given (List ℕ) → Type 0
LaterFits not_given = Unit {0}
LaterFits (given ps) = length ps < 65536
