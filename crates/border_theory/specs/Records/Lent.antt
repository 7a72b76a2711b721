-- Buffers with n place records, of which only the number counts.
-- Assumes nothing.
use Rattle.std.specs.Prelude.{ℕ, List, replicate}
use Rattle.rules.specs.Buffer.{free_place, Buffers}

abbrev pub lent : ℕ → List ℕ → Buffers
lent n ts = record { triangles = ts; places = replicate n free_place }
