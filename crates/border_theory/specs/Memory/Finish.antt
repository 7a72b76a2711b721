-- The end of a building, of the core's state: whether the model is complete, 19's test of its counts, and the four numbers.
-- Assumes nothing.
use Rattle.std.specs.Prelude.{Bool, true, false, ◌&&◌, pos, ◌+ℤ◌, ◌-ℤ◌, eqb}
use Rattle.rules.specs.declared.Totals.{Totals}
use Rattle.cutborder.specs.declared.Front.{Front}

-- T triangles are built and no loop is live
abbrev pub is_complete : Front → Bool
is_complete f = elim (eqb f.built f.stated.triangles) [ true ↦ eqb f.loops.live 0 | false ↦ false ]

-- 19: the vertices and both peaks are those stated
abbrev pub is_as_stated : Front → Bool
is_as_stated f =
    eqb f.used f.stated.vertices && eqb f.peaks.places f.stated.places && eqb f.peaks.loops f.stated.loops

-- edges, rims, unions and the Euler number
unfoldable pub totals_of : Front → Totals
totals_of f = record {
  edges = f.edges;
  rims = f.rims;
  unions = f.unions;
  euler = pos f.used -ℤ pos f.edges +ℤ pos f.built;
}
