-- The abstract machine: the book (a term of the rules) without the edges declared border, on which no answer depends, and with the
-- builder's running count of edges, which the book's finish does not read. And the three kinds of call on it, with their refusals.
-- Assumes nothing.
use Rattle.std.specs.Prelude.{ℕ, ◌+◌, ◌*◌, max, Bool, true, false, ◌&&◌, List, [], ◌∷◌, length, eqb, leb, pos, ◌+ℤ◌, ◌-ℤ◌}
use Rattle.rules.specs.declared.Triangle.{Triangle}
use Rattle.rules.specs.declared.Counts.{Counts}
use Rattle.rules.specs.declared.Operation.{Operation}
use Rattle.rules.specs.declared.Totals.{Totals}
use Rattle.rules.specs.Limits.{max_places, in_range}
use Rattle.rules.specs.Triangle.{Edge}
use Rattle.rules.specs.Fan.{one_fan_each}
use Rattle.rules.specs.Ring.{Ring, places}
use Rattle.rules.specs.Buffer.{Lengths}
use Rattle.rules.specs.Table.{Side, glued, fresh, Building, Marking, Effect, not_allowed, builds, marks, effect, edge_rule}

pub record Machine : Type 0 where
  pub stated : Counts
  -- the latest first
  pub triangles : List Triangle
  -- the current one, then the waiting ones, the latest first
  pub loops : List Ring
  pub used : ℕ
  pub most_places : ℕ
  pub most_loops : ℕ
  pub edges : ℕ
  pub starts : ℕ
  pub unions : ℕ
  pub rims : ℕ

abbrev pub empty : Counts → Machine
empty s = record {
  stated = s;
  triangles = [];
  loops = [];
  used = 0;
  most_places = 0;
  most_loops = 0;
  edges = 0;
  starts = 0;
  unions = 0;
  rims = 0;
}

-- how many new edges a side is
abbrev pub fresh_sides : Side → ℕ
fresh_sides glued = 0
fresh_sides fresh = 1

-- the machine after a triangle is built, and after an edge is marked; both peaks are taken after the operation
abbrev pub after_build : Machine → Building → Machine
after_build m x = record {
  stated = m.stated;
  triangles = x.triangle ∷ m.triangles;
  loops = x.loops;
  used = m.used + x.added.vertices;
  most_places = max m.most_places (places x.loops);
  most_loops = max m.most_loops (length x.loops);
  edges = m.edges + (fresh_sides x.sides.pq + fresh_sides x.sides.qr + fresh_sides x.sides.rp);
  starts = m.starts + x.added.starts;
  unions = m.unions + x.added.unions;
  rims = m.rims;
}

abbrev pub after_mark : Machine → Marking → Machine
after_mark m y = record {
  stated = m.stated;
  triangles = m.triangles;
  loops = y.loops;
  used = m.used;
  most_places = max m.most_places (places y.loops);
  most_loops = max m.most_loops (length y.loops);
  edges = m.edges;
  starts = m.starts;
  unions = m.unions;
  rims = m.rims + y.rims;
}

-- what a call comes to: a refusal; a beginning; an operation's triangle, or the edge that it declares border; a finish's numbers
pub data Step : Type 0 where
  refused : ℕ → Step
  begun : Machine → Step
  built : Triangle → Machine → Step
  declared : Edge → Machine → Step
  finished : Totals → Step

-- a test that a call must pass, and the refusal's number if it fails
unfoldable pub test : Bool → ℕ → Step → Step
test true n s = s
test false n s = refused n

-- 17: vertices, triangles, places and loops, as after the operation, are within those stated
abbrev pub within : Machine → Bool
within m =
    leb m.used m.stated.vertices && leb (length m.triangles) m.stated.triangles
    && leb (places m.loops) m.stated.places && leb (length m.loops) m.stated.loops

unfoldable pub done : Machine → Effect → Step
done m not_allowed = refused 16
done m (builds x) =
    let m' = after_build m x in
    let t = x.triangle in
    let s = x.sides in
    test (within m') 17 (test (edge_rule t s.pq s.qr s.rp m.triangles) 18 (built t m'))
done m (marks y) = let m' = after_mark m y in test (within m') 17 (declared y.edge m')

-- an operation: 16, 17, 18
abbrev pub operation : Machine → Operation → Step
operation m o = done m (effect o m.used m.loops)

-- 14: the buffers are long enough
abbrev pub long_enough : Lengths → Counts → Bool
long_enough r s = leb (3 * s.triangles) r.triangles && leb max_places r.places

-- a beginning: 13, 14
unfoldable pub beginning : Lengths → Counts → Step
beginning r s = test (in_range s) 13 (test (long_enough r s) 14 (begun (empty s)))

abbrev pub complete : Machine → Bool
complete m = eqb (length m.triangles) m.stated.triangles && eqb (length m.loops) 0

-- 19: the vertices and both peaks are those stated
abbrev pub as_stated : Machine → Bool
as_stated m = eqb m.used m.stated.vertices && eqb m.most_places m.stated.places && eqb m.most_loops m.stated.loops

-- the Euler number is vertices minus edges plus triangles
abbrev pub totals : Machine → Totals
totals m = record {
  edges = m.edges;
  rims = m.rims;
  unions = m.unions;
  euler = pos m.used -ℤ pos m.edges +ℤ pos (length m.triangles);
}

-- a finish: 15, 19, 20
unfoldable pub finishing : Machine → Step
finishing m = test (complete m) 15 (test (as_stated m) 19 (test (one_fan_each m.used m.triangles) 20 (finished (totals m))))
