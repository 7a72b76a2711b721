-- The counts stay within the bounds of 21.
-- Assumes nothing.
use Prim.Native.Nat.{◌≤◌}
use native.Mathlib.Omega.{arith}
use mathlib.Core.Bool.{true, ◌&&◌}
use mathlib.Core.List.{◌∷◌}
use mathlib.Core.Path.{◌≡◌, refl}
use lib.ListN.{length}
use lib.Dec.{leb}
use borrow.Author.Tests.{leb-true, le-leb}
use Rattle.rules.specs.declared.Counts.{Counts}
use Rattle.rules.specs.declared.Operation.{Operation}
use Rattle.rules.specs.Limits.{in_range}
use Rattle.rules.specs.Count.{num}
use Rattle.rules.specs.Ring.{places}
use Rattle.rules.specs.Table.{Side, glued, fresh, Building, Marking, Effect, not_allowed, builds, marks, effect}
use Rattle.rules.specs.Machine.{Machine, fresh_sides, after_build, after_mark, Step, within, done, operation}
use Rattle.rules.specs.Book.{Book, empty_book, entered}
use Rattle.book.specs.Sums.{loops_sum}
use Rattle.book.specs.Consistent.{Consistent, Ranges}
use Rattle.book.specs.Bounded.{Bounded}
use Rattle.book.proofs.Counting.{if_fresh}
use Rattle.book.proofs.Kept.{test_law}
use Rattle.book.proofs.Effects.{Law, sound_current, effect_law}
use Rattle.counting.proofs.Bools.{and_left, and_right}

-- the counts of a machine within those stated
pub record Within (m : Machine) : Type 0 where
  pub vertices : m.used ≤ m.stated.vertices
  pub triangles : length m.triangles ≤ m.stated.triangles
  pub places : places m.loops ≤ m.stated.places
  pub loops : length m.loops ≤ m.stated.loops

pub within_each : (m : Machine) → within m ≡ true → Within m
within_each m h =
    let w1 = leb m.used m.stated.vertices in
    let w2 = leb (length m.triangles) m.stated.triangles in
    let w3 = leb (places m.loops) m.stated.places in
    let w4 = leb (length m.loops) m.stated.loops in
    let h3 = and_left (w1 && w2 && w3) w4 h in
    let h2 = and_left (w1 && w2) w3 h3 in
    record {
      vertices = leb-true m.used m.stated.vertices (and_left w1 w2 h2);
      triangles = leb-true (length m.triangles) m.stated.triangles (and_right w1 w2 h2);
      places = leb-true (places m.loops) m.stated.places (and_right (w1 && w2) w3 h3);
      loops = leb-true (length m.loops) m.stated.loops (and_right (w1 && w2 && w3) w4 h);
    }

pub bounded_ranges : (b : Book) → Bounded b → Ranges b.machine
bounded_ranges b k =
    let w = within_each b.machine k.counts in
    record {
      stated = k.stated;
      counts = k.counts;
      places = k.places;
      loops = k.loops;
      edges = omega (arith, w.triangles, k.edges);
      starts = omega (arith, w.triangles, k.starts);
      unions = omega (arith, w.triangles, k.unions);
      rims = omega (arith, w.triangles, k.rims, k.borders);
    }

-- each side is glued or fresh
pub sides : (s : Side) → if_fresh s 1 ≡ fresh_sides s
sides glued = refl
sides fresh = refl

fresh_once : (s : Side) → fresh_sides s ≤ 1
fresh_once glued = omega arith
fresh_once fresh = omega arith

-- a triangle that is built, and an edge that is marked, whether or not the edge rule is tested
pub bounded_built : (b : Book) → Bounded b → (z : Building) → Law b.machine.used b.machine.loops (builds z)
    → within (after_build b.machine z) ≡ true → Bounded (record { machine = after_build b.machine z; borders = b.borders })
bounded_built b c z l e =
    let w = within_each (after_build b.machine z) e in
    let o = l.sums (λ x y o. num o) in
    record {
      stated = c.stated;
      counts = e;
      places = omega (arith, w.places, c.places);
      loops = omega (arith, w.loops, c.loops);
      edges = omega (arith, c.edges, fresh_once z.sides.pq, fresh_once z.sides.qr, fresh_once z.sides.rp);
      starts = omega (arith, c.starts, l.small);
      unions = omega (arith, c.unions, l.small);
      rims = c.rims;
      borders = omega (
        arith,
        c.borders,
        o,
        sides z.sides.pq,
        sides z.sides.qr,
        sides z.sides.rp,
        fresh_once z.sides.pq,
        fresh_once z.sides.qr,
        fresh_once z.sides.rp,
      );
    }

pub bounded_marked : (b : Book) → Bounded b → (y : Marking) → Law b.machine.used b.machine.loops (marks y)
    → within (after_mark b.machine y) ≡ true
    → Bounded (record { machine = after_mark b.machine y; borders = y.edge ∷ b.borders })
bounded_marked b c y l e =
    let w = within_each (after_mark b.machine y) e in
    let o = l.sums (λ x y o. num o) (λ x y. refl) in
    record {
      stated = c.stated;
      counts = e;
      places = omega (arith, w.places, c.places);
      loops = omega (arith, w.loops, c.loops);
      edges = c.edges;
      starts = c.starts;
      unions = c.unions;
      rims = omega (arith, c.rims, l.small);
      borders = omega (arith, c.borders, o);
    }

bounded_by : (b : Book) → Bounded b → (e : Effect) → Law b.machine.used b.machine.loops e
    → Bounded (entered b (done b.machine e))
unfolding done
bounded_by b c not_allowed l = c
bounded_by b c (builds z) l =
    test_law (λ (x : Step). Bounded (entered b x)) (within (after_build b.machine z)) _ _ c
    (λ e. test_law (λ (x : Step). Bounded (entered b x)) _ _ _ c (λ rule. bounded_built b c z l e))
bounded_by b c (marks z) l =
    test_law (λ (x : Step). Bounded (entered b x)) (within (after_mark b.machine z)) _ _ c (λ e. bounded_marked b c z l e)

pub bounded_kept : (b : Book) → Consistent b → Bounded b → (o : Operation) → Bounded (entered b (operation b.machine o))
bounded_kept b c k o = bounded_by b k (effect o b.machine.used b.machine.loops)
    (effect_law o b.machine.used b.machine.loops (sound_current b.machine.loops c.loops))

pub empty_bounded : (s : Counts) → in_range s ≡ true → Bounded (empty_book s)
unfolding loops_sum places
empty_bounded s h = record {
  stated = h;
  counts = rw (
    le-leb 0 s.vertices (omega arith),
    le-leb 0 s.triangles (omega arith),
    le-leb 0 s.places (omega arith),
    le-leb 0
        s.loops (omega arith),
  );
  places = omega arith;
  loops = omega arith;
  edges = omega arith;
  starts = omega arith;
  unions = omega arith;
  rims = omega arith;
  borders = omega arith;
}

-- no more triangles than are stated
pub within_triangles : (m : Machine) → within m ≡ true → length m.triangles ≤ m.stated.triangles
within_triangles m h = (within_each m h).triangles
