-- What the test of a range says, and the test of 13.
-- Assumes nothing.
use Prim.Native.Nat.{ℕ, ◌≤◌}
use mathlib.Core.Bool.{true, ◌&&◌}
use mathlib.Core.Path.{◌≡◌}
use lib.Dec.{leb}
use borrow.Author.Tests.{leb-true, le-leb}
use Rattle.rules.specs.declared.Counts.{Counts}
use Rattle.rules.specs.Limits.{min_vertices, max_vertices, max_triangles, min_places, max_places, max_loops, between, vertex_range}
use Rattle.rules.specs.Limits.{in_range}
use Rattle.counting.proofs.Bools.{and_left, and_right, and_both, and_true}

pub between_of : (a n b : ℕ) → a ≤ n → n ≤ b → between a n b ≡ true
between_of a n b h k = and_both (leb a n) (leb n b) (le-leb a n h) (le-leb n b k)

pub of_between : (a n b : ℕ) → between a n b ≡ true → (a ≤ n) × (n ≤ b)
of_between a n b h = let r = and_true (leb a n) (leb n b) h in (leb-true a n r.0, leb-true n b r.1)

-- the counts stated, each within its range
pub record InRange (c : Counts) : Type 0 where
  pub vertices : c.vertices ≤ max_vertices
  pub triangles : c.triangles ≤ max_triangles
  pub places : c.places ≤ max_places
  pub loops : c.loops ≤ max_loops

pub in_range_lem : (c : Counts) → in_range c ≡ true → InRange c
in_range_lem c h =
    let r₁ = vertex_range c.vertices in
    let r₂ = between 1 c.triangles max_triangles in
    let r₃ = between min_places c.places max_places in
    let h₃ = and_left (r₁ && r₂ && r₃) _ h in
    let h₂ = and_left (r₁ && r₂) r₃ h₃ in
    record {
      vertices = leb-true c.vertices max_vertices (and_right (leb min_vertices c.vertices) _ (and_left r₁ r₂ h₂));
      triangles = leb-true c.triangles max_triangles (and_right (leb 1 c.triangles) _ (and_right r₁ r₂ h₂));
      places = leb-true c.places max_places (and_right (leb min_places c.places) _ (and_right (r₁ && r₂) r₃ h₃));
      loops = leb-true c.loops max_loops (and_right (leb 1 c.loops) _ (and_right (r₁ && r₂ && r₃) _ h));
    }
