-- What a state that passes 21 gives: the machine that it is read as is within bounds, and its numbers are below the count so far.
-- Assumes nothing.
use Prim.Native.Nat.{ℕ, zero, suc, ◌+◌, ◌*◌, ◌≤◌}
use native.Mathlib.Omega.{arith}
use mathlib.Core.Bool.{true, ◌&&◌}
use mathlib.Core.List.{List, [], ◌∷◌}
use mathlib.Core.Path.{◌≡◌, refl, ap, ap₂}
use lib.ListN.{length, get_or}
use lib.Dec.{eqb, ltb, leb}
use borrow.Author.Tests.{leb-true, le-leb, ltb-true}
use Rattle.rules.specs.declared.Place.{Place}
use Rattle.rules.specs.declared.Builder.{Builder}
use Rattle.rules.specs.Limits.{max_places, in_range}
use Rattle.rules.specs.Check.{all_below}
use Rattle.rules.specs.Ring.{places}
use Rattle.rules.specs.Machine.{long_enough}
use Rattle.rules.specs.Buffer.{Buffers, lengths}
use Rattle.rules.specs.View.{place_at, follow, nodes, loop_places, places_of, loops_of, triangles_built, view}
use Rattle.rules.specs.Sound.{sizes_of, counts_fit, sums_fit, apart, place_fits, places_fit, loops_fit, links_fit, triangles_fit, sound}
use Rattle.rules.specs.Build.{viewed}
use Rattle.book.specs.Consistent.{AllCurrent, Ranges}
use Rattle.book.specs.Numbers.{NodesBelow, LoopsBelow}
use Rattle.state_theory.proofs.Reading.Current.{fit_parts, current_loops}
use Rattle.counting.proofs.Bools.{and_left, and_right}
use Rattle.promises.proofs.BuildersBook.{loops_long}
use Rattle.promises.proofs.Kept.{built_long}
use Rattle.state_theory.proofs.Reading.Rings.{node_place}

-- the five parts of 21
pub record Parts (b : Builder) (r : Buffers) : Type 0 where
  pub room : long_enough (lengths r) b.stated ≡ true
  pub counts : counts_fit b ≡ true
  pub sums : sums_fit b ≡ true
  pub links : links_fit b r.places ≡ true
  pub triangles : triangles_fit b r.triangles ≡ true

pub parts : (b : Builder) (r : Buffers) → sound b r ≡ true → Parts b r
unfolding sound
parts b r h =
    let x₁ = long_enough (lengths r) b.stated in
    let x₂ = x₁ && counts_fit b in
    let x₃ = x₂ && sums_fit b in
    let x₄ = x₃ && links_fit b r.places in
    let h₄ = and_left x₄ (triangles_fit b r.triangles) h in
    let h₃ = and_left x₃ (links_fit b r.places) h₄ in
    let h₂ = and_left x₂ (sums_fit b) h₃ in
    record {
      room = and_left x₁ (counts_fit b) h₂;
      counts = and_right x₁ (counts_fit b) h₂;
      sums = and_right x₂ (sums_fit b) h₃;
      links = and_right x₃ (links_fit b r.places) h₄;
      triangles = and_right x₄ (triangles_fit b r.triangles) h;
    }

pub whole : (b : Builder) (r : Buffers) → Parts b r → sound b r ≡ true
unfolding sound
whole b r p = ap₂ ◌&&◌ (ap₂ ◌&&◌ (ap₂ ◌&&◌ (ap₂ ◌&&◌ p.room p.counts) p.sums) p.links) p.triangles

-- the counts and their bounds
pub record Counted (b : Builder) : Type 0 where
  pub stated : in_range b.stated ≡ true
  pub vertices : b.used ≤ b.stated.vertices
  pub triangles : b.built ≤ b.stated.triangles
  pub loops : b.live ≤ b.stated.loops
  pub places : sizes_of b b.live ≤ b.stated.places
  pub most_loops_lem : b.peaks.loops ≤ b.stated.loops
  pub most_places_lem : b.peaks.places ≤ b.stated.places

pub counted : (b : Builder) → counts_fit b ≡ true → Counted b
counted b h =
    let x₁ = in_range b.stated in
    let y₂ = leb b.used b.stated.vertices in
    let y₃ = leb b.built b.stated.triangles in
    let y₄ = leb b.live b.stated.loops in
    let y₅ = leb (sizes_of b b.live) b.stated.places in
    let y₆ = leb b.peaks.loops b.stated.loops in
    let y₇ = leb b.peaks.places b.stated.places in
    let h₆ = and_left (x₁ && y₂ && y₃ && y₄ && y₅ && y₆) y₇ h in
    let h₅ = and_left (x₁ && y₂ && y₃ && y₄ && y₅) y₆ h₆ in
    let h₄ = and_left (x₁ && y₂ && y₃ && y₄) y₅ h₅ in
    let h₃ = and_left (x₁ && y₂ && y₃) y₄ h₄ in
    let h₂ = and_left (x₁ && y₂) y₃ h₃ in
    record {
      stated = and_left x₁ y₂ h₂;
      vertices = leb-true _ _ (and_right x₁ y₂ h₂);
      triangles = leb-true _ _ (and_right (x₁ && y₂) y₃ h₃);
      loops = leb-true _ _ (and_right (x₁ && y₂ && y₃) y₄ h₄);
      places = leb-true _ _ (and_right (x₁ && y₂ && y₃ && y₄) y₅ h₅);
      most_loops_lem = leb-true _ _ (and_right (x₁ && y₂ && y₃ && y₄ && y₅) y₆ h₆);
      most_places_lem = leb-true _ _ (and_right (x₁ && y₂ && y₃ && y₄ && y₅ && y₆) y₇ h);
    }

pub counts_fit_lem : (b : Builder) → Counted b → counts_fit b ≡ true
counts_fit_lem b c =
    ap₂ ◌&&◌
    (ap₂ ◌&&◌
    (ap₂ ◌&&◌
    (ap₂ ◌&&◌ (ap₂ ◌&&◌ (ap₂ ◌&&◌ c.stated (le-leb _ _ c.vertices)) (le-leb _ _ c.triangles)) (le-leb _ _ c.loops))
    (le-leb _ _ c.places))
    (le-leb _ _ c.most_loops_lem))
    (le-leb _ _ c.most_places_lem)

-- how many nodes, triangles and loops are read off
nodes_long : (ps : List Place) (k i : ℕ) → length (nodes ps (follow ps k i)) ≡ k
unfolding nodes follow
nodes_long ps zero i = refl
nodes_long ps (suc k) i = ap suc (nodes_long ps k (place_at ps i).after)

sizes_are : (b : Builder) (ps : List Place) (n : ℕ) → places (loops_of b ps n) ≡ sizes_of b n
unfolding loops_of sizes_of places
sizes_are b ps zero = refl
sizes_are b ps (suc n) = ap₂ ◌+◌ (nodes_long ps (get_or b.sizes n 0) (get_or b.current n 0)) (sizes_are b ps n)

pub sound_ranges : (b : Builder) (r : Buffers) → sound b r ≡ true → Ranges (viewed b r)
unfolding view
sound_ranges b r h =
    let p = parts b r h in
    let c = counted b p.counts in
    let n = 3 * b.stated.triangles in
    let z₁ = leb b.edges n in
    let z₂ = leb b.starts n in
    let z₃ = leb b.unions n in
    let z₄ = leb b.rims n in
    let t : length (triangles_built r.triangles b.built) ≤ b.stated.triangles =
    omega (arith, c.triangles, built_long r.triangles b.built) in
    let k : places (loops_of b r.places b.live) ≤ b.stated.places = omega (arith, c.places, sizes_are b r.places b.live) in
    let l : length (loops_of b r.places b.live) ≤ b.stated.loops = omega (arith, c.loops, loops_long b r.places b.live) in
    let s₃ = and_left (z₁ && z₂ && z₃) z₄ p.sums in
    let s₂ = and_left (z₁ && z₂) z₃ s₃ in
    record {
      stated = c.stated;
      counts = ap₂ ◌&&◌ (ap₂ ◌&&◌ (ap₂ ◌&&◌ (le-leb _ _ c.vertices) (le-leb _ _ t)) (le-leb _ _ k)) (le-leb _ _ l);
      places = c.most_places_lem;
      loops = c.most_loops_lem;
      edges = leb-true _ _ (and_left z₁ z₂ s₂);
      starts = leb-true _ _ (and_right z₁ z₂ s₂);
      unions = leb-true _ _ (and_right (z₁ && z₂) z₃ s₃);
      rims = leb-true _ _ (and_right (z₁ && z₂ && z₃) z₄ p.sums);
    }

below_nodes : (ps : List Place) (u : ℕ) (is : List ℕ) → places_fit ps u is ≡ true → NodesBelow u (nodes ps is)
unfolding places_fit nodes
below_nodes ps u [] h = tt
below_nodes ps u (i ∷ is) h =
    let p : Place = place_at ps i in
    let x = eqb (place_at ps p.after).before i in
    let k =
    ltb-true p.vertex u
    (and_right x (ltb p.vertex u) (and_left (x && ltb p.vertex u) _ (and_left (place_fits ps u i) (places_fit ps u is) h))) in
    (omega (arith, k, node_place p.«open» p.vertex), below_nodes ps u is (and_right (place_fits ps u i) (places_fit ps u is) h))

below_loops : (b : Builder) (ps : List Place) (u n : ℕ) → places_fit ps u (places_of b ps n) ≡ true → LoopsBelow u (loops_of b ps n)
unfolding places_of loops_of
below_loops b ps u zero h = tt
below_loops b ps u (suc n) h =
    let k = fit_parts ps u (loop_places b ps n) (places_of b ps n) h in
    (below_nodes ps u (loop_places b ps n) k.0, below_loops b ps u n k.1)

pub sound_below : (b : Builder) (r : Buffers) → sound b r ≡ true → LoopsBelow (viewed b r).used (viewed b r).loops
unfolding links_fit view
sound_below b r h =
    let ps = r.places in
    let is = places_of b ps b.live in
    let l = (parts b r h).links in
    below_loops b ps b.used b.live
    (and_right (all_below max_places is && apart is) (places_fit ps b.used is)
    (and_left (all_below max_places is && apart is && places_fit ps b.used is) (loops_fit b ps b.live) l))

-- the current edges are open, and no place has both edges marked
pub sound_current : (b : Builder) (r : Buffers) → sound b r ≡ true → AllCurrent (viewed b r).loops
unfolding links_fit view
sound_current b r h =
    let ps = r.places in
    let is = places_of b ps b.live in
    let x = all_below max_places is && apart is in
    let l = (parts b r h).links in
    current_loops ps b b.used b.live
    (and_right x (places_fit ps b.used is) (and_left (x && places_fit ps b.used is) (loops_fit b ps b.live) l))
    (and_right (x && places_fit ps b.used is) (loops_fit b ps b.live) l)
