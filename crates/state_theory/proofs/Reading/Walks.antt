-- A walk over the list of records is the walk over the plain memory: the same places, the same nodes, the same end.
-- Assumes nothing.
use Prim.Native.Nat.{ℕ, zero, suc, ◌+◌, ◌*◌, ◌≤◌, ◌<◌}
use native.Mathlib.Omega.{arith}
use mathlib.Core.Bool.{true, ◌&&◌}
use mathlib.Core.List.{List, ◌∷◌}
use mathlib.Core.Path.{◌≡◌, refl, sym, ap, ap₂, ◌∙◌}
use lib.Dec.{ltb}
use lib.ListN.{get_or}
use borrow.Author.Tests.{ltb-true, lt-ltb}
use Rattle.rules.specs.declared.Place.{Place}
use Rattle.rules.specs.Ring.{Node, opened, marked, vertex}
use Rattle.rules.specs.Check.{all_below}
use Rattle.rules.specs.View.{place_at, follow, followed, node_of, nodes}
use Rattle.border_theory.specs.Links.Held.{node_from, read, named, named_ring}
use Rattle.border_theory.specs.Records.Plain.{is_one, records}
use Rattle.border_theory.specs.Memory.Layout.{at, vertex_of, before_of, after_of, open_of, column, vertices_of, links_of, walked}
use Rattle.border_theory.proofs.Memory.Columns.{column_at}
use Rattle.state_theory.proofs.Reading.Walked.{Walk, ring_places}
use Rattle.state_theory.proofs.Reading.Records.{records_at}
use Rattle.counting.proofs.Bools.{and_left, and_right}

-- a walk from what holds of each of its places, or from what `all_below` says of the places followed
pub walk_by : (n : ℕ) (m : List ℕ) → ((p : ℕ) → p < n → open_of m p ≤ 1) → (k e : ℕ) → ((i : ℕ) → i < k → walked m i e < n) → Walk n m k e
unfolding walked
walk_by n m o zero e h = tt
walk_by n m o (suc k) e h =
    let l : e < n = h 0 (omega arith) in
    (l, o e l, walk_by n m o k (after_of m e) (λ i g. h (suc i) (omega (arith, g))))

pub walk_near : (n : ℕ) (m : List ℕ) (k e : ℕ) → Walk n m k e → (i : ℕ) → i < k → walked m i e < n
unfolding walked
walk_near n m zero e w i h = absurd (omega (arith, h))
walk_near n m (suc k) e w zero h = w.0
walk_near n m (suc k) e w (suc i) h = walk_near n m k (after_of m e) w.2 i (omega (arith, h))

module _ (n : ℕ) (m : List ℕ) where
  pub after_at : (e : ℕ) → e < n → (place_at (records n m) e).after ≡ after_of m e
  after_at e h = ap (λ (p : Place). p.after) (records_at n m e h)

  pub walk_below : ((p : ℕ) → p < n → open_of m p ≤ 1) → (k e : ℕ) → all_below n (follow (records n m) k e) ≡ true → Walk n m k e
  unfolding follow all_below
  walk_below o zero e h = tt
  walk_below o (suc k) e h =
      let l : e < n = ltb-true e n (and_left (ltb e n) _ h) in (
        l,
        o e l,
        walk_below o k (after_of m e)
            (ap (λ (x : ℕ). all_below n (follow (records n m) k x)) (sym (after_at e l)) ∙ and_right (ltb e n) _ h),
      )

  pub below_walk : (k e : ℕ) → Walk n m k e → all_below n (follow (records n m) k e) ≡ true
  unfolding follow all_below
  below_walk zero e w = refl
  below_walk (suc k) e w =
      ap₂ ◌&&◌ (lt-ltb e n w.0)
      (ap (λ (x : ℕ). all_below n (follow (records n m) k x)) (after_at e w.0) ∙ below_walk k (after_of m e) w.2)

  -- the places, and where the walk leads
  pub follow_read : (k e : ℕ) → Walk n m k e → follow (records n m) k e ≡ ring_places (read (links_of n m) k e)
  unfolding follow read ring_places
  follow_read zero e w = refl
  follow_read (suc k) e w =
      ap₂ (λ (x : ℕ) (xs : List ℕ). x ∷ xs) (sym (vertex_from (get_or (column m 3 n) e 0)))
      (ap (follow (records n m) k) (after_at e w.0) ∙ follow_read k (after_of m e) w.2
      ∙ ap (λ (x : ℕ). ring_places (read (links_of n m) k x)) (sym (column_at m 2 n e w.0)))
    where
      vertex_from : (f : ℕ) → vertex (node_from f e) ≡ e
      vertex_from zero = refl
      vertex_from (suc f) = refl

  pub followed_walked : (k e : ℕ) → Walk n m k e → followed (records n m) k e ≡ walked m k e
  unfolding followed walked
  followed_walked zero e w = refl
  followed_walked (suc k) e w = ap (followed (records n m) k) (after_at e w.0) ∙ followed_walked k (after_of m e) w.2

  -- one node: the record's, and the one read off the links, named by its vertex
  node_by : (f : ℕ) (vs : List ℕ) (e v a b : ℕ) → f ≤ 1 → get_or vs e 0 ≡ v
      → node_of (record { vertex = v; before = a; after = b; «open» = is_one f }) ≡ named vs (node_from f e)
  node_by zero vs e v a b h g = ap marked (sym g)
  node_by (suc zero) vs e v a b h g = ap opened (sym g)
  node_by (suc (suc f)) vs e v a b h g = absurd (omega (arith, h))

  pub node_at : (e : ℕ) → e < n → open_of m e ≤ 1
      → node_of (place_at (records n m) e) ≡ named (vertices_of n m) (node_from (get_or (column m 3 n) e 0) e)
  node_at e h o =
      ap node_of (records_at n m e h)
      ∙ node_by (open_of m e) (vertices_of n m) e (vertex_of m e) (before_of m e) (after_of m e) o (column_at m 0 n e h ∙ ap (at m) plus)
      ∙ ap (λ (f : ℕ). named (vertices_of n m) (node_from f e)) (sym (column_at m 3 n e h))
    where
      plus : 4 * e + 0 ≡ 4 * e
      plus = omega arith

  pub nodes_read : (k e : ℕ) → Walk n m k e
      → nodes (records n m) (follow (records n m) k e) ≡ named_ring (vertices_of n m) (read (links_of n m) k e)
  unfolding follow read nodes named_ring
  nodes_read zero e w = refl
  nodes_read (suc k) e w =
      ap₂ (λ (x : Node) (xs : List Node). x ∷ xs) (node_at e w.0 w.1)
      (ap (λ (x : ℕ). nodes (records n m) (follow (records n m) k x)) (after_at e w.0) ∙ nodes_read k (after_of m e) w.2
      ∙ ap (λ (x : ℕ). named_ring (vertices_of n m) (read (links_of n m) k x)) (sym (column_at m 2 n e w.0)))
