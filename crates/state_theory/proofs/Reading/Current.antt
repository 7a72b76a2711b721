-- What the places' test of 21 says of the loops that are read off: each loop's current edge is open, and none of its places has both
-- edges marked.
-- Assumes nothing.
use Prim.Native.Nat.{ℕ, zero, suc, ◌≤◌}
use native.Mathlib.Omega.{arith}
use mathlib.Core.Bool.{Bool, true, false, ◌&&◌, ◌||◌, false≢true}
use mathlib.Core.List.{List, [], ◌∷◌, ◌++◌}
use mathlib.Core.Path.{◌≡◌, refl, ap₂, ◌∙◌}
use lib.Dec.{eqb, ltb, leb}
use lib.ListN.{get_or}
use borrow.Author.Tests.{leb-true}
use Rattle.rules.specs.declared.Place.{Place}
use Rattle.rules.specs.declared.Builder.{Builder}
use Rattle.rules.specs.Ring.{opened, marked, is_open, first_open}
use Rattle.rules.specs.View.{place_at, follow, followed, nodes, loop_places, places_of, loops_of}
use Rattle.rules.specs.Sound.{place_fits, places_fit, loop_fits, loops_fit}
use Rattle.book.specs.Spaced.{Spaced}
use Rattle.book.specs.Consistent.{AllCurrent}
use Rattle.counting.proofs.Bools.{and_left, and_right}

-- places one list after the other
pub fit_parts : (ps : List Place) (u : ℕ) (is js : List ℕ) → places_fit ps u (is ++ js) ≡ true
    → (places_fit ps u is ≡ true) × (places_fit ps u js ≡ true)
unfolding places_fit
fit_parts ps u [] js h = (refl, h)
fit_parts ps u (i ∷ is) js h =
    let k = fit_parts ps u is js (and_right (place_fits ps u i) _ h) in
    (ap₂ ◌&&◌ (and_left (place_fits ps u i) _ h) k.0, k.1)

module _ (ps : List Place) where
  first_open_lem : (k e : ℕ) → 1 ≤ k → (place_at ps e).«open» ≡ true → first_open (nodes ps (follow ps k e)) ≡ true
  unfolding nodes follow
  first_open_lem zero e l h = absurd (omega arith)
  first_open_lem (suc k) e l h = of (place_at ps e).«open» (place_at ps e).vertex ∙ h
    where
      of : (o : Bool) (v : ℕ) → is_open (elim o [ true ↦ opened v | false ↦ marked v ]) ≡ o
      of true v = refl
      of false v = refl

  -- m tells whether the edge before the walk is marked; if so, the walk's first edge is open
  spaced_walk : (u k e : ℕ) (m : Bool) → places_fit ps u (follow ps k e) ≡ true → (m ≡ true → (place_at ps e).«open» ≡ true)
      → Spaced (nodes ps (follow ps k e)) m
  unfolding places_fit nodes follow
  spaced_walk u zero e m h g = tt
  spaced_walk u (suc k) e m h g =
      let p : Place = place_at ps e in
      let n = p.after in
      let here = and_left (place_fits ps u e) (places_fit ps u (follow ps k n)) h in
      of p.«open» m g
      (and_right (eqb (place_at ps n).before e && ltb p.vertex u) (p.«open» || (place_at ps n).«open») here)
      (λ t i. spaced_walk u k n t (and_right (place_fits ps u e) (places_fit ps u (follow ps k n)) h) i)
    where
      of : (o t : Bool) → (t ≡ true → o ≡ true) → o || (place_at ps (place_at ps e).after).«open» ≡ true
          → ((s : Bool) → (s ≡ true → (place_at ps (place_at ps e).after).«open» ≡ true)
          → Spaced (nodes ps (follow ps k (place_at ps e).after)) s)
          → Spaced (elim o [ true ↦ opened (place_at ps e).vertex | false ↦ marked (place_at ps e).vertex ]
          ∷ nodes ps (follow ps k (place_at ps e).after)) t
      of true t i j next = next false (λ q. absurd (false≢true q))
      of false true i j next = absurd (false≢true (i refl))
      of false false i j next = next true (λ q. j)

  pub current_loops : (b : Builder) (u n : ℕ) → places_fit ps u (places_of b ps n) ≡ true → loops_fit b ps n ≡ true
      → AllCurrent (loops_of b ps n)
  unfolding places_of loops_fit loops_of
  current_loops b u zero f h = tt
  current_loops b u (suc n) f h =
      let e = get_or b.current n 0 in
      let k = get_or b.sizes n 0 in
      let l = and_left (loop_fits b ps n) (loops_fit b ps n) h in
      let g = fit_parts ps u (loop_places b ps n) (places_of b ps n) f in
      let x = leb 1 k && eqb (followed ps k e) e in (
        first_open_lem k e (leb-true 1 k (and_left (leb 1 k) (eqb (followed ps k e) e) (and_left x (place_at ps e).«open» l)))
            (and_right x (place_at ps e).«open» l),
        current_loops b u n g.1 (and_right (loop_fits b ps n) (loops_fit b ps n) h),
        spaced_walk u k e false g.0 (λ q. absurd (false≢true q)),
      )
