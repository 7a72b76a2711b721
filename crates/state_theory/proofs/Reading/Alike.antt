-- Two lists of records with the same first 1,024: the test of 21 says the same of both, and a state that passes is read as the same
-- machine.
-- Assumes nothing.
use Prim.Native.Nat.{ℕ, zero, suc, ◌*◌, ◌<◌}
use mathlib.Core.Bool.{Bool, true, false, ◌&&◌, false≢true, ◌||◌}
use mathlib.Core.List.{List, [], ◌∷◌, ◌++◌}
use mathlib.Core.Path.{◌≡◌, refl, sym, ap, ap₂, ◌∙◌, subst}
use lib.Dec.{eqb, ltb, leb}
use lib.ListN.{length, get_or}
use borrow.Author.Tests.{ltb-true, eqb-true}
use Rattle.rules.specs.declared.Place.{Place}
use Rattle.rules.specs.declared.Builder.{Builder}
use Rattle.rules.specs.Limits.{max_places}
use Rattle.rules.specs.Ring.{Node, opened, marked, Ring}
use Rattle.rules.specs.Check.{all_below}
use Rattle.rules.specs.View.{place_at, follow, followed, node_of, nodes, place_nodes, place_rings, loop_places, places_of, loops_of, view}
use Rattle.rules.specs.Sound.{counts_fit, sums_fit, apart, place_fits, places_fit, loop_fits, loops_fit, links_fit, triangles_fit, sound}
use Rattle.state_theory.proofs.Reading.Trails.{fit_append}
use Rattle.counting.proofs.Bools.{and_left, and_right, and_both, same_test}

-- the first n records are the same
abbrev pub Alike : ℕ → List Place → List Place → Type 0
Alike n ps qs = (i : ℕ) → i < n → place_at qs i ≡ place_at ps i

pub alike_back : (n : ℕ) (ps qs : List Place) → Alike n ps qs → Alike n qs ps
alike_back n ps qs a i h = sym (a i h)

-- all of a list's numbers
abbrev pub All : (ℕ → Type 0) → List ℕ → Type 0
All P [] = Unit {0}
All P (x ∷ xs) = P x × All P xs

all_left : (P : ℕ → Type 0) (xs ys : List ℕ) → All P (xs ++ ys) → All P xs
all_left P [] ys h = tt
all_left P (x ∷ xs) ys h = (h.0, all_left P xs ys h.1)

all_right_lem : (P : ℕ → Type 0) (xs ys : List ℕ) → All P (xs ++ ys) → All P ys
all_right_lem P [] ys h = h
all_right_lem P (x ∷ xs) ys h = all_right_lem P xs ys h.1

pub all_below_lem : (n : ℕ) (xs : List ℕ) → all_below n xs ≡ true → All (λ i. i < n) xs
unfolding all_below
all_below_lem n [] h = tt
all_below_lem n (x ∷ xs) h = (ltb-true x n (and_left (ltb x n) _ h), all_below_lem n xs (and_right (ltb x n) _ h))

fit_left : (ps : List Place) (u : ℕ) (xs ys : List ℕ) → places_fit ps u (xs ++ ys) ≡ true → places_fit ps u xs ≡ true
unfolding places_fit
fit_left ps u [] ys h = refl
fit_left ps u (x ∷ xs) ys h = and_both _ _ (and_left (place_fits ps u x) _ h) (fit_left ps u xs ys (and_right (place_fits ps u x) _ h))

fit_right : (ps : List Place) (u : ℕ) (xs ys : List ℕ) → places_fit ps u (xs ++ ys) ≡ true → places_fit ps u ys ≡ true
unfolding places_fit
fit_right ps u [] ys h = h
fit_right ps u (x ∷ xs) ys h = fit_right ps u xs ys (and_right (place_fits ps u x) _ h)

-- the records of the places for which P holds are the same
module _ (P : ℕ → Type 0) (ps qs : List Place) (a : (i : ℕ) → P i → place_at qs i ≡ place_at ps i) where
  -- one loop
  after_alike : (e : ℕ) → P e → (place_at qs e).after ≡ (place_at ps e).after
  after_alike e h = ap (λ (p : Place). p.after) (a e h)

  first_near : (k e : ℕ) → All P (follow ps (suc k) e) → P e
  unfolding follow
  first_near k e h = h.0

  rest_below : (k e : ℕ) → All P (follow ps (suc k) e) → All P (follow ps k (place_at ps e).after)
  unfolding follow
  rest_below k e h = h.1

  follow_alike : (k e : ℕ) → All P (follow ps k e) → follow qs k e ≡ follow ps k e
  unfolding follow
  follow_alike zero e h = refl
  follow_alike (suc k) e h =
      ap (λ (xs : List ℕ). e ∷ xs)
      (ap (follow qs k) (after_alike e (first_near k e h)) ∙ follow_alike k (place_at ps e).after (rest_below k e h))

  followed_alike : (k e : ℕ) → All P (follow ps k e) → followed qs k e ≡ followed ps k e
  unfolding followed
  followed_alike zero e h = refl
  followed_alike (suc k) e h =
      ap (followed qs k) (after_alike e (first_near k e h)) ∙ followed_alike k (place_at ps e).after (rest_below k e h)

  nodes_alike : (is : List ℕ) → All P is → nodes qs is ≡ nodes ps is
  unfolding nodes
  nodes_alike [] h = refl
  nodes_alike (i ∷ is) h =
      ap₂ (λ (p : Node) (r : List Node). p ∷ r) (ap node_of (a i h.0)) (nodes_alike is h.1)

  place_nodes_alike : (is : List ℕ) → All P is → place_nodes qs is ≡ place_nodes ps is
  unfolding place_nodes
  place_nodes_alike [] h = refl
  place_nodes_alike (i ∷ is) h =
      ap₂ (λ (p : Node) (r : List Node). p ∷ r)
      (ap (λ (p : Place). elim p.«open» [ true ↦ opened i | false ↦ marked i ]) (a i h.0)) (place_nodes_alike is h.1)

  -- the place after one whose walk ends at such a place
  next_near : (k e : ℕ) → All P (follow ps k e) → P (followed ps k e) → P e
  unfolding followed
  next_near zero e h g = g
  next_near (suc k) e h g = first_near k e h

  place_alike : (u i : ℕ) → P i → P (place_at ps i).after → place_fits ps u i ≡ true → place_fits qs u i ≡ true
  place_alike u i h g f =
      ap₂ (λ (q p : Place). eqb q.before i && ltb p.vertex u && (p.«open» || q.«open»))
      (ap (place_at qs) (after_alike i h) ∙ a (place_at ps i).after g) (a i h)
      ∙ f

  fit_alike : (u k e : ℕ) → All P (follow ps k e) → P (followed ps k e) → places_fit ps u (follow ps k e) ≡ true
      → places_fit qs u (follow ps k e) ≡ true
  unfolding follow followed places_fit
  fit_alike u zero e h g f = refl
  fit_alike u (suc k) e h g f =
      let r = rest_below k e h in
      and_both _ _
      (place_alike u e (first_near k e h) (next_near k (place_at ps e).after r g) (and_left (place_fits ps u e) _ f))
      (fit_alike u k (place_at ps e).after r g (and_right (place_fits ps u e) _ f))

  -- a loop that returns stays among them
  loop_near : (k e : ℕ) (o : Bool) → All P (follow ps k e) → leb 1 k && eqb (followed ps k e) e && o ≡ true → P e
  loop_near zero e o h f = absurd (false≢true f)
  loop_near (suc k) e o h f = first_near k e h

  loop_back : (k e : ℕ) (o : Bool) → leb 1 k && eqb (followed ps k e) e && o ≡ true → followed ps k e ≡ e
  loop_back k e o f = eqb-true (followed ps k e) e (and_right (leb 1 k) _ (and_left (leb 1 k && eqb (followed ps k e) e) o f))

  loop_alike : (k e : ℕ) → All P (follow ps k e) → leb 1 k && eqb (followed ps k e) e && (place_at ps e).«open» ≡ true
      → leb 1 k && eqb (followed qs k e) e && (place_at qs e).«open» ≡ true
  loop_alike k e h f =
      ap₂ (λ (x : ℕ) (o : Bool). leb 1 k && eqb x e && o) (followed_alike k e h)
      (ap (λ (p : Place). p.«open») (a e (loop_near k e (place_at ps e).«open» h f)))
      ∙ f

  loop_fit : (u k e : ℕ) → All P (follow ps k e) → leb 1 k && eqb (followed ps k e) e && (place_at ps e).«open» ≡ true
      → places_fit ps u (follow ps k e) ≡ true → places_fit qs u (follow ps k e) ≡ true
  loop_fit u k e h f g =
      let o = (place_at ps e).«open» in
      fit_alike u k e h (subst P (sym (loop_back k e o f)) (loop_near k e o h f)) g

  -- the first j loops of a builder's state
  module _ (b : Builder) where
    first_below : (j : ℕ) → All P (places_of b ps (suc j)) → All P (loop_places b ps j)
    unfolding places_of
    first_below j h = all_left P (loop_places b ps j) (places_of b ps j) h

    others_below : (j : ℕ) → All P (places_of b ps (suc j)) → All P (places_of b ps j)
    unfolding places_of
    others_below j h = all_right_lem P (loop_places b ps j) (places_of b ps j) h

    places_alike : (j : ℕ) → All P (places_of b ps j) → places_of b qs j ≡ places_of b ps j
    unfolding places_of
    places_alike zero h = refl
    places_alike (suc j) h =
        ap₂ (λ (xs ys : List ℕ). xs ++ ys) (follow_alike (get_or b.sizes j 0) (get_or b.current j 0) (first_below j h))
        (places_alike j (others_below j h))

    loops_alike : (j : ℕ) → All P (places_of b ps j) → loops_of b qs j ≡ loops_of b ps j
    unfolding loops_of
    loops_alike zero h = refl
    loops_alike (suc j) h =
        ap₂ (λ (l : Ring) (ls : List Ring). l ∷ ls)
        (ap (nodes qs) (follow_alike (get_or b.sizes j 0) (get_or b.current j 0) (first_below j h))
        ∙ nodes_alike (loop_places b ps j) (first_below j h))
        (loops_alike j (others_below j h))

    rings_alike : (j : ℕ) → All P (places_of b ps j) → place_rings b qs j ≡ place_rings b ps j
    unfolding place_rings
    rings_alike zero h = refl
    rings_alike (suc j) h =
        ap₂ (λ (l : Ring) (ls : List Ring). l ∷ ls)
        (ap (place_nodes qs) (follow_alike (get_or b.sizes j 0) (get_or b.current j 0) (first_below j h))
        ∙ place_nodes_alike (loop_places b ps j) (first_below j h))
        (rings_alike j (others_below j h))

    loops_fit_alike : (j : ℕ) → All P (places_of b ps j) → loops_fit b ps j ≡ true → loops_fit b qs j ≡ true
    unfolding loops_fit
    loops_fit_alike zero h f = refl
    loops_fit_alike (suc j) h f =
        and_both _ _ (loop_alike (get_or b.sizes j 0) (get_or b.current j 0) (first_below j h) (and_left (loop_fits b ps j) _ f))
        (loops_fit_alike j (others_below j h) (and_right (loop_fits b ps j) _ f))

    places_fit_alike : (u j : ℕ) → All P (places_of b ps j) → loops_fit b ps j ≡ true → places_fit ps u (places_of b ps j) ≡ true
        → places_fit qs u (places_of b ps j) ≡ true
    unfolding places_of loops_fit places_fit
    places_fit_alike u zero h f g = refl
    places_fit_alike u (suc j) h f g =
        let is = loop_places b ps j in
        let js = places_of b ps j in
        fit_append qs u is js
        (loop_fit u (get_or b.sizes j 0) (get_or b.current j 0) (first_below j h) (and_left (loop_fits b ps j) _ f)
        (fit_left ps u is js g))
        (places_fit_alike u j (others_below j h) (and_right (loop_fits b ps j) _ f) (fit_right ps u is js g))

-- the four tests of the links
record Parts (b : Builder) (ps : List Place) : Type 0 where
  below : all_below max_places (places_of b ps b.live) ≡ true
  once : apart (places_of b ps b.live) ≡ true
  places : places_fit ps b.used (places_of b ps b.live) ≡ true
  loops : loops_fit b ps b.live ≡ true

parts : (b : Builder) (ps : List Place) → links_fit b ps ≡ true → Parts b ps
unfolding links_fit
parts b ps h =
    let is = places_of b ps b.live in
    let below = all_below max_places is in
    let once = apart is in
    let places = places_fit ps b.used is in
    let three : below && once && places ≡ true = and_left (below && once && places) (loops_fit b ps b.live) h in
    let two : below && once ≡ true = and_left (below && once) places three in
    record {
      below = and_left below once two;
      once = and_right below once two;
      places = and_right (below && once) places three;
      loops = and_right (below && once && places) (loops_fit b ps b.live) h;
    }

-- the places of the loops are among them
module _ (P : ℕ → Type 0) (ps qs : List Place) (a : (i : ℕ) → P i → place_at qs i ≡ place_at ps i) (b : Builder)
    (in_loops : All P (places_of b ps b.live)) where
  pub placed_alike : places_of b qs b.live ≡ places_of b ps b.live
  placed_alike = places_alike P ps qs a b b.live in_loops

  pub links_kept : links_fit b ps ≡ true → links_fit b qs ≡ true
  unfolding links_fit
  links_kept h =
      let p = parts b ps h in
      and_both _ _
      (and_both _ _ (and_both _ _ (ap (all_below max_places) placed_alike ∙ p.below) (ap apart placed_alike ∙ p.once))
      (ap (places_fit qs b.used) placed_alike ∙ places_fit_alike P ps qs a b b.used b.live in_loops p.loops p.places))
      (loops_fit_alike P ps qs a b b.live in_loops p.loops)

  pub rings_kept : place_rings b qs b.live ≡ place_rings b ps b.live
  rings_kept = rings_alike P ps qs a b b.live in_loops

  pub view_kept : (xs : List ℕ) → view b xs qs ≡ view b xs ps
  unfolding view
  view_kept xs t = record {
    stated = b.stated;
    triangles = (view b xs ps).triangles;
    loops = loops_alike P ps qs a b b.live in_loops t;
    used = b.used;
    most_places = b.peaks.places;
    most_loops = b.peaks.loops;
    edges = b.edges;
    starts = b.starts;
    unions = b.unions;
    rims = b.rims;
  }

-- the first 1,024 records are the same
module _ (ps qs : List Place) (a : Alike max_places ps qs) (b : Builder) where
  low : links_fit b ps ≡ true → All (λ i. i < max_places) (places_of b ps b.live)
  low h = all_below_lem max_places (places_of b ps b.live) (parts b ps h).below

  links_by : links_fit b ps ≡ true → links_fit b qs ≡ true
  links_by h = links_kept (λ i. i < max_places) ps qs a b (low h) h

  pub view_alike : (xs : List ℕ) → links_fit b ps ≡ true → view b xs qs ≡ view b xs ps
  view_alike xs h = view_kept (λ i. i < max_places) ps qs a b (low h) xs

  pub rings_same : links_fit b ps ≡ true → place_rings b qs b.live ≡ place_rings b ps b.live
  rings_same h = rings_kept (λ i. i < max_places) ps qs a b (low h)

pub links_alike : (ps qs : List Place) → Alike max_places ps qs → (b : Builder) → links_fit b qs ≡ links_fit b ps
links_alike ps qs a b = same_test _ _ (links_by qs ps (alike_back max_places ps qs a) b) (links_by ps qs a b)

pub sound_alike : (ps qs : List Place) → Alike max_places ps qs → leb max_places (length qs) ≡ leb max_places (length ps)
    → (b : Builder) (xs : List ℕ)
    → sound b (record { triangles = xs; places = qs }) ≡ sound b (record { triangles = xs; places = ps })
unfolding sound
sound_alike ps qs a l b xs =
    ap₂ (λ (r t : Bool). leb (3 * b.stated.triangles) (length xs) && r && counts_fit b && sums_fit b && t && triangles_fit b xs) l
    (links_alike ps qs a b)
