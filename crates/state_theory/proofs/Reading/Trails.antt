-- Rings of places that stand in the plain memory, followed over the list of its records: they are read off, return, and fit.
-- Assumes nothing.
use Prim.Native.Nat.{ℕ, suc, ◌+◌, ◌*◌, ◌≤◌, ◌<◌}
use native.Mathlib.Omega.{arith}
use mathlib.Core.Bool.{Bool, true, false, ◌&&◌, ◌||◌, not, false≢true}
use mathlib.Core.List.{List, [], ◌∷◌, ◌++◌}
use mathlib.Core.Path.{◌≡◌, refl, sym, ap, ap₂, ◌∙◌, subst}
use lib.Dec.{eqb, ltb, leb}
use lib.ListN.{length}
use borrow.Author.Tests.{lt-ltb, le-leb, eq-eqb}
use Rattle.rules.specs.declared.Place.{Place}
use Rattle.rules.specs.Count.{num, same, occurs}
use Rattle.rules.specs.Ring.{Node, opened, marked, Ring, vertex, is_open, first_open, start_or}
use Rattle.rules.specs.Check.{all_below}
use Rattle.rules.specs.View.{place_at, follow, followed, node_of, nodes}
use Rattle.rules.specs.Sound.{apart, place_fits, places_fit}
use Rattle.book.specs.Sums.{path_sum, ring_sum, loops_sum, placed}
use Rattle.book.specs.Numbers.{NodesBelow, LoopsBelow}
use Rattle.book.specs.Spaced.{Spaced}
use Rattle.book.specs.Consistent.{AllCurrent}
use Rattle.border_theory.specs.Links.Held.{node_from, named, named_ring, named_loops}
use Rattle.border_theory.proofs.Links.Relink.{Apart}
use Rattle.border_theory.proofs.Links.Named.{named_vertex}
use Rattle.border_theory.specs.Records.Plain.{is_one, records}
use Rattle.border_theory.specs.Memory.Layout.{at, open_of, vertices_of}
use Rattle.border_theory.proofs.Memory.Columns.{column_at}
use Rattle.border_theory.proofs.Memory.Standing.{Hop, Trail, Trails}
use Rattle.state_theory.proofs.Reading.Walked.{Walk, ring_places, rings_places}
use Rattle.state_theory.proofs.Reading.Records.{records_at}
use Rattle.state_theory.proofs.Reading.Walks.{after_at, node_at}
use Rattle.counting.proofs.Bools.{and_left, and_right, and_both}
use Rattle.counting.proofs.Counts.{same_yes, occurs_append}
use Rattle.border_theory.proofs.Links.Read.{node_same}

-- of two neighbours one edge is open
abbrev open_or : List Node → Bool
open_or [] = true
open_or (p ∷ ps) = is_open p

one_open : (p : Node) (ps : List Node) (k : Bool) → Spaced (p ∷ ps) k → is_open p || open_or ps ≡ true
one_open (opened v) ps k s = refl
one_open (marked v) [] k s = refl
one_open (marked v) (opened w ∷ ps) k s = refl
one_open (marked v) (marked w ∷ ps) true s = absurd s
one_open (marked v) (marked w ∷ ps) false s = absurd s

spaced_rest : (p : Node) (ps : List Node) (k : Bool) → Spaced (p ∷ ps) k → Spaced ps (not (is_open p))
spaced_rest (opened v) ps k s = s
spaced_rest (marked v) ps true s = absurd s
spaced_rest (marked v) ps false s = s

num_le : (t : Bool) → num t ≤ 1
num_le true = omega arith
num_le false = omega arith

module _ (n : ℕ) (m : List ℕ) where
  hop_after : (x y : ℕ) (o : Bool) → Hop n m x y o → (place_at (records n m) x).after ≡ y
  hop_after x y o h = after_at n m x h.near ∙ h.fore

  -- a run of nodes whose last edge goes to b
  pub trail_walk : (ps : List Node) (b : ℕ) → Trail n m ps b → Walk n m (length ps) (start_or b ps)
  trail_walk [] b t = tt
  trail_walk (p ∷ ps) b t = (
    t.0.near,
    subst (λ (x : ℕ). x ≤ 1) (sym t.0.mark) (num_le (is_open p)),
    subst (Walk n m (length ps)) (sym t.0.fore) (trail_walk ps b t.1),
  )

  pub follow_trail : (ps : List Node) (b : ℕ) → Trail n m ps b → follow (records n m) (length ps) (start_or b ps) ≡ ring_places ps
  unfolding follow ring_places
  follow_trail [] b t = refl
  follow_trail (p ∷ ps) b t =
      ap (λ (xs : List ℕ). vertex p ∷ xs)
      (ap (follow (records n m) (length ps)) (hop_after (vertex p) (start_or b ps) (is_open p) t.0) ∙ follow_trail ps b t.1)

  pub followed_trail : (ps : List Node) (b : ℕ) → Trail n m ps b → followed (records n m) (length ps) (start_or b ps) ≡ b
  unfolding followed
  followed_trail [] b t = refl
  followed_trail (p ∷ ps) b t =
      ap (followed (records n m) (length ps)) (hop_after (vertex p) (start_or b ps) (is_open p) t.0) ∙ followed_trail ps b t.1

  node_trail : (p : Node) (y : ℕ) → Hop n m (vertex p) y (is_open p)
      → node_of (place_at (records n m) (vertex p)) ≡ named (vertices_of n m) p
  node_trail p y h =
      node_at n m (vertex p) h.near (subst (λ (x : ℕ). x ≤ 1) (sym h.mark) (num_le (is_open p)))
      ∙ ap (λ (f : ℕ). named (vertices_of n m) (node_from f (vertex p))) (column_at m 3 n (vertex p) h.near ∙ h.mark)
      ∙ ap (named (vertices_of n m)) (node_same p)

  pub nodes_trail : (ps : List Node) (b : ℕ) → Trail n m ps b → nodes (records n m) (ring_places ps) ≡ named_ring (vertices_of n m) ps
  unfolding nodes ring_places named_ring
  nodes_trail [] b t = refl
  nodes_trail (p ∷ ps) b t =
      ap₂ (λ (q : Node) (qs : List Node). q ∷ qs) (node_trail p (start_or b ps) t.0) (nodes_trail ps b t.1)

  -- each place is below n; the link back agrees, and the vertex is below u
  trail_below : (ps : List Node) (b : ℕ) → Trail n m ps b → all_below n (ring_places ps) ≡ true
  unfolding all_below ring_places
  trail_below [] b t = refl
  trail_below (p ∷ ps) b t = and_both (ltb (vertex p) n) _ (lt-ltb (vertex p) n t.0.near) (trail_below ps b t.1)

  start_trail : (ps : List Node) (b : ℕ) → b < n → Trail n m ps b → start_or b ps < n
  start_trail [] b h t = h
  start_trail (p ∷ ps) b h t = t.0.near

  vertex_at_lem : (p : Node) → vertex p < n → (place_at (records n m) (vertex p)).vertex ≡ vertex (named (vertices_of n m) p)
  vertex_at_lem p h =
      ap (λ (r : Place). r.vertex) (records_at n m (vertex p) h) ∙ ap (at m) plus ∙ sym (column_at m 0 n (vertex p) h)
      ∙ sym (named_vertex (vertices_of n m) p)
    where
      plus : 4 * vertex p ≡ 4 * vertex p + 0
      plus = omega arith

  pub flag_at : (x : ℕ) (o : Bool) → x < n → open_of m x ≡ num o → (place_at (records n m) x).«open» ≡ o
  flag_at x o h e = ap (λ (r : Place). r.«open») (records_at n m x h) ∙ ap is_one e ∙ one_is o
    where
      one_is : (t : Bool) → is_one (num t) ≡ t
      one_is true = refl
      one_is false = refl

  hop_fits : (u : ℕ) (p : Node) (y : ℕ) (o : Bool) → y < n → Hop n m (vertex p) y (is_open p) → vertex (named (vertices_of n m) p) < u
      → open_of m y ≡ num o
      → is_open p || o ≡ true → place_fits (records n m) u (vertex p) ≡ true
  hop_fits u p y o l h g q w =
      and_both _ _ (and_both _ _ (eq-eqb _ _ back) (lt-ltb _ _ (subst (λ (x : ℕ). x < u) (sym (vertex_at_lem p h.near)) g)))
      (ap₂ ◌||◌ (flag_at (vertex p) (is_open p) h.near h.mark)
      (ap (λ (x : ℕ). (place_at (records n m) x).«open») (hop_after (vertex p) y (is_open p) h) ∙ flag_at y o l q) ∙ w)
    where
      back : (place_at (records n m) (place_at (records n m) (vertex p)).after).before ≡ vertex p
      back =
          ap (λ (x : ℕ). (place_at (records n m) x).before) (hop_after (vertex p) y (is_open p) h)
          ∙ ap (λ (r : Place). r.before) (records_at n m y l) ∙ h.back

  -- whether the edge after a run's first place is open; the run leads to a place whose edge is
  start_mark : (ps : List Node) (b : ℕ) → open_of m b ≡ 1 → Trail n m ps b → open_of m (start_or b ps) ≡ num (open_or ps)
  start_mark [] b h t = h
  start_mark (p ∷ ps) b h t = t.0.mark

  trail_fits : (u : ℕ) (ps : List Node) (b : ℕ) (k : Bool) → b < n → Trail n m ps b → NodesBelow u (named_ring (vertices_of n m) ps)
      → open_of m b ≡ 1
      → Spaced ps k → places_fit (records n m) u (ring_places ps) ≡ true
  unfolding places_fit ring_places named_ring
  trail_fits u [] b k l t g h s = refl
  trail_fits u (p ∷ ps) b k l t g h s =
      and_both _ _
      (hop_fits u p (start_or b ps) (open_or ps) (start_trail ps b l t.1) t.0 g.0 (start_mark ps b h t.1) (one_open p ps k s))
      (trail_fits u ps b (not (is_open p)) l t.1 g.1 h (spaced_rest p ps k s))

  -- a loop whose first edge is open
  pub loop_fits_lem : (l : Ring) → first_open l ≡ true → Trail n m l (start_or 0 l)
      → leb 1 (length l) && eqb (followed (records n m) (length l) (start_or 0 l)) (start_or 0 l)
      && (place_at (records n m) (start_or 0 l)).«open» ≡ true
  loop_fits_lem [] h t = absurd (false≢true h)
  loop_fits_lem (p ∷ ps) h t =
      and_both _ _ (and_both _ _ (le-leb 1 (suc (length ps)) (omega arith)) (eq-eqb _ _ (followed_trail (p ∷ ps) (vertex p) t))) flag
    where
      flag : (place_at (records n m) (vertex p)).«open» ≡ true
      flag =
          ap (λ (r : Place). r.«open») (records_at n m (vertex p) t.0.near) ∙ ap is_one t.0.mark
          ∙ ap (λ (o : Bool). is_one (num o)) h

-- two lists of places
pub below_append : (n : ℕ) (xs ys : List ℕ) → all_below n xs ≡ true → all_below n ys ≡ true → all_below n (xs ++ ys) ≡ true
unfolding all_below
below_append n [] ys h g = g
below_append n (x ∷ xs) ys h g = and_both _ _ (and_left (ltb x n) _ h) (below_append n xs ys (and_right (ltb x n) _ h) g)

pub fit_append : (rs : List Place) (u : ℕ) (xs ys : List ℕ) → places_fit rs u xs ≡ true → places_fit rs u ys ≡ true
    → places_fit rs u (xs ++ ys) ≡ true
unfolding places_fit
fit_append rs u [] ys h g = g
fit_append rs u (x ∷ xs) ys h g =
    and_both _ _ (and_left (place_fits rs u x) _ h) (fit_append rs u xs ys (and_right (place_fits rs u x) _ h) g)

-- no number twice
pub apart_by : (is : List ℕ) → ((x : ℕ) → occurs x is ≤ 1) → apart is ≡ true
unfolding apart occurs
apart_by [] h = refl
apart_by (i ∷ is) h =
    and_both _ _ (eq-eqb (occurs i is) 0 (omega (arith, h i, same_yes i))) (apart_by is (λ x. omega (arith, h x)))

occurs_ring : (x : ℕ) (ps : List Node) (b : ℕ) → occurs x (ring_places ps) ≡ path_sum (λ p q o. same x p) ps b
unfolding occurs ring_places path_sum
occurs_ring x [] b = refl
occurs_ring x (p ∷ ps) b = ap (λ (k : ℕ). same x (vertex p) + k) (occurs_ring x ps b)

pub occurs_rings : (x : ℕ) (rs : List Ring) → occurs x (rings_places rs) ≡ placed x rs
unfolding rings_places loops_sum ring_sum occurs
occurs_rings x [] = refl
occurs_rings x (l ∷ ls) =
    occurs_append x (ring_places l) (rings_places ls) ∙ ap₂ ◌+◌ (occurs_ring x l (start_or 0 l)) (occurs_rings x ls)

pub rings_apart : (rs : List Ring) → Apart rs → apart (rings_places rs) ≡ true
rings_apart rs h = apart_by (rings_places rs) (λ x. omega (arith, h x, occurs_rings x rs))

-- all rings
module _ (n : ℕ) (m : List ℕ) where
  pub rings_below : (rs : List Ring) → Trails n m rs → all_below n (rings_places rs) ≡ true
  unfolding rings_places all_below
  rings_below [] t = refl
  rings_below (l ∷ ls) t = below_append n (ring_places l) (rings_places ls) (trail_below n m l (start_or 0 l) t.0) (rings_below ls t.1)

  ring_fits : (u : ℕ) (l : Ring) → Trail n m l (start_or 0 l) → NodesBelow u (named_ring (vertices_of n m) l) → first_open l ≡ true
      → Spaced l false
      → places_fit (records n m) u (ring_places l) ≡ true
  unfolding places_fit ring_places
  ring_fits u [] t g o s = refl
  ring_fits u (p ∷ ps) t g o s = trail_fits n m u (p ∷ ps) (vertex p) false t.0.near t g (t.0.mark ∙ ap num o) s

  pub rings_fit : (u : ℕ) (rs : List Ring) → Trails n m rs → LoopsBelow u (named_loops (vertices_of n m) rs) → AllCurrent rs
      → places_fit (records n m) u (rings_places rs) ≡ true
  unfolding rings_places places_fit named_loops
  rings_fit u [] t g c = refl
  rings_fit u (l ∷ ls) t g c =
      fit_append (records n m) u (ring_places l) (rings_places ls) (ring_fits u l t.0 g.0 c.0 c.2)
      (rings_fit u ls t.1 g.1 c.1)
