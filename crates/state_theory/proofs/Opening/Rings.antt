-- The builder's loops as rings of places in the plain memory: their links are recorded, their places are those that were walked, and
-- named by their vertices they are the machine's loops.
-- Assumes nothing.
use Prim.Native.Nat.{ℕ, zero, suc, ◌+◌, ◌≤◌, ◌<◌}
use native.Mathlib.Omega.{arith}
use mathlib.Core.Bool.{Bool, true, false, ◌&&◌}
use mathlib.Core.List.{List, [], ◌∷◌, ◌++◌}
use mathlib.Core.Path.{◌≡◌, refl, sym, ap, ap₂, ◌∙◌, subst}
use lib.Dec.{eqb, ltb, leb}
use lib.ListN.{length, get_or}
use borrow.Author.Tests.{ltb-true, ltb-false, leb-true, eqb-true, eqb-false}
use Rattle.rules.specs.declared.Place.{Place}
use Rattle.rules.specs.declared.Builder.{Builder}
use Rattle.rules.specs.Limits.{max_places}
use Rattle.rules.specs.Count.{num, same, occurs}
use Rattle.rules.specs.Check.{all_below}
use Rattle.rules.specs.Ring.{Ring, vertex, is_open, start_or}
use Rattle.rules.specs.View.{place_at, follow, followed, loop_places, places_of, loops_of}
use Rattle.rules.specs.Sound.{place_fits, places_fit, loop_fits, loops_fit}
use Rattle.book.specs.Sums.{Weight, path_sum, ring_sum, loops_sum, placed}
use Rattle.border_theory.specs.Links.Held.{Memory, Link, arc_hit, Holds, node_from, read, named_loops}
use Rattle.border_theory.specs.Records.Plain.{is_one, records}
use Rattle.border_theory.specs.Memory.Layout.{open_of, column, vertices_of, links_of}
use Rattle.border_theory.proofs.Memory.Columns.{column_at, column_length}
use Rattle.state_theory.proofs.Reading.Records.{records_at}
use Rattle.state_theory.proofs.Reading.Walks.{walk_below, nodes_read}
use Rattle.state_theory.proofs.Reading.Current.{fit_parts}
use Rattle.state_theory.proofs.Reading.Records.{place_none}
use Rattle.counting.proofs.Bools.{and_left, and_right}
use Rattle.counting.proofs.Counts.{same_is, hit_from, hit_to, occurs_append}

-- the rings of the first n loops, the last of them first
unfoldable pub rings_of : Builder → List ℕ → ℕ → List Ring
rings_of b m zero = []
rings_of b m (suc n) = read (links_of max_places m) (get_or b.sizes n 0) (get_or b.current n 0) ∷ rings_of b m n

pub rings_length : (b : Builder) (m : List ℕ) (n : ℕ) → length (rings_of b m n) ≡ n
unfolding rings_of
rings_length b m zero = refl
rings_length b m (suc n) = ap suc (rings_length b m n)

-- an arc that is counted
arc_is : (x y : ℕ) (o : Bool) (p q : ℕ) (u : Bool) → 1 ≤ arc_hit x y o p q u → (x ≡ p) × (y ≡ q) × (o ≡ u)
arc_is x y true p q true h = (same_is x p (omega (arith, h, hit_from x y p q)), same_is y q (omega (arith, h, hit_to x y p q)), refl)
arc_is x y true p q false h = absurd (omega (arith, h))
arc_is x y false p q true h = absurd (omega (arith, h))
arc_is x y false p q false h = (same_is x p (omega (arith, h, hit_from x y p q)), same_is y q (omega (arith, h, hit_to x y p q)), refl)

vertex_from : (f x : ℕ) → vertex (node_from f x) ≡ x
vertex_from zero x = refl
vertex_from (suc f) x = refl

mark_from : (f x : ℕ) → f ≤ 1 → f ≡ num (is_open (node_from f x))
mark_from zero x h = refl
mark_from (suc zero) x h = refl
mark_from (suc (suc f)) x h = absurd (omega (arith, h))

-- a list that ends before position i
past : (xs : List ℕ) (i : ℕ) → length xs ≤ i → get_or xs i 0 ≡ 0
past [] i h = refl
past (x ∷ xs) zero h = absurd (omega arith)
past (x ∷ xs) (suc i) h = past xs i (omega arith)

-- lists of places one after the other
pub below_append : (v : ℕ) (is js : List ℕ) → all_below v (is ++ js) ≡ true → (all_below v is ≡ true) × (all_below v js ≡ true)
unfolding all_below
below_append v [] js h = (refl, h)
below_append v (i ∷ is) js h =
    let r = below_append v is js (and_right (ltb i v) _ h) in
    (ap (λ (t : Bool). t && all_below v is) (and_left (ltb i v) _ h) ∙ r.0, r.1)

pub below_none : (v : ℕ) (is : List ℕ) → all_below v is ≡ true → (x : ℕ) → v ≤ x → occurs x is ≡ 0
unfolding all_below occurs
below_none v [] h x l = refl
below_none v (i ∷ is) h x l =
    let b : i < v = ltb-true i v (and_left (ltb i v) _ h) in
    omega (arith, none b, below_none v is (and_right (ltb i v) _ h) x l)
  where
    none : i < v → same x i ≡ 0
    none b = none_by (same x i) refl b
      where
        none_by : (s : ℕ) → same x i ≡ s → i < v → s ≡ 0
        none_by zero e b = refl
        none_by (suc s) e b = let q : x ≡ i = same_is x i (omega (arith, e)) in absurd (omega (arith, q, b, l))

module _ (m : List ℕ) where
  abbrev ps : List Place
  ps = records max_places m

  abbrev links : Memory
  links = links_of max_places m

  -- the columns of the memory are the records', beyond the last one too
  after_by : (i : ℕ) (t : Bool) → ltb i max_places ≡ t → get_or (column m 2 max_places) i 0 ≡ (place_at ps i).after
  after_by i true e =
      column_at m 2 max_places i (ltb-true i max_places e)
      ∙ sym (ap (λ (p : Place). p.after) (records_at max_places m i (ltb-true i max_places e)))
  after_by i false e =
      past (column m 2 max_places) i (omega (arith, column_length m 2 max_places, ltb-false i max_places e))
      ∙ ap (λ (p : Place). p.after) (place_none m i (ltb-false i max_places e))

  before_by : (i : ℕ) (t : Bool) → ltb i max_places ≡ t → get_or (column m 1 max_places) i 0 ≡ (place_at ps i).before
  before_by i true e =
      column_at m 1 max_places i (ltb-true i max_places e)
      ∙ sym (ap (λ (p : Place). p.before) (records_at max_places m i (ltb-true i max_places e)))
  before_by i false e =
      past (column m 1 max_places) i (omega (arith, column_length m 1 max_places, ltb-false i max_places e))
      ∙ ap (λ (p : Place). p.before) (place_none m i (ltb-false i max_places e))

  open_by : (i : ℕ) (t : Bool) → ltb i max_places ≡ t → is_one (get_or (column m 3 max_places) i 0) ≡ (place_at ps i).«open»
  open_by i true e =
      ap is_one (column_at m 3 max_places i (ltb-true i max_places e))
      ∙ sym (ap (λ (p : Place). p.«open») (records_at max_places m i (ltb-true i max_places e)))
  open_by i false e =
      ap is_one (past (column m 3 max_places) i (omega (arith, column_length m 3 max_places, ltb-false i max_places e)))
      ∙ ap (λ (p : Place). p.«open») (place_none m i (ltb-false i max_places e))

  pub after_any : (i : ℕ) → get_or (column m 2 max_places) i 0 ≡ (place_at ps i).after
  after_any i = after_by i (ltb i max_places) refl

  pub before_any : (i : ℕ) → get_or (column m 1 max_places) i 0 ≡ (place_at ps i).before
  before_any i = before_by i (ltb i max_places) refl

  -- sums over what is read off: the first edge, and the others
  abbrev mark : ℕ → ℕ
  mark e = get_or (column m 3 max_places) e 0

  start_or_lem : (k e : ℕ) → start_or (followed ps k e) (read links k e) ≡ e
  unfolding read followed
  start_or_lem zero e = refl
  start_or_lem (suc k) e = vertex_from (mark e) e

  sum_none : (w : Weight) (e z : ℕ) → path_sum w (read links 0 e) z ≡ 0
  unfolding read path_sum
  sum_none w e z = refl

  sum_first : (w : Weight) (k e : ℕ)
      → path_sum w (read links (suc k) e) (followed ps (suc k) e)
      ≡ w e (place_at ps e).after (is_open (node_from (mark e) e))
      + path_sum w (read links k (place_at ps e).after) (followed ps k (place_at ps e).after)
  unfolding read followed path_sum
  sum_first w k e =
      let a = (place_at ps e).after in
      let z = followed ps k a in
      let p = node_from (mark e) e in
      ap (λ (i : ℕ). w (vertex p) (start_or z (read links k i)) (is_open p) + path_sum w (read links k i) z) (after_any e)
      ∙ ap (λ (i : ℕ). w i (start_or z (read links k a)) (is_open p) + path_sum w (read links k a) z) (vertex_from (mark e) e)
      ∙ ap (λ (i : ℕ). w e i (is_open p) + path_sum w (read links k a) z) (start_or_lem k a)

  -- the places read off are those followed
  path_occurs : (x k e : ℕ) → path_sum (λ p q o. same x p) (read links k e) (followed ps k e) ≡ occurs x (follow ps k e)
  unfolding follow occurs
  path_occurs x zero e = sum_none (λ p q o. same x p) e (followed ps 0 e)
  path_occurs x (suc k) e = sum_first (λ p q o. same x p) k e ∙ ap (λ (i : ℕ). same x e + i) (path_occurs x k (place_at ps e).after)

  -- a loop that returns
  ring_sum_lem : (w : Weight) (k e : ℕ) → 1 ≤ k → followed ps k e ≡ e
      → ring_sum w (read links k e) ≡ path_sum w (read links k e) (followed ps k e)
  unfolding ring_sum read
  ring_sum_lem w zero e h r = absurd (omega (arith, h))
  ring_sum_lem w (suc k) e h r = ap (path_sum w (read links (suc k) e)) (vertex_from (mark e) e ∙ sym r)

  read_length : (k e : ℕ) → length (read links k e) ≡ k
  unfolding read
  read_length zero e = refl
  read_length (suc k) e = ap suc (read_length k (get_or (column m 2 max_places) e 0))

  read_start : (k e : ℕ) → 1 ≤ k → start_or 0 (read links k e) ≡ e
  unfolding read
  read_start zero e h = absurd (omega (arith, h))
  read_start (suc k) e h = vertex_from (mark e) e

  -- what a loop's test says
  module _ (b : Builder) where
    abbrev size : ℕ → ℕ
    size n = get_or b.sizes n 0

    abbrev start : ℕ → ℕ
    start n = get_or b.current n 0

    pub record Returns (n : ℕ) : Type 0 where
      pub some : 1 ≤ size n
      pub back : followed ps (size n) (start n) ≡ start n
      pub opens : (place_at ps (start n)).«open» ≡ true

    returns_by : (n : ℕ) → loop_fits b ps n ≡ true → Returns n
    returns_by n h =
        let two = and_left (leb 1 (size n) && eqb (followed ps (size n) (start n)) (start n)) _ h in
        record {
          some = leb-true 1 (size n) (and_left (leb 1 (size n)) _ two);
          back = eqb-true (followed ps (size n) (start n)) (start n) (and_right (leb 1 (size n)) _ two);
          opens = and_right (leb 1 (size n) && eqb (followed ps (size n) (start n)) (start n)) _ h;
        }

    pub each_returns : (n : ℕ) → loops_fit b ps n ≡ true → (w : ℕ) → w < n → Returns w
    unfolding loops_fit
    each_returns zero h w l = absurd (omega (arith, l))
    each_returns (suc n) h w l =
        last (eqb w n) refl (returns_by n (and_left (loop_fits b ps n) _ h)) (λ g. each_returns n (and_right (loop_fits b ps n) _ h) w g)
      where
        last : (t : Bool) → eqb w n ≡ t → Returns n → (w < n → Returns w) → Returns w
        last true e r more = subst Returns (sym (eqb-true w n e)) r
        last false e r more = more (omega (arith, l, eqb-false w n e))

    pub ring_start : (w : ℕ) → Returns w → start_or 0 (read links (size w) (start w)) ≡ start w
    ring_start w r = read_start (size w) (start w) r.some

    pub ring_length : (w : ℕ) → length (read links (size w) (start w)) ≡ size w
    ring_length w = read_length (size w) (start w)

    pub rings_placed : (x n : ℕ) → loops_fit b ps n ≡ true → placed x (rings_of b m n) ≡ occurs x (places_of b ps n)
    unfolding rings_of places_of loops_fit loops_sum occurs
    rings_placed x zero h = refl
    rings_placed x (suc n) h =
        let r = returns_by n (and_left (loop_fits b ps n) _ h) in
        ap₂ ◌+◌ (ring_sum_lem (λ p q o. same x p) (size n) (start n) r.some r.back ∙ path_occurs x (size n) (start n))
        (rings_placed x n (and_right (loop_fits b ps n) _ h))
        ∙ sym (occurs_append x (loop_places b ps n) (places_of b ps n))

    module _ (ones : (p : ℕ) → p < max_places → open_of m p ≤ 1) where
      mark_le : (i : ℕ) (t : Bool) → ltb i max_places ≡ t → mark i ≤ 1
      mark_le i true e = omega (arith, column_at m 3 max_places i (ltb-true i max_places e), ones i (ltb-true i max_places e))
      mark_le i false e =
          omega (arith, past (column m 3 max_places) i (omega (arith, column_length m 3 max_places, ltb-false i max_places e)))

      one_link : (v e : ℕ) → place_fits ps v e ≡ true → Link links e (place_at ps e).after (is_open (node_from (mark e) e))
      one_link v e h = record {
        fore = after_any e;
        back =
            before_any (place_at ps e).after
            ∙ eqb-true (place_at ps (place_at ps e).after).before e
            (and_left (eqb (place_at ps (place_at ps e).after).before e) _
            (and_left (eqb (place_at ps (place_at ps e).after).before e && ltb (place_at ps e).vertex v) _ h));
        mark = mark_from (mark e) e (mark_le e (ltb e max_places) refl);
      }

      link_at : (x y : ℕ) (o : Bool) (e a : ℕ) (u : Bool) → Link links e a u → 1 ≤ arc_hit x y o e a u → Link links x y o
      link_at x y o e a u l h =
          let q = arc_is x y o e a u h in
          subst (λ (z : ℕ). Link links z y o) (sym q.0)
          (subst (λ (z : ℕ). Link links e z o) (sym q.1) (subst (λ (z : Bool). Link links e a z) (sym q.2) l))

      either : {P : Type 0} (s t : ℕ) → 1 ≤ s + t → (1 ≤ s → P) → (1 ≤ t → P) → P
      either zero t h f g = g (omega (arith, h))
      either (suc s) t h f g = f (omega arith)

      path_links : (v k e : ℕ) → places_fit ps v (follow ps k e) ≡ true → (x y : ℕ) (o : Bool)
          → 1 ≤ path_sum (arc_hit x y o) (read links k e) (followed ps k e) → Link links x y o
      unfolding follow places_fit
      path_links v zero e f x y o h = absurd (omega (arith, h, sum_none (arc_hit x y o) e (followed ps 0 e)))
      path_links v (suc k) e f x y o h =
          either (arc_hit x y o e (place_at ps e).after (is_open (node_from (mark e) e)))
          (path_sum (arc_hit x y o) (read links k (place_at ps e).after) (followed ps k (place_at ps e).after))
          (omega (arith, h, sum_first (arc_hit x y o) k e))
          (link_at x y o e (place_at ps e).after (is_open (node_from (mark e) e)) (one_link v e (and_left (place_fits ps v e) _ f)))
          (path_links v k (place_at ps e).after (and_right (place_fits ps v e) _ f) x y o)

      pub rings_hold : (v n : ℕ) → loops_fit b ps n ≡ true → places_fit ps v (places_of b ps n) ≡ true → Holds links (rings_of b m n)
      unfolding rings_of places_of loops_fit loops_sum
      rings_hold v zero h f x y o i = absurd (omega (arith, i))
      rings_hold v (suc n) h f x y o i =
          let r = returns_by n (and_left (loop_fits b ps n) _ h) in
          let g = fit_parts ps v (loop_places b ps n) (places_of b ps n) f in
          either (ring_sum (arc_hit x y o) (read links (size n) (start n))) (loops_sum (arc_hit x y o) (rings_of b m n)) i
          (λ j. path_links v (size n) (start n) g.0 x y o
          (omega (arith, j, ring_sum_lem (arc_hit x y o) (size n) (start n) r.some r.back)))
          (rings_hold v n (and_right (loop_fits b ps n) _ h) g.1 x y o)

      pub rings_named : (n : ℕ) → all_below max_places (places_of b ps n) ≡ true
          → loops_of b ps n ≡ named_loops (vertices_of max_places m) (rings_of b m n)
      unfolding rings_of places_of loops_of named_loops
      rings_named zero h = refl
      rings_named (suc n) h =
          let g = below_append max_places (loop_places b ps n) (places_of b ps n) h in
          ap₂ (λ (r : Ring) (rs : List Ring). r ∷ rs)
          (nodes_read max_places m (size n) (start n) (walk_below max_places m ones (size n) (start n) g.0)) (rings_named n g.1)
