-- Operations that the machine accepts from counts within the limits to a finish: the list that it has built is accepted, and
-- packing it gives the same operations, counts and numbers.
-- Assumes nothing.
use Prim.Native.Nat.{ℕ, zero, suc, ◌+◌, ◌≤◌, ◌<◌}
use native.Mathlib.Omega.{arith}
use mathlib.Core.Bool.{Bool, true, false, ◌&&◌, false≢true}
use mathlib.Core.List.{List, [], ◌∷◌, ◌++◌}
use mathlib.Core.Path.{◌≡◌, refl, sym, ap, ◌∙◌, subst}
use lib.ListN.{length}
use lib.Dec.{eqb, leb}
use borrow.Author.Tests.{eqb-true, leb-true, eq-eqb}
use Rattle.rules.specs.declared.Triangle.{Triangle}
use Rattle.rules.specs.declared.Counts.{Counts}
use Rattle.rules.specs.declared.Operation.{Operation}
use Rattle.rules.specs.declared.Totals.{Totals}
use Rattle.rules.specs.Checked.{Accepted}
use Rattle.rules.specs.Limits.{max_triangles, min_places, max_places, max_loops, between, vertex_range, in_range}
use Rattle.rules.specs.Fan.{one_fan_each}
use Rattle.rules.specs.Check.{check}
use Rattle.rules.specs.Machine.{Machine, empty, Step, refused, begun, built, declared, finished, test, complete, as_stated, totals}
use Rattle.rules.specs.Machine.{finishing}
use Rattle.rules.specs.Choice.{has}
use Rattle.rules.specs.Pack.{most, nothing_built, chosen_for}
use Rattle.rules.specs.Unpack.{numbers_of}
use Rattle.rules.specs.Fan.{Neighbours}
use Rattle.choice_theory.specs.Works.{Works}
use Rattle.choice_theory.proofs.Turning.Fans.{fans_of, fan_same}
use Rattle.choice_theory.proofs.Places.Numbering.{Met, has_left, has_last}
use Rattle.choice_theory.proofs.Runs.Tracking.{up_to}
use Rattle.choice_theory.proofs.Runs.Whole.{Complete, Ends, packs_whole, complete_only}
use Rattle.choice_theory.proofs.Runs.Working.{works_stated}
use Rattle.choice_theory.proofs.Runs.Unpacking.{run_count}
use Rattle.choice_theory.proofs.Runs.Repacking.{numbers_in, numbers_onto, run_onto, Repacked, worked, works_facts, works_below}
use Rattle.choice_theory.proofs.Runs.Repacking.{works_order, in_order_lem, repacks}
use Rattle.choice_theory.proofs.Runs.Rechecking.{check_holds}
use Rattle.counting.proofs.Bools.{and_true}
use Rattle.choice_theory.proofs.Runs.Running.{no_loops_lem}

-- what a finish tells
pub record Done (m : Machine) : Type 0 where
  pub all_built : length m.triangles ≡ m.stated.triangles
  pub no_loop : m.loops ≡ []
  pub vertices : m.used ≡ m.stated.vertices
  pub places : m.most_places ≡ m.stated.places
  pub loops : m.most_loops ≡ m.stated.loops
  pub fans : one_fan_each m.used m.triangles ≡ true

abbrev Finished : Machine → Step → Type 0
Finished m (refused n) = Unit {0}
Finished m (begun k) = ⊥
Finished m (built t k) = ⊥
Finished m (declared d k) = ⊥
Finished m (finished x) = Done m

finished_test : (m : Machine) (b : Bool) (n : ℕ) (s : Step) → (b ≡ true → Finished m s) → Finished m (test b n s)
unfolding test
finished_test m true n s h = h refl
finished_test m false n s h = tt

finished_of : (m : Machine) → Finished m (finishing m)
unfolding finishing
finished_of m =
    finished_test m (complete m) 15 _
    (λ a. finished_test m (as_stated m) 19 _
    (λ b. finished_test m (one_fan_each m.used m.triangles) 20 (finished (totals m))
    (λ c.
    (let h = and_true (eqb (length m.triangles) m.stated.triangles) (eqb (length m.loops) 0) a in
    let k = and_true (eqb m.used m.stated.vertices && eqb m.most_places m.stated.places)
    (eqb m.most_loops m.stated.loops) b in
    let l = and_true (eqb m.used m.stated.vertices) (eqb m.most_places m.stated.places) k.0 in
    record {
      all_built = eqb-true _ _ h.0;
      no_loop = no_loops_lem m.loops (eqb-true _ _ h.1);
      vertices = eqb-true _ _ l.0;
      places = eqb-true _ _ l.1;
      loops = eqb-true _ _ k.1;
      fans = c;
    }))))

pub done_of_lem : (m : Machine) (x : Totals) → finishing m ≡ finished x → Done m
done_of_lem m x h = subst (Finished m) h (finished_of m)

-- a number below n is among those below n
up_has : (n c : ℕ) → c < n → has c (up_to n) ≡ true
up_has zero c h = absurd (omega arith)
up_has (suc n) c h = go (eqb c n) refl (up_has n c)
  where
    go : (t : Bool) → eqb c n ≡ t → (c < n → has c (up_to n) ≡ true) → has c (up_to n ++ (n ∷ [])) ≡ true
    go true e ih = has_last c n (up_to n) (eqb-true c n e)
    go false e ih = has_left c (up_to n) (n ∷ []) (ih (let k = ne e in omega arith))
      where
        ne : eqb c n ≡ false → c ≡ n → ⊥
        ne f q = false≢true (sym f ∙ eq-eqb c n q)

module _ (st : Counts) (os : List Operation) (m : Machine) (w : Works (empty st) os m) (range : in_range st ≡ true) (done : Done m) where
  same : m.stated ≡ st
  same = works_stated w

  -- the triangles in the order of building
  abbrev order : List Triangle
  order = (worked st os m w done.no_loop).order

  fan : (c : ℕ) → Neighbours order c
  fan c =
      fan_same m.triangles order c (in_order_lem st os m w done.no_loop) (works_facts st os m w done.no_loop).sub_r
      (fans_of m.used m.triangles (works_facts st os m w done.no_loop).once_m done.fans (works_below st os m w done.no_loop)
      c)

  abbrev Bounds : Type 0
  Bounds =
      (vertex_range st.vertices ≡ true) × ((1 ≤ st.triangles) × (st.triangles ≤ max_triangles)) × (st.places ≤ max_places)
      × (st.loops ≤ max_loops)

  bounds : Bounds
  bounds =
      let v = vertex_range st.vertices in
      let t = between 1 st.triangles max_triangles in
      let p = between min_places st.places max_places in
      let l = between 1 st.loops max_loops in
      let a = and_true (v && t && p) l range in
      let b = and_true (v && t) p a.0 in
      let c = and_true v t b.0 in
      let t2 = and_true (leb 1 st.triangles) (leb st.triangles max_triangles) c.1 in
      let p2 = and_true (leb min_places st.places) (leb st.places max_places) b.1 in
      let l2 = and_true (leb 1 st.loops) (leb st.loops max_loops) a.1 in
      (c.0, (leb-true _ _ t2.0, leb-true _ _ t2.1), leb-true _ _ p2.1, leb-true _ _ l2.1)

  -- packing gives the operations back
  pub packs_back : Repacked most os m
  packs_back = repacks st os m w done.no_loop most done.fans bounds.2 bounds.3

  whole : Complete (nothing_built most order) [] [] [] os packs_back.last
  unfolding Ends
  whole =
      subst (Ends (nothing_built most order) [] [] [])
      (ap (chosen_for most) (sym (works_order st os m w done.no_loop)) ∙ packs_back.packs)
      (packs_whole most order (works_facts st os m w done.no_loop).once fan)

  met : (c : ℕ) → c < m.used → Met c order
  met c l =
      let k = whole.fits.numbers.met c (subst (λ (vs : List ℕ). has c vs ≡ true) (sym packs_back.numbers) (up_has m.used c l)) in
      (k.0, k.1, complete_only most order os packs_back.last whole c k.0 k.1 k.2)

  numbers_order : numbers_of m.triangles ≡ numbers_in order
  unfolding numbers_of
  numbers_order = ap numbers_of (run_onto (worked st os m w done.no_loop).run) ∙ numbers_onto order []

  -- the list is accepted
  pub checks_back : check m.used (numbers_of m.triangles) ≡ Accepted
  checks_back =
      let n = run_count (worked st os m w done.no_loop).run in
      let e = done.all_built in
      let t : m.stated.triangles ≡ st.triangles = ap (λ (k : Counts). k.triangles) same in
      let v : st.vertices ≡ m.used = sym (done.vertices ∙ ap (λ (k : Counts). k.vertices) same) in
      let lo = bounds.1.0 in
      let hi = bounds.1.1 in
      subst (λ (xs : List ℕ). check m.used xs ≡ Accepted) (sym numbers_order)
      (check_holds m.used order (omega arith) (omega arith) (subst (λ (k : ℕ). vertex_range k ≡ true) v bounds.0)
      (works_facts st os m w done.no_loop).once fan
      (λ x y z i. works_below st os m w done.no_loop x y z ((works_facts st os m w done.no_loop).sub_r x y z i)) met)
