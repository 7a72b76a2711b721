-- Every list of operations that the machine accepts to completion, with one fan at each vertex, is the packer's: packing the
-- list that it has built, in the order of building, gives the same operations, peaks and numbers.
-- Assumes nothing.
use Prim.Native.Nat.{ℕ, ◌+◌, ◌*◌, ◌≤◌, ◌<◌}
use native.Mathlib.Omega.{arith}
use mathlib.Core.Bool.{true}
use mathlib.Core.List.{List, [], ◌∷◌, ◌++◌, append_assoc}
use mathlib.Core.Path.{◌≡◌, refl, sym, ap, ◌∙◌, subst}
use mathlib.Core.Logic.{◌⊎◌, inl, inr}
use lib.ListN.{length}
use Rattle.rules.specs.declared.Triangle.{Triangle}
use Rattle.rules.specs.declared.Counts.{Counts}
use Rattle.rules.specs.declared.Operation.{Operation}
use Rattle.rules.specs.Triangle.{triangles_of, In, here, there}
use Rattle.rules.specs.Fan.{one_fan_each}
use Rattle.rules.specs.Ring.{Ring, places}
use Rattle.rules.specs.Machine.{Machine, empty}
use Rattle.rules.specs.Choice.{Packing}
use Rattle.rules.specs.Pack.{chosen, Most, nothing_built, chosen_for}
use Rattle.rules.specs.Unpack.{numbers_of}
use Rattle.choice_theory.specs.Works.{Works}
use Rattle.choice_theory.proofs.Steps.Choosing.{onto}
use Rattle.choice_theory.proofs.Runs.Machine.{Run, r_done, r_start, r_build, r_border, Facts, facts, Choices, canonical_all}
use Rattle.choice_theory.proofs.Turning.Fans.{fans_of}
use Rattle.choice_theory.proofs.Runs.Whole.{fits_begin}
use Rattle.choice_theory.proofs.Runs.Tracking.{shown_places, shown_loops, peak, Within, numbering, up_to}
use Rattle.choice_theory.proofs.Runs.Following.{Followed, follow, run_length}
use Rattle.choice_theory.proofs.Runs.Working.{Worked, Ready, works, works_ready}

pub in_onto : (R B : List Triangle) (x y z : ℕ) → In x y z (onto R B) → In x y z R ⊎ In x y z B
in_onto [] B x y z i = inr i
in_onto (t ∷ R) B x y z i = go (in_onto R (t ∷ B) x y z i)
  where
    go : In x y z R ⊎ In x y z (t ∷ B) → In x y z (t ∷ R) ⊎ In x y z B
    go (inl j) = inl (there j)
    go (inr (here r)) = inl (here r)
    go (inr (there j)) = inr j

-- the triangles at the end, the latest first, are those of the run
pub run_onto : {M B : List Triangle} {rims ls : List Ring} {os : List Operation} {R : List Triangle} → Run M B rims ls os R → M ≡ onto R B
run_onto r_done = refl
run_onto (r_start np nq nr d run) = run_onto run
run_onto (r_build v s ra rb d new run) = run_onto run
run_onto (r_border v run) = run_onto run

-- as a list of numbers and back
abbrev pub numbers_in : List Triangle → List ℕ
numbers_in [] = []
numbers_in (t ∷ ts) = t.p ∷ (t.q ∷ (t.r ∷ numbers_in ts))

pub triangles_in : (ts : List Triangle) → triangles_of (numbers_in ts) ≡ ts
unfolding triangles_of
triangles_in [] = refl
triangles_in (t ∷ ts) = ap (λ (l : List Triangle). t ∷ l) (triangles_in ts)

pub numbers_onto : (R B : List Triangle) → numbers_of (onto R B) ≡ numbers_of B ++ numbers_in R
unfolding numbers_of
numbers_onto [] B = sym (append-nil (numbers_of B))
  where
    append-nil : (xs : List ℕ) → xs ++ [] ≡ xs
    append-nil [] = refl
    append-nil (x ∷ xs) = ap (λ (l : List ℕ). x ∷ l) (append-nil xs)
numbers_onto (t ∷ R) B = numbers_onto R (t ∷ B) ∙ append_assoc (numbers_of B) (t.p ∷ (t.q ∷ (t.r ∷ []))) (numbers_in R)

-- the list that an unpacking writes is in the order of building
pub built_order : (M R : List Triangle) → M ≡ onto R [] → triangles_of (numbers_of M) ≡ R
unfolding numbers_of
built_order M R h = ap (λ (l : List Triangle). triangles_of (numbers_of l)) h ∙ (ap triangles_of (numbers_onto R []) ∙ triangles_in R)

-- a limit may be higher
within_more : (w : List Ring → ℕ) (k l : ℕ) → k ≤ l
    → {M B : List Triangle} {rims ls : List Ring} {os : List Operation} {R : List Triangle} (run : Run M B rims ls os R)
    → Within w k run → Within w l run
within_more w k l h r_done c = tt
within_more w k l h (r_start np nq nr d run) c = (let b = c.0 in omega arith, within_more w k l h run c.1)
within_more w k l h (r_build v s ra rb d new run) c = (let b = c.0 in omega arith, within_more w k l h run c.1)
within_more w k l h (r_border v run) c = (let b = c.0 in omega arith, within_more w k l h run c.1)

pub ready_empty : (st : Counts) → Ready (empty st) [] []
ready_empty st = record { shows = refl; sound = λ x y. inl refl; good = tt; low = λ x y z i. elim i [ ]; rings = tt }

-- the packing of what the machine m has built by the operations os
pub record Repacked (h : Most) (os : List Operation) (m : Machine) : Type 0 where
  pub last : Packing
  pub packs : chosen_for h (triangles_of (numbers_of m.triangles)) ≡ chosen os last
  pub most_places_lem : last.most_places ≡ m.most_places
  pub most_loops_lem : last.most_loops ≡ m.most_loops
  -- each vertex keeps its number
  pub numbers : last.numbered ≡ up_to m.used

module _ (st : Counts) (os : List Operation) (m : Machine) (w : Works (empty st) os m) (done : m.loops ≡ []) where
  pub worked : Worked m (empty st) [] [] os
  worked = works w [] [] (ready_empty st) done

  pub works_facts : Facts m.triangles worked.order []
  works_facts = facts worked.run (λ x y. inl refl) tt

  pub works_below : (x y z : ℕ) → In x y z m.triangles → x < m.used
  works_below = (works_ready w [] [] (ready_empty st)).2.low

  pub works_order : triangles_of (numbers_of m.triangles) ≡ worked.order
  works_order = built_order m.triangles worked.order (run_onto worked.run)

  pub in_order_lem : (x y z : ℕ) → In x y z m.triangles → In x y z worked.order
  in_order_lem x y z i = go (in_onto worked.order [] x y z (subst (In x y z) (run_onto worked.run) i))
    where
      go : In x y z worked.order ⊎ In x y z [] → In x y z worked.order
      go (inl j) = j
      go (inr j) = elim j [ ]

  module _ (h : Most) (fans : one_fan_each m.used m.triangles ≡ true) (in_places : st.places ≤ h.places)
      (in_loops : st.loops ≤ h.loops) where
    choices : Choices worked.order worked.run
    choices =
        canonical_all m.triangles worked.order works_facts.once in_order_lem works_facts.sub_r
        (fans_of m.used m.triangles works_facts.once_m fans works_below)
        worked.run

    followed : Followed (nothing_built h worked.order) (4 * length worked.order + 1) os (peak shown_places 0 worked.run)
        (peak shown_loops 0 worked.run) (numbering [] worked.run)
    followed =
        follow (4 * length worked.order + 1) worked.run (nothing_built h worked.order) choices (λ x y. inl refl)
        (within_more shown_places st.places h.places in_places worked.run worked.in_places)
        (within_more shown_loops st.loops h.loops in_loops worked.run worked.in_loops)
        refl refl (fits_begin h worked.order works_facts.once).numbers (let k = run_length worked.run in omega arith)

    pub repacks : Repacked h os m
    repacks = record {
      last = followed.last;
      packs = ap (chosen_for h) works_order ∙ followed.does;
      most_places_lem = followed.most_places_lem ∙ sym worked.most_places_lem;
      most_loops_lem = followed.most_loops_lem ∙ sym worked.most_loops_lem;
      numbers = followed.numbers ∙ sym worked.numbers;
    }
