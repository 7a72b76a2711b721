-- The operations of a packing, run by the machine from the counts that the pack states, build the list's triangles again, each
-- vertex under its new number, and come to the counts stated.
-- Assumes nothing.
use Prim.Native.Nat.{ℕ}
use native.Mathlib.Omega.{arith}
use mathlib.Core.List.{List, []}
use mathlib.Core.Bool.{true}
use mathlib.Core.Logic.{inl}
use mathlib.Core.Path.{◌≡◌, refl, sym, ap, ◌∙◌, subst}
use lib.ListN.{length}
use Rattle.rules.specs.declared.Triangle.{Triangle}
use Rattle.rules.specs.declared.Counts.{Counts}
use Rattle.rules.specs.declared.Operation.{Operation}
use Rattle.rules.specs.Checked.{Accepted}
use Rattle.rules.specs.Triangle.{triangles_of}
use Rattle.rules.specs.Check.{check}
use Rattle.rules.specs.Ring.{places}
use Rattle.rules.specs.Fan.{one_fan_each}
use Rattle.rules.specs.Machine.{empty, finished, totals, finishing}
use Rattle.rules.specs.Choice.{Packing}
use Rattle.rules.specs.Pack.{chosen, Most, nothing_built, chosen_for, index_of}
use Rattle.mesh_theory.specs.Fans.Corner.{Once}
use Rattle.rules.specs.Fan.{Neighbours}
use Rattle.choice_theory.proofs.Runs.Machine.{facts}
use Rattle.choice_theory.proofs.Places.Numbering.{Met, index_tells}
use Rattle.choice_theory.proofs.Places.Distinct.{all_once}
use Rattle.choice_theory.proofs.Runs.Tracking.{shown_places, shown_loops, peak_within, numbering}
use Rattle.choice_theory.proofs.Runs.Whole.{Complete, Ends, complete_all, complete_only}
use Rattle.choice_theory.proofs.Places.Renaming.{triangles, length_triangles}
use Rattle.choice_theory.proofs.Runs.Unpacking.{Reached, reach, run_count}
use Rattle.choice_theory.proofs.Turning.Fans.{fan_same}
use Rattle.choice_theory.proofs.Runs.Finishing.{fans_hold, finishes}
use Rattle.choice_theory.proofs.Runs.Accepted.{Packable, accepted_packs}

-- the counts that the pack of a list states
abbrev pub stated_by : ℕ → List Triangle → Packing → Counts
stated_by v ts s = record { vertices = v; triangles = length ts; places = s.most_places; loops = s.most_loops }

-- the new number of a vertex
abbrev pub new_number : Packing → ℕ → ℕ
new_number s x = index_of x s.numbered

module _ (h : Most) (v : ℕ) (ts : List Triangle) (ok : Packable v ts) (os : List Operation) (s : Packing)
    (c : Complete (nothing_built h ts) [] [] [] os s) where
  met_built : (x : ℕ) → Met x ts → Met x c.built
  met_built x m = (m.0, m.1, complete_all h ts os s c x m.0 m.1 m.2)

  -- every vertex has a number, and no other number is given
  pub numbered_all : length s.numbered ≡ v
  numbered_all =
      all_once v s.numbered c.fits.distinct (λ x l. c.fits.numbers.numbered x (met_built x (ok.met x l)))
      (λ x g. (let m = c.fits.numbers.met x g in ok.below x m.0 m.1 (complete_only h ts os s c x m.0 m.1 m.2)))

  -- different vertices have different numbers
  pub numbers_tell : (x y : ℕ) → Met x c.built → new_number s x ≡ new_number s y → x ≡ y
  numbers_tell x y m e = index_tells x y s.numbered (c.fits.numbers.numbered x m) e

  pub unpacks : Reached (new_number s) c.built numbers_tell (empty (stated_by v ts s)) os v s.most_places s.most_loops
  unpacks =
      let r = c.runs in
      let n : length (numbering [] r.run) ≡ v = ap length (sym r.numbers) ∙ numbered_all in
      let w =
      reach (new_number s) c.built numbers_tell r.run (empty (stated_by v ts s)) [] refl refl refl r.agrees (omega arith)
      (let k = r.count in omega arith)
      (peak_within shown_places 0 s.most_places r.run (let k = r.most_places_lem in omega arith))
      (peak_within shown_loops 0 s.most_loops r.run (let k = r.most_loops_lem in omega arith)) in
      record {
        end = w.end;
        works = w.works;
        all_built = w.all_built;
        no_loop = w.no_loop;
        used = w.used ∙ n;
        most_places_lem = w.most_places_lem ∙ sym r.most_places_lem;
        most_loops_lem = w.most_loops_lem ∙ sym r.most_loops_lem;
        stated = w.stated;
      }

  once_built : Once c.built
  once_built = (facts c.runs.run (λ x y. inl refl) tt).once_m

  fan_built : (x : ℕ) → Neighbours c.built x
  fan_built x = fan_same ts c.built x (complete_all h ts os s c) (complete_only h ts os s c) (ok.fans x)

  -- and the machine's finish gives its numbers
  pub unpack_finishes : finishing unpacks.end ≡ finished (totals unpacks.end)
  unpack_finishes =
      let r = unpacks in
      let st = stated_by v ts s in
      let a = run_count c.runs.run in
      let b = c.runs.count in
      let l = length_triangles (new_number s) c.built in
      let e : length r.end.triangles ≡ length (triangles (new_number s) c.built) = ap length r.all_built in
      let t : r.end.stated.triangles ≡ length ts = ap (λ (k : Counts). k.triangles) r.stated in
      finishes r.end (omega arith) r.no_loop (r.used ∙ sym (ap (λ (k : Counts). k.vertices) r.stated))
      (r.most_places_lem ∙ sym (ap (λ (k : Counts). k.places) r.stated)) (r.most_loops_lem ∙ sym (ap (λ (k : Counts). k.loops) r.stated))
      (subst (λ (k : List Triangle). one_fan_each r.end.used k ≡ true) (sym r.all_built)
      (fans_hold (new_number s) c.built numbers_tell r.end.used once_built fan_built))

-- an accepted list whose packing is not stopped by 9 or 10
pub accepted_complete : (h : Most) (v : ℕ) (xs : List ℕ) (os : List Operation) (s : Packing) → check v xs ≡ Accepted
    → chosen_for h (triangles_of xs) ≡ chosen os s → Complete (nothing_built h (triangles_of xs)) [] [] [] os s
unfolding Ends
accepted_complete h v xs os s a e = subst (Ends (nothing_built h (triangles_of xs)) [] [] []) e (accepted_packs h v xs a)
