-- The end of a run: the model is complete; 19, 20, or the answer and the triangles as built.
-- Assumes nothing.
use Prim.Native.Nat.{ℕ, ◌*◌, ◌/◌, ◌<◌}
use native.Mathlib.Omega.{arith}
use mathlib.Core.Bool.{Bool, true, false, ◌&&◌}
use mathlib.Core.List.{List, ◌++◌}
use mathlib.Core.Path.{◌≡◌, sym, ap, ap₂, ◌∙◌, subst}
use lib.ListN.{length, get_or, take, drop, take-append-drop}
use lib.Seq.{length-take-le, get_or-take}
use lib.Dec.{eqb}
use borrow.Author.Tests.{eqb-true}
use Rattle.rules.specs.declared.Counts.{Counts}
use Rattle.rules.specs.declared.Totals.{Totals}
use Rattle.rules.specs.Limits.{max_vertices, in_range}
use Rattle.rules.specs.Triangle.{triangles_of}
use Rattle.rules.specs.Fan.{about, one_run, one_fan_each}
use Rattle.rules.specs.Machine.{Machine, complete, as_stated, totals}
use Rattle.rules.specs.Answer.{Answer, refusal, unpacked}
use Rattle.rules.specs.Buffer.{over}
use Rattle.rules.specs.Unpack.{numbers_of}
use Rattle.book.proofs.Bounds.{bounded_ranges}
use Rattle.mesh_theory.specs.Chains.Linked.{Linked}
use Rattle.mesh_theory.proofs.Chains.Linking.{chains_same}
use Rattle.cutborder.specs.declared.Front.{Front}
use Rattle.border_theory.proofs.Memory.Finish.{totals_same}
use Rattle.choice_theory.proofs.OneFan.Unmet.{fanned_one_run}
use Rattle.unpack_theory.specs.Runs.{Runs, model_answer, end_by, end_answer, Beyond}
use Rattle.unpack_theory.proofs.Meeting.{zero_unmet}
use Rattle.counting.proofs.Bools.{and_left}
use Rattle.counting.proofs.Ranges.{in_range_lem, InRange}
use Rattle.mesh_theory.proofs.Chains.Prefix.{length_numbers}
use Rattle.mesh_theory.proofs.Chains.Order.{built_different, built_once, fan_built, same_fans}

-- the answer of a complete machine, by the tests
module _ (c : Counts) (M : Machine) (rest : Bool) where
  abbrev answer : Answer
  answer = unpacked (record { vertices = c.vertices; triangles = c.triangles; totals = totals M })

  pub end_19 : (b : Bool) → rest && as_stated M ≡ b → b ≡ false → refusal 19 ≡ end_answer c M rest
  end_19 b h i = sym (ap (λ (a : Bool). end_by a (one_fan_each M.used M.triangles) answer) (h ∙ i))

  pub end_20 : rest && as_stated M ≡ true → one_fan_each M.used M.triangles ≡ false → refusal 20 ≡ end_answer c M rest
  end_20 h k = sym (ap₂ (λ (a b : Bool). end_by a b answer) h k)

  pub end_done : rest && as_stated M ≡ true → one_fan_each M.used M.triangles ≡ true → answer ≡ end_answer c M rest
  end_done h k = sym (ap₂ (λ (a b : Bool). end_by a b answer) h k)

-- a complete model in the buffer
module _ (M : Machine) (s : Front) (ts m cs ks : List ℕ) (g : Runs M s ts m cs ks) (all : complete M ≡ true) where
  all_built : s.built ≡ s.stated.triangles
  all_built =
      omega (
        arith,
        eqb-true (length M.triangles) M.stated.triangles
            (and_left (eqb (length M.triangles) M.stated.triangles) (eqb (length M.loops) 0) all),
        g.keeps.triangles,
        ap (λ (c : Counts). c.triangles) g.keeps.stated,
      )

  pub whole_built : s.built ≡ s.stated.triangles
  whole_built = all_built

  counts : InRange s.stated
  counts =
      in_range_lem s.stated
      (subst (λ (c : Counts). in_range c ≡ true) g.keeps.stated
      (bounded_ranges (record { machine = M; borders = g.borders }) g.bounded).stated)

  list_long : length (take (3 * s.built) ts) ≡ 3 * s.built
  list_long = length-take-le (3 * s.built) ts (omega (arith, all_built, g.room))

  list_third : length (take (3 * s.built) ts) / 3 ≡ s.built
  list_third = omega (arith, list_long)

  -- the part of the buffer that holds the triangles, as a list that can be tested for fans
  pub whole_linked : Linked (take (3 * s.built) ts) cs
  whole_linked =
      let e : 3 * (length (take (3 * s.built) ts) / 3) ≡ 3 * s.built = omega (arith, list_third) in
      record {
        sound = record {
          long = omega (arith, list_long, list_third);
          most = omega (arith, list_long, all_built, counts.triangles);
          below = λ c l.
              subst (λ (x : ℕ). x < max_vertices) (sym (get_or-take (3 * s.built) ts c 0 (omega (arith, list_long))))
              (g.chains.below c (omega (arith, list_long)));
          distinct = rw g.numbers (built_different M.triangles g.consistent.once g.consistent.proper);
        };
        once = rw g.numbers (built_once M.triangles g.consistent.once g.consistent.proper);
        chains =
            rw e
            (chains_same ts (take (3 * s.built) ts) (3 * s.built) cs (omega (arith, list_long))
            (λ c l. sym (get_or-take (3 * s.built) ts c 0 l)) g.chains);
      }

  pub whole_fans : (v : ℕ) → v ≡ s.used → one_fan_each v (triangles_of (take (3 * s.built) ts)) ≡ one_fan_each M.used M.triangles
  whole_fans v e =
      ap₂ (λ (u : ℕ) (xs : List ℕ). one_fan_each u (triangles_of xs)) (e ∙ sym g.keeps.used) g.numbers
      ∙ same_fans M.triangles g.consistent.once g.consistent.proper M.used

  -- a vertex that is not noted as met has one fan
  pub whole_unmet : (u : ℕ) → get_or ks u 0 ≡ 0 → one_run (about u (triangles_of (take (3 * s.built) ts))) ≡ true
  whole_unmet u z =
      ap (λ (xs : List ℕ). one_run (about u (triangles_of xs))) g.numbers
      ∙ fan_built M.triangles g.consistent.once g.consistent.proper u
      (fanned_one_run g.consistent g.fanned u (zero_unmet ks u z))

  pub whole_model : unpacked (record { vertices = s.stated.vertices; triangles = s.stated.triangles; totals = totals M })
      ≡ model_answer s
  whole_model =
      ap (λ (x : Totals). unpacked (record { vertices = s.stated.vertices; triangles = s.stated.triangles; totals = x }))
      (totals_same _ s m M g.keeps)

  -- the buffer after an accepted unpacking
  pub whole_over : (ts₀ : List ℕ) → Beyond s.stated ts₀ ts → ts ≡ over (numbers_of M.triangles) ts₀
  whole_over ts₀ b =
      let k = 3 * s.stated.triangles in
      let e : 3 * s.built ≡ k = omega (arith, all_built) in
      let l : k ≡ length (numbers_of M.triangles) = omega (arith, length_numbers M.triangles, g.keeps.triangles, all_built) in
      sym (take-append-drop k ts) ∙ ap₂ ◌++◌ (ap (λ (i : ℕ). take i ts) (sym e) ∙ g.numbers) (b ∙ ap (λ (i : ℕ). drop i ts₀) l)
