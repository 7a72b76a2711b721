-- 19, 20 and the answer: one law for each way through.
-- Assumes nothing.
use Prim.Native.Nat.{ℕ, ◌*◌, ◌≤◌, ◌<◌}
use native.Mathlib.Omega.{arith}
use mathlib.Core.Bool.{Bool, true, false, ◌&&◌}
use mathlib.Core.List.{List}
use mathlib.Core.Path.{◌≡◌, refl, sym, ap, ap₂, ◌∙◌, subst}
use lib.ListN.{length, get_or, take}
use lib.Seq.{length-take-le}
use Rattle.rules.specs.declared.Model.{Model}
use Rattle.rules.specs.Limits.{max_vertices}
use Rattle.rules.specs.Triangle.{triangles_of}
use Rattle.rules.specs.Fan.{about, one_run, one_fan_each}
use Rattle.rules.specs.Machine.{Machine, as_stated}
use Rattle.rules.specs.Answer.{refusal, unpacked}
use Rattle.rules.specs.Unpack.{rest_fits}
use Rattle.mesh_theory.specs.Chains.Linked.{Linked}
use Rattle.cutborder.specs.declared.Front.{Front}
use Rattle.unpack_theory.specs.Runs.{Runs, model_answer, Whole, Concludes, bits_from}
use Rattle.border_theory.specs.Memory.Finish.{is_as_stated}
use Rattle.unpack_theory.proofs.Ending.{end_19, end_20, end_done, whole_built, whole_linked, whole_fans, whole_unmet}
use Rattle.border_theory.proofs.Memory.Finish.{stated_same}
use Rattle.unpack_theory.proofs.Ending.{whole_model}
use Rattle.unpack_theory.proofs.Stepping.{runs_ready}

-- what the code needs of a complete model
module _ (s : Front) (ts cs ks : List ℕ) (w : Whole s ts cs ks) where
  pub part_long : 3 * s.built ≤ length ts
  part_long = omega (arith, w.runs.room, whole_built w.machine s ts w.memory cs ks w.runs w.complete)

  pub part_length : (n : ℕ) → n ≡ 3 * s.built → n ≡ length (take n ts)
  part_length n e = sym (length-take-le n ts (omega (arith, part_long)))

  pub part_linked : (n : ℕ) → n ≡ 3 * s.built → Linked (take n ts) cs
  part_linked n e = subst (λ (k : ℕ). Linked (take k ts) cs) (sym e)
      (whole_linked w.machine s ts w.memory cs ks w.runs w.complete)

  -- a vertex that is not noted as met has one fan
  pub part_unmet : (n : ℕ) → n ≡ 3 * s.built → (v u : ℕ) → u < v → get_or ks u 0 ≡ 0 → one_run (about u (triangles_of (take n ts))) ≡ true
  part_unmet n e v u l z =
      subst (λ (k : ℕ). one_run (about u (triangles_of (take k ts))) ≡ true) (sym e)
      (whole_unmet w.machine s ts w.memory cs ks w.runs w.complete u z)

  pub used_most : s.used ≤ max_vertices
  used_most = (runs_ready w.machine s ts w.memory cs ks w.runs).used

module _ (ops : List ℕ) (at : ℕ) (s : Front) (ts cs ks : List ℕ) where
  pub concludes_rest : (a : Bool) → a ≡ rest_fits (bits_from ops at) → a ≡ false → Concludes ops at s ts cs ks (refusal 19)
  concludes_rest a e h M m g all =
      end_19 s.stated M (rest_fits (bits_from ops at)) _ refl (ap (λ (b : Bool). b && as_stated M) (sym e ∙ h))

  module _ (a : Bool) (e : a ≡ rest_fits (bits_from ops at)) (h : a ≡ true) (b : Bool) (f : b ≡ is_as_stated s) where
    pub concludes_stated : b ≡ false → Concludes ops at s ts cs ks (refusal 19)
    concludes_stated i M m g all =
        end_19 s.stated M (rest_fits (bits_from ops at)) _ refl
        (ap₂ ◌&&◌ (sym e ∙ h) (stated_same _ s m M g.keeps ∙ sym f ∙ i))

    module _ (i : b ≡ true) (n v : ℕ) (en : n ≡ 3 * s.built) (ev : v ≡ s.used) (c : Bool)
        (fans : c ≡ one_fan_each v (triangles_of (take n ts))) where
      both : (M : Machine) (m : List ℕ) → Runs M s ts m cs ks → rest_fits (bits_from ops at) && as_stated M ≡ true
      both M m g = ap₂ ◌&&◌ (sym e ∙ h) (stated_same _ s m M g.keeps ∙ sym f ∙ i)

      fan_test : (M : Machine) (m : List ℕ) → Runs M s ts m cs ks → Rattle.rules.specs.Machine.complete M ≡ true
          → one_fan_each M.used M.triangles ≡ c
      fan_test M m g all =
          sym (fans ∙ ap (λ (k : ℕ). one_fan_each v (triangles_of (take k ts))) en ∙ whole_fans M s ts m cs ks g all v ev)

      pub concludes_fans : c ≡ false → Concludes ops at s ts cs ks (refusal 20)
      concludes_fans j M m g all = end_20 s.stated M (rest_fits (bits_from ops at)) (both M m g) (fan_test M m g all ∙ j)

      pub concludes_done : c ≡ true → (x : Model) → unpacked x ≡ model_answer s → Concludes ops at s ts cs ks (unpacked x)
      concludes_done j x q M m g all =
          q ∙ sym (whole_model M s ts m cs ks g all)
          ∙ end_done s.stated M (rest_fits (bits_from ops at)) (both M m g) (fan_test M m g all ∙ j)
