-- The edge rule by look-ups: one law for each way through its test.
-- Assumes nothing.
use Prim.Native.Nat.{ℕ, zero, suc, ◌*◌}
use mathlib.Core.Bool.{Bool, true, false, ◌&&◌, not}
use mathlib.Core.List.{List}
use mathlib.Core.Path.{◌≡◌, refl, sym, ap, ap₂, ◌∙◌}
use borrow.Author.Tests.{not-true, not-false}
use Rattle.rules.specs.declared.Triangle.{Triangle}
use Rattle.rules.specs.declared.Operation.{Operation}
use Rattle.rules.specs.Triangle.{distinct}
use Rattle.rules.specs.Table.{side_rule}
use Rattle.mesh_theory.specs.Fans.Corner.{Different}
use Rattle.mesh_theory.proofs.Fans.Tests.{distinct_different}
use Rattle.mesh_theory.specs.Chains.Corner.{first_triangles}
use Rattle.mesh_theory.specs.Chains.Linked.{Chains, UnjoinedIs}
use Rattle.cutborder.specs.declared.Plan.{Plan}
use Rattle.border_theory.specs.Memory.Decision.{side_of}
use Rattle.unpack_theory.specs.Rule.{is_tested, plan_rule, ruled_by, SideIs, PlanIs, RuleIs}

module _ (xs cs : List ℕ) (x y : ℕ) where
  pub side_glued : (k : ℕ) → k ≡ 0 → SideIs xs cs k x y true
  side_glued k e n h d = sym (ap (λ (j : ℕ). side_rule (side_of j) x y (first_triangles n xs)) e)

  pub side_fresh : (k : ℕ) (b : Bool) → (k ≡ 0 → ⊥) → UnjoinedIs xs cs x y b → SideIs xs cs k x y b
  side_fresh zero b h u n c d = absurd (h refl)
  side_fresh (suc k) b h u n c d = u n c d

-- the tests of a plan, one after the other
module _ (xs cs : List ℕ) (p : Plan) where
  abbrev t : Triangle
  t = p.triangle

  pub plan_same : (a : Bool) → a ≡ distinct p.triangle → not a ≡ true → PlanIs xs cs p false
  plan_same a d h n k =
      let us = first_triangles n xs in
      sym (ap (λ (b : Bool). b && side_rule (side_of p.pq) t.p t.q us && side_rule (side_of p.qr) t.q t.r us
      && side_rule (side_of p.rp) t.r t.p us)
      (sym d ∙ not-true a h))

  module _ (a : Bool) (d : a ≡ distinct p.triangle) (h : not a ≡ false) where
    apart : distinct p.triangle ≡ true
    apart = sym d ∙ not-false a h

    differ : Different t.p t.q t.r
    differ = (distinct_different t).0 apart

    -- one side after the other
    rest_1 : (n : ℕ) (b : Bool) → side_rule (side_of p.pq) t.p t.q (first_triangles n xs) ≡ b
        → plan_rule p (first_triangles n xs) ≡ b && side_rule (side_of p.qr) t.q t.r (first_triangles n xs)
        && side_rule (side_of p.rp) t.r t.p (first_triangles n xs)
    rest_1 n b e =
        ap₂ (λ (u v : Bool). u && v && side_rule (side_of p.qr) t.q t.r (first_triangles n xs)
        && side_rule (side_of p.rp) t.r t.p (first_triangles n xs)) apart e

    pub plan_pq : (b : Bool) → SideIs xs cs p.pq t.p t.q b → not b ≡ true → PlanIs xs cs p false
    plan_pq b s i n k = sym (rest_1 n false (sym (s n k differ.x_y) ∙ not-true b i))

    module _ (b : Bool) (s : SideIs xs cs p.pq t.p t.q b) (i : not b ≡ false) where
      rest_2 : (n : ℕ) → Chains xs (3 * n) cs → (c : Bool) → side_rule (side_of p.qr) t.q t.r (first_triangles n xs) ≡ c
          → plan_rule p (first_triangles n xs) ≡ c && side_rule (side_of p.rp) t.r t.p (first_triangles n xs)
      rest_2 n k c e =
          rest_1 n true (sym (s n k differ.x_y) ∙ not-false b i)
          ∙ ap (λ (u : Bool). u && side_rule (side_of p.rp) t.r t.p (first_triangles n xs)) e

      pub plan_qr : (c : Bool) → SideIs xs cs p.qr t.q t.r c → not c ≡ true → PlanIs xs cs p false
      plan_qr c v j n k = sym (rest_2 n k false (sym (v n k differ.y_z) ∙ not-true c j))

      pub plan_rp : (c e : Bool) → SideIs xs cs p.qr t.q t.r c → not c ≡ false → SideIs xs cs p.rp t.r t.p e
          → PlanIs xs cs p e
      plan_rp c e v j w n k = w n k differ.z_x ∙ sym (rest_2 n k true (sym (v n k differ.y_z) ∙ not-false c j))
