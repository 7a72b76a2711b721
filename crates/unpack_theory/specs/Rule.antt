-- The edge rule, tested by the corner chains.
-- Assumes nothing.
use Rattle.std.specs.Prelude.{ℕ, ◌*◌, Bool, true, false, List, ◌≡◌}
use Rattle.rules.specs.declared.Triangle.{Triangle}
use Rattle.rules.specs.declared.Operation.{Operation}
use Rattle.rules.specs.declared.Operation.TheVariants.{New, Forward, Backward, Border, Split, Close, Union, Start}
use Rattle.rules.specs.Table.{side_rule, edge_rule}
use Rattle.mesh_theory.specs.Chains.Corner.{first_triangles}
use Rattle.mesh_theory.specs.Chains.Linked.{Chains}
use Rattle.cutborder.specs.declared.Plan.{Plan}
use Rattle.border_theory.specs.Memory.Decision.{side_of}

-- it is tested where it can fail: it holds at start, new, close and border
abbrev pub is_tested : Operation → Bool
is_tested New = false
is_tested Forward = true
is_tested Backward = true
is_tested Border = false
is_tested (Split i) = true
is_tested Close = false
is_tested (Union k j) = true
is_tested Start = false

-- the rule for a plan
abbrev pub plan_rule : Plan → List Triangle → Bool
plan_rule p us = edge_rule p.triangle (side_of p.pq) (side_of p.qr) (side_of p.rp) us

abbrev pub ruled_by : Bool → Bool → Bool
ruled_by true b = b
ruled_by false b = true

abbrev pub rule_at : Operation → Plan → List Triangle → Bool
rule_at o p us = ruled_by (is_tested o) (plan_rule p us)

-- whether a side of a plan passes
abbrev pub SideIs : List ℕ → List ℕ → ℕ → ℕ → ℕ → Bool → Type 0
SideIs xs cs k x y b = (n : ℕ) → Chains xs (3 * n) cs → (x ≡ y → ⊥) → b ≡ side_rule (side_of k) x y (first_triangles n xs)

-- whether the whole plan does
abbrev pub PlanIs : List ℕ → List ℕ → Plan → Bool → Type 0
PlanIs xs cs p b = (n : ℕ) → Chains xs (3 * n) cs → b ≡ plan_rule p (first_triangles n xs)

abbrev pub RuleIs : List ℕ → List ℕ → Operation → Plan → Bool → Type 0
RuleIs xs cs o p b = (n : ℕ) → Chains xs (3 * n) cs → b ≡ rule_at o p (first_triangles n xs)
