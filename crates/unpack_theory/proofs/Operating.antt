-- One law for each way through a step, as the code takes it: for each machine that is held.
-- Assumes nothing.
use Prim.Native.Nat.{ℕ, ◌+◌, ◌*◌, ◌≤◌, ◌<◌}
use native.Mathlib.Omega.{arith}
use mathlib.Core.Bool.{Bool, true, false}
use mathlib.Core.List.{List}
use mathlib.Core.Path.{◌≡◌, sym, ◌∙◌, subst}
use lib.ListN.{length}
use Rattle.rules.specs.declared.Operation.{Operation}
use Rattle.rules.specs.Limits.{max_places, max_vertices}
use Rattle.rules.specs.Code.{breaks_off, read, read_operation}
use Rattle.mesh_theory.specs.Chains.Linked.{relinked}
use Rattle.cutborder.specs.declared.Front.{Front}
use Rattle.cutborder.specs.declared.Plan.{Plan}
use Rattle.std.specs.Prelude.{Ok, Err}
use Rattle.rules.specs.declared.refusal.Refusal.{Refusal}
use Rattle.rules.specs.Refusal.{number_of}
use Rattle.cutborder.specs.declared.Action.TheVariants.{Builds, Marks}
use Rattle.border_theory.specs.Memory.Moves.{marked_held}
use Rattle.border_theory.specs.Memory.Decision.{Decided, decided, held_after, built_front, marked_front}
use Rattle.border_theory.specs.Memory.Keeps.{Ready}
use Rattle.unpack_theory.specs.Stepped.{Stepped, Going, Refused}
use Rattle.unpack_theory.specs.Met.{met_after}
use Rattle.rules.specs.Build.{with_triangle}
use Rattle.unpack_theory.specs.Runs.{Held, bits_from, Beyond, OperateOf, StepOf}
use Rattle.unpack_theory.specs.Rule.{RuleIs}
use Rattle.unpack_theory.proofs.Writing.{beyond_written}
use Rattle.unpack_theory.proofs.Stepping.{runs_ready, turn_broken, turn_refused, turn_ruled, turn_built, built_fits, built_few}
use Rattle.unpack_theory.proofs.Stepping.{built_third, turn_marked, marked_live}

pub held_ready : (s : Front) (ts m cs ks : List ℕ) → Held s ts m cs ks → Ready max_places s m
held_ready s ts m cs ks h = runs_ready h.machine s ts m cs ks h.runs

-- the operation breaks off, or is read
pub step_broken : (ops : List ℕ) (at : ℕ) (s : Front) (ts m cs ks : List ℕ) → read_operation (bits_from ops at) ≡ breaks_off
    → StepOf ops at s ts m cs ks (Refused 15) ts m cs ks
step_broken ops at s ts m cs ks e M g = turn_broken M s ts m cs ks g (bits_from ops at) e

pub step_read : (ops : List ℕ) (at : ℕ) (s : Front) (ts m cs ks : List ℕ) (o : Operation) (at' : ℕ) (r : Stepped) (ts' m' cs' ks' : List ℕ)
    → read_operation (bits_from ops at) ≡ read o (bits_from ops at') → OperateOf o at' s ts m cs ks r ts' m' cs' ks'
    → StepOf ops at s ts m cs ks r ts' m' cs' ks'
step_read ops at s ts m cs ks o at' r ts' m' cs' ks' e h M g = h M g (bits_from ops at) ops e

module _ (o : Operation) (at' : ℕ) (s : Front) (ts m cs ks : List ℕ) where
  pub operate_refused : (d : Decided) (k : Refusal) → d ≡ decided max_places s m o → d ≡ Err k
      → OperateOf o at' s ts m cs ks (Refused (number_of k)) ts m cs ks
  operate_refused d k i e M g xs ops reads = turn_refused M s ts m cs ks g xs (bits_from ops at') o reads k (sym i ∙ e)

  pub decided_builds : (d : Decided) (p : Plan) → d ≡ decided max_places s m o → d ≡ Ok (Builds p)
      → decided max_places s m o ≡ Ok (Builds p)
  decided_builds d p i e = sym i ∙ e

  module _ (d : Decided) (x y : ℕ) (i : d ≡ decided max_places s m o) (e : d ≡ Ok (Marks x y)) where
    pub operate_live : Held s ts m cs ks → s.loops.live ≡ 0 → ⊥
    operate_live h = marked_live h.machine s ts m cs ks h.runs o x y (sym i ∙ e)

    pub operate_marked : (s' : Front) → s' ≡ marked_front max_places s (marked_held max_places s.loops m).loops → (m' : List ℕ)
        → m' ≡ (marked_held max_places s.loops m).memory → OperateOf o at' s ts m cs ks (Going s' at') ts m' cs ks
    operate_marked s' es m' em M g xs ops reads = turn_marked M s ts m cs ks g o x y (sym i ∙ e) xs ops at' reads s' es m' em

  module _ (p : Plan) (e : decided max_places s m o ≡ Ok (Builds p)) (b : Bool) (r : RuleIs ts cs o p b) where
    pub operate_ruled : b ≡ false → OperateOf o at' s ts m cs ks (Refused 18) ts m cs ks
    operate_ruled h M g xs ops reads = turn_ruled M s ts m cs ks g xs (bits_from ops at') o reads p e b r h

    module _ (h : b ≡ true) where
      pub operate_room : Held s ts m cs ks → (3 * s.built + 3 ≤ length ts) × (s.built < 8192)
      operate_room w =
          let f = built_fits w.machine s ts m cs ks w.runs o p e b r h in
          (omega (arith, f, w.runs.room), built_few w.machine s ts m cs ks w.runs o p e b r h)

      pub operate_third : Held s ts m cs ks → p.triangle.r < max_vertices
      operate_third w = built_third w.machine s ts m cs ks w.runs o p e b r h

      pub operate_beyond : Held s ts m cs ks → (ts' : List ℕ) → ts' ≡ with_triangle s.built p.triangle ts → Beyond s.stated ts ts'
      operate_beyond w ts' et =
          subst (Beyond s.stated ts) (sym et)
          (beyond_written ts s.built p.triangle (operate_room w).0 s.stated
          (built_fits w.machine s ts m cs ks w.runs o p e b r h))

      pub operate_built : (s' : Front) → s' ≡ built_front max_places s p (held_after max_places s m o p).loops → (ts' : List ℕ)
          → ts' ≡ with_triangle s.built p.triangle ts → (m' : List ℕ) → m' ≡ (held_after max_places s m o p).memory → (cs' : List ℕ)
          → cs' ≡ relinked cs s.built p.triangle.p p.triangle.q p.triangle.r → (ks' : List ℕ)
          → ks' ≡ met_after ks o p.triangle.r
          → OperateOf o at' s ts m cs ks (Going s' at') ts' m' cs' ks'
      operate_built s' es ts' et m' em cs' ec ks' ek M g xs ops reads =
          turn_built M s ts m cs ks g o p e b r h xs ops at' reads s' es ts' et m' em cs' ec ks' ek
