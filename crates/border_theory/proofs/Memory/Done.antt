-- Laws over plain lists and numbers that the functions' proofs cite: the operations done, and the counts.
-- Assumes nothing.
use Prim.Native.Nat.{ℕ, ◌+◌, ◌≤◌}
use mathlib.Core.List.{List}
use mathlib.Core.Path.{◌≡◌, sym, ap, ◌∙◌, subst}
use Rattle.rules.specs.declared.Operation.{Operation}
use Rattle.cutborder.specs.declared.Loops.{Loops}
use Rattle.cutborder.specs.declared.Front.{Front}
use Rattle.cutborder.specs.declared.Plan.{Plan}
use Rattle.cutborder.specs.declared.Action.TheVariants.{Builds}
use Rattle.std.specs.Prelude.{Ok}
use Rattle.border_theory.specs.Memory.Moves.{marked_held}
use Rattle.border_theory.specs.Memory.Decision.{decided, held_after, built_front}
use Rattle.border_theory.specs.Memory.Keeps.{Ready}
use Rattle.border_theory.specs.Memory.Performs.{Counts16}
use Rattle.border_theory.proofs.Memory.Ready.{ready_borders}
use Rattle.border_theory.proofs.Memory.Performed.{counts16, marked_free, marked_live, marked_less}

pub built_counts : (n : ℕ) (s : Front) (m : List ℕ) (o : Operation) (p : Plan) (l : Loops) → Ready n s m × (decided n s m o ≡ Ok (Builds p))
    → l ≡ (held_after n s m o p).loops → Counts16 n s p l
built_counts n s m o p l r e = subst (Counts16 n s p) (sym e) (counts16 n s m o p r.0 r.1)

pub built_state : (n : ℕ) (s : Front) (m : List ℕ) (o : Operation) (p : Plan) (l : Loops) (m₁ : List ℕ) (r : Front)
    → (l ≡ (held_after n s m o p).loops) × (m₁ ≡ (held_after n s m o p).memory) → r ≡ built_front n s p l
    → (r ≡ built_front n s p (held_after n s m o p).loops) × (m₁ ≡ (held_after n s m o p).memory)
built_state n s m o p l m₁ r h e = (e ∙ ap (built_front n s p) h.0, h.1)

pub marked_counts : (n : ℕ) (s : Front) (m : List ℕ) (l : Loops) → Ready n s m × (s.loops.live ≡ 0 → ⊥)
    → l ≡ (marked_held n s.loops m).loops
    → (n ≤ 1024) × (l.free ≤ n) × (l.live ≤ s.loops.live) × (s.loops.live ≤ l.live + 1) × (s.rims ≤ 24576)
marked_counts n s m l r e =
    rw e (
      r.0.roomy.few,
      marked_free n s.loops m (ready_borders n s m r.0 r.1),
      marked_live n s.loops m,
      marked_less n s.loops m,
      r.0.rims,
    )
