-- What is decided in two steps.
-- Assumes nothing.
use Prim.Native.Nat.{ℕ}
use mathlib.Core.List.{List}
use mathlib.Core.Path.{◌≡◌, ap, ◌∙◌}
use Rattle.rules.specs.declared.Operation.{Operation}
use Rattle.cutborder.specs.declared.Front.{Front}
use Rattle.border_theory.specs.Memory.Decision.{Decided, proposed_at, proposed, decided_by, decided}

pub decided_by_lem : (n : ℕ) (s : Front) (m : List ℕ) (o : Operation) (d r : Decided) → d ≡ proposed_at n s.loops m s.used o
    → r ≡ decided_by n s d → r ≡ decided n s m o
unfolding decided proposed
decided_by_lem n s m o d r e h = h ∙ ap (decided_by n s) e
