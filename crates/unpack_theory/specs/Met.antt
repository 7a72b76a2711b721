-- The vertices that a run has met, noted in a list of numbers: the entry of vertex v stands at v, and is 0 until v is met.
-- Assumes nothing.
use Rattle.std.specs.Prelude.{ℕ, Bool, true, false, not, List, get_or, set, eqb}
use Rattle.rules.specs.declared.Operation.{Operation}
pub use Rattle.choice_theory.specs.Met.{is_meeting}

-- v is noted as met
abbrev pub is_met_in : List ℕ → ℕ → Bool
is_met_in ks v = not (eqb (get_or ks v 0) 0)

-- what is noted after the operation o, whose triangle has the third corner v
unfoldable pub met_after : List ℕ → Operation → ℕ → List ℕ
met_after ks o v = elim (is_meeting o) [ true ↦ set ks v 1 | false ↦ ks ]
