-- Vertices that no split and no union has met have one fan.
use Rattle.std.specs.Prelude.{ℕ, Bool, true, false, ◌||◌, List, ◌≡◌}
use Rattle.rules.specs.declared.Counts.{Counts}
use Rattle.rules.specs.declared.Operation.{Operation}
use Rattle.rules.specs.Fan.{about, one_run}
use Rattle.rules.specs.Machine.{Machine, empty}
use Rattle.choice_theory.specs.Works.{Works, w_none, w_built, w_declared}
use Rattle.choice_theory.specs.Met.{met_by}

abbrev pub met_in : {m n : Machine} {os : List Operation} → Works m os n → ℕ → Bool
met_in w_none v = false
met_in (w_built {o = o} {t = t} e w) v = met_by o t v || met_in w v
met_in (w_declared e w) v = met_in w v

abbrev pub UnmetHaveOneFan : Type 0
UnmetHaveOneFan = (c : Counts) (os : List Operation) (M : Machine) (w : Works (empty c) os M) (v : ℕ) → met_in w v ≡ false
    → one_run (about v M.triangles) ≡ true
