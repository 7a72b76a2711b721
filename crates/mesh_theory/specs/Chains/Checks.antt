-- Parts of `check`, one for each function.
-- Assumes nothing.
use Rattle.std.specs.Prelude.{ℕ, ◌%◌, Bool, ◌&&◌, List, ◌≡◌, eqb}
use Rattle.rules.specs.declared.Triangle.{Triangle}
use Rattle.rules.specs.Checked.{Checked}
use Rattle.rules.specs.Checked.{Accepted}
use Rattle.rules.specs.Limits.{max_numbers, between}
use Rattle.rules.specs.Triangle.{corners, edges_of}
use Rattle.rules.specs.Fan.{one_fan_each}
use Rattle.rules.specs.Check.{none_twice, all_used, passes}
use Rattle.mesh_theory.specs.Fans.Passing.{first_four, tested}
use Rattle.mesh_theory.specs.Chains.Linked.{Linked}

-- 1, of the list's length
abbrev pub fits_size : ℕ → Bool
fits_size n = between 1 n max_numbers && eqb (n % 3) 0

-- 1 to 4
unfoldable pub check_numbers : ℕ → List ℕ → Checked
check_numbers v xs = tested 1 (first_four v xs)

-- 5 to 7
unfoldable pub check_chains : ℕ → List Triangle → Checked
check_chains v ts =
    passes (none_twice (edges_of ts)) 5 (passes (all_used v (corners ts)) 6 (passes (one_fan_each v ts) 7 Accepted))

-- r is the answer for the list; if it is accepted, cs holds its chains, else anything
pub record Answers (answer : Checked) (xs : List ℕ) (r : Checked) (cs : List ℕ) : Type 0 where
  pub right : r ≡ answer
  pub chained : r ≡ Accepted → Linked xs cs
