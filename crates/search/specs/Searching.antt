-- What the two functions promise: a list is linked, then searched.
-- Assumes nothing.
use Rattle.std.specs.Prelude.{ℕ, true, false, List, [], ◌∷◌, ◌≡◌, length, leb}
use Rattle.rules.specs.Across.{Across}
use Rattle.rules.specs.Across.{Found, Nothing}
use Rattle.rules.specs.Checked.{Checked}
use Rattle.rules.specs.Checked.{Accepted, Refused}
use Rattle.rules.specs.Check.{check}
use Rattle.mesh_theory.specs.Fans.Passing.{PassesFour}
use Rattle.mesh_theory.specs.Fans.Search.{Searched}
use Rattle.mesh_theory.specs.Chains.Linked.{Chains}

-- the refusal that a list meets, if it is one of 1 to 4, else 0
abbrev pub of_four : Checked → ℕ
of_four Accepted = 0
of_four (Refused n) = elim (leb n 4) [ true ↦ n | false ↦ 0 ]

-- n is the refusal of 1 to 4; if there is none, the links hold the chains of the whole list, else they are as they were
pub record LinkGives (v : ℕ) (xs cs : List ℕ) (n : ℕ) (cs' : List ℕ) : Type 0 where
  pub number : n ≡ of_four (check v xs)
  pub linked : n ≡ 0 → Chains xs (length xs) cs'
  pub kept : (n ≡ 0 → ⊥) → cs' ≡ cs

-- an answer as a number, and what the lent numbers hold afterwards
abbrev pub told : Across → ℕ
told (Found n k z) = 1
told Nothing = 0

abbrev pub found_in : Across → List ℕ → List ℕ
found_in (Found n k z) ns = n ∷ (k ∷ (z ∷ []))
found_in Nothing ns = ns

-- there is an answer, right for a list that passes 1 to 4 and is linked as a whole, and it is told
pub record SearchGives (xs cs : List ℕ) (x y : ℕ) (before : List ℕ) (n : ℕ) (after : List ℕ) : Type 0 where
  pub answer : Across
  pub right : (v : ℕ) → PassesFour v xs → Chains xs (length xs) cs → Searched xs x y answer
  pub number : n ≡ told answer
  pub written : after ≡ found_in answer before
