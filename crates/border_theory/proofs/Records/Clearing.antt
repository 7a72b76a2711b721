-- A list whose first records are cleared, one after the other.
-- Assumes nothing.
use Prim.Native.Nat.{ℕ, zero, suc, ◌<◌, ◌≤◌}
use native.Mathlib.Omega.{arith}
use mathlib.Core.Path.{◌≡◌, refl, sym, ap, ◌∙◌}
use mathlib.Core.List.{List, [], ◌∷◌, ◌++◌}
use lib.ListN.{length, set, drop, replicate}
use Rattle.rules.specs.declared.Place.{Place}
use Rattle.rules.specs.Limits.{max_places}
use Rattle.rules.specs.Buffer.{free_place, cleared}
use Rattle.border_theory.specs.Records.Changes.{cleared_to}

fill_suc : (n : ℕ) (p : Place) (ps : List Place) → n < length ps
    → set (replicate n p ++ drop n ps) n p ≡ replicate (suc n) p ++ drop (suc n) ps
fill_suc n p [] h = absurd (omega arith)
fill_suc zero p (x ∷ ps) h = refl
fill_suc (suc n) p (x ∷ ps) h = ap (λ (qs : List Place). p ∷ qs) (fill_suc n p ps (omega arith))

-- they stand in front, zero, and the others are as they were
pub cleared_to_lem : (n : ℕ) (ps : List Place) → n ≤ length ps → cleared_to n ps ≡ replicate n free_place ++ drop n ps
unfolding cleared_to
cleared_to_lem zero ps h = refl
cleared_to_lem (suc n) ps h =
    ap (λ (qs : List Place). set qs n free_place) (cleared_to_lem n ps (omega arith)) ∙ fill_suc n free_place ps (omega arith)

-- a call that clears the first n records of the list ps, which has so many, leaves ps'
pub record Clears (ps : List Place) (n : ℕ) (ps' : List Place) : Type 0 where
  pub fits : n ≤ length ps
  pub places : ps' ≡ cleared_to n ps

pub clears_none : (ps : List Place) → Clears ps 0 ps
unfolding cleared_to
clears_none ps = record { fits = omega arith; places = refl }

pub clears_first : (ps : List Place) → max_places ≤ length ps → Clears ps max_places (cleared ps)
unfolding cleared
clears_first ps h = record { fits = h; places = sym (cleared_to_lem max_places ps h) }
