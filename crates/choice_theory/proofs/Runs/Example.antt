-- M1's operations are a run, so the statements are not empty; and a run with a link, its full loops computed.
-- Assumes nothing.
use native.Mathlib.Omega.{arith}
use mathlib.Core.List.{List, [], ◌∷◌}
use mathlib.Core.Path.{◌≡◌, refl}
use Rattle.rules.specs.declared.Triangle.{Triangle}
use Rattle.rules.specs.declared.Operation.{Operation}
use Rattle.rules.specs.declared.Operation.TheVariants.{New, Border, Split, Start}
use Rattle.rules.specs.Ring.{opened, marked, vertex_at, onward, reached, places}
use Rattle.rules.specs.Table.{in_order}
use Rattle.book.specs.Shown.{shown_all}
use Rattle.choice_theory.specs.Full.{full_index, full_at, full_run, none_full}
use Rattle.choice_theory.proofs.Runs.Machine.{Run, r_done, r_start, r_border}

abbrev one : Triangle
one = record { p = 0; q = 1; r = 2 }

example : Run (one ∷ []) [] [] [] (Start ∷ (Border ∷ (Border ∷ (Border ∷ [])))) (one ∷ [])
unfolding onward
example =
    r_start {B = []} {rims = []} {p = 0} {q = 1} {r = 2} (λ m n i. elim i [ ]) (λ m n i. elim i [ ]) (λ m n i. elim i [ ])
    (omega arith, omega arith, omega arith)
    (r_border refl (r_border refl (r_border refl r_done)))

-- A triangle with one new beside it, and three borders: 0 and 2 lie between marked edges and are not shown.
abbrev linked : List Operation
linked = Start ∷ (Border ∷ (New ∷ (Border ∷ (Border ∷ []))))

full : (full_run linked none_full).loops ≡ (opened 1 ∷ (marked 3 ∷ (marked 2 ∷ (marked 0 ∷ [])))) ∷ []
unfolding full_run full_at onward places
full = refl

short : shown_all (full_run linked none_full).loops ≡ (opened 1 ∷ (marked 3 ∷ [])) ∷ []
unfolding full_run full_at onward reached places
short = refl

-- Two new more, and split 1 along the link: the place after 3 among those shown is place 3 of the full loop. Of two places shown and
-- three the loop of two goes on, though it has four in full.
split : (full_run (New ∷ (New ∷ (Split 1 ∷ []))) (full_run linked none_full)).loops
    ≡ (opened 1 ∷ (marked 3 ∷ (marked 2 ∷ (marked 0 ∷ [])))) ∷ ((opened 5 ∷ (opened 1 ∷ (opened 4 ∷ []))) ∷ [])
unfolding full_run full_at full_index onward reached in_order vertex_at places
split = refl
