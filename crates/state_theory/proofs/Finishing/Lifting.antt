-- The beginning's promise, carried to the lent list, whose first records are cleared after an accepted one.
-- Assumes nothing.
use Prim.Native.Nat.{ℕ, ◌*◌, ◌≤◌}
use native.Mathlib.Omega.{arith}
use mathlib.Core.Bool.{Bool, ◌&&◌}
use mathlib.Core.List.{List}
use mathlib.Core.Path.{◌≡◌, sym, ap, ap₂, ◌∙◌}
use lib.ListN.{length}
use lib.Dec.{leb}
use Rattle.rules.specs.declared.Counts.{Counts}
use Rattle.rules.specs.declared.Place.{Place}
use Rattle.rules.specs.declared.Builder.{Builder}
use Rattle.rules.specs.Begun.{Begun}
use Rattle.rules.specs.Checked.{Checked}
use Rattle.rules.specs.Checked.{Accepted, Refused}
use Rattle.rules.specs.Limits.{max_places, in_range}
use Rattle.rules.specs.Machine.{begun, empty, test, beginning}
use Rattle.rules.specs.Answer.{begun_answer}
use Rattle.rules.specs.Book.{answer_of}
use Rattle.rules.specs.Buffer.{cleared, Buffers}
use Rattle.rules.specs.Build.{begins, BegunBy, Begins}
use Rattle.border_theory.proofs.Records.Reading.{counted, counted_enough}
use Rattle.border_theory.specs.Records.Changes.{cleared_to}
use Rattle.border_theory.proofs.Records.Counting.{count_within}
use Rattle.border_theory.proofs.Records.Clearing.{cleared_to_lem}
use Rattle.border_theory.specs.Records.Lent.{lent as lent_of}
use Rattle.state_theory.specs.Finishing.Core.{BegunLeaves, BeginsOn, cleared_after, cleared_by}

module _ (stated : Counts) (xs : List ℕ) (ps : List Place) where
  abbrev list : Buffers
  list = record { triangles = xs; places = ps }

  begins_same : begins (lent_of (counted ps) xs) stated ≡ begins list stated
  unfolding beginning
  begins_same =
      ap (λ (b : Bool). test (in_range stated) 13 (test (leb (3 * stated.triangles) (length xs) && b) 14 (begun (empty stated))))
      (sym (counted_enough ps))

  left_by_lem : (a : Checked) (b : Builder) (xs' : List ℕ) (ps' : List Place) → BegunLeaves stated xs (counted ps) a b xs'
      → ps' ≡ cleared_to (cleared_after a) ps → BegunBy list stated a b (record { triangles = xs'; places = ps' })
  unfolding cleared cleared_to
  left_by_lem Accepted b xs' ps' l e = (
    l.builder,
    ap₂ (λ (ys : List ℕ) (qs : List Place). record { triangles = ys; places = qs }) l.triangles
        (e ∙ cleared_to_lem max_places ps (omega (arith, l.whole, (count_within (length ps)).0))),
  )
  left_by_lem (Refused k) b xs' ps' l e =
      (l.builder, ap₂ (λ (ys : List ℕ) (qs : List Place). record { triangles = ys; places = qs }) l.triangles e)

  -- the answer, and what is left, on the list
  pub begins_lifted : (r : Begun) (xs' : List ℕ) (ps' : List Place) → BeginsOn stated xs (counted ps) r xs'
      → ps' ≡ cleared_to (cleared_by r) ps
      → (begun_answer r ≡ answer_of (begins list stated)) × Begins list stated r (record { triangles = xs'; places = ps' })
  begins_lifted r xs' ps' l e =
      (l.answer ∙ ap answer_of begins_same, left_by_lem r.answer r.state xs' ps' l.left e)

  -- no more records are cleared than there are
  fits_by : (a : Checked) (b : Builder) (xs' : List ℕ) → BegunLeaves stated xs (counted ps) a b xs' → cleared_after a ≤ length ps
  fits_by Accepted b xs' l = omega (arith, l.whole, (count_within (length ps)).0)
  fits_by (Refused k) b xs' l = omega arith

  pub begins_fit : (r : Begun) (xs' : List ℕ) → BeginsOn stated xs (counted ps) r xs' → cleared_by r ≤ length ps
  begins_fit r xs' l = fits_by r.answer r.state xs' l.left
