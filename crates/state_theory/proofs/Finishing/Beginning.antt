-- The beginning: 13, 14, or the empty builder. One law for each way through.
-- Assumes nothing.
use Prim.Native.Nat.{ℕ, ◌*◌}
use mathlib.Core.Bool.{Bool, true, false, not}
use mathlib.Core.List.{List}
use mathlib.Core.Path.{◌≡◌, refl, sym, ap, ap₂, ◌∙◌}
use lib.ListN.{length, length-replicate}
use lib.Dec.{leb}
use borrow.Author.Tests.{not-true, not-false, leb-true}
use Rattle.rules.specs.declared.Counts.{Counts}
use Rattle.rules.specs.declared.Builder.{Builder}
use Rattle.rules.specs.Checked.{Accepted}
use Rattle.rules.specs.Limits.{max_places, in_range}
use Rattle.rules.specs.Machine.{refused, begun, test, empty, beginning, long_enough}
use Rattle.rules.specs.Book.{answer_of}
use Rattle.rules.specs.Buffer.{Lengths, free_place}
use Rattle.rules.specs.Build.{begins, begun_builder}
use Rattle.counting.proofs.Bools.{and_right}
use Rattle.border_theory.specs.Records.Lent.{lent as lent_of}
use Rattle.state_theory.specs.Finishing.Core.{refused_by, BeginsOn}

module _ (stated : Counts) (xs : List ℕ) (n : ℕ) where
  abbrev lengths_of : ℕ → Lengths
  lengths_of k = record { triangles = length xs; places = k }

  begins_is : begins (lent_of n xs) stated
      ≡ test (in_range stated) 13 (test (long_enough (lengths_of n) stated) 14 (begun (empty stated)))
  unfolding beginning
  begins_is =
      ap (λ (k : ℕ). test (in_range stated) 13 (test (long_enough (lengths_of k) stated) 14 (begun (empty stated))))
      (length-replicate n free_place)

  by_tests : (a b : Bool) → in_range stated ≡ a → long_enough (lengths_of n) stated ≡ b
      → begins (lent_of n xs) stated ≡ test a 13 (test b 14 (begun (empty stated)))
  by_tests a b e f = begins_is ∙ ap₂ (λ (t u : Bool). test t 13 (test u 14 (begun (empty stated)))) e f

  turned_down_lem : (k : ℕ) → begins (lent_of n xs) stated ≡ refused k → BeginsOn stated xs n (refused_by k) xs
  turned_down_lem k e = record { answer = ap answer_of (sym e); left = record { builder = refl; triangles = refl } }

  pub begins_range : (a : Bool) → a ≡ in_range stated → not a ≡ true → BeginsOn stated xs n (refused_by 13) xs
  unfolding test
  begins_range a e h =
      turned_down_lem 13
      (by_tests false (long_enough (lengths_of n) stated) (sym e ∙ not-true a h) refl)

  module _ (a : Bool) (e : a ≡ in_range stated) (h : not a ≡ false) (l : Bool) (f : l ≡ long_enough (record {
    triangles = length xs;
    places = n;
  }) stated) where
    pub begins_short : not l ≡ true → BeginsOn stated xs n (refused_by 14) xs
    unfolding test
    begins_short k = turned_down_lem 14 (by_tests true false (sym e ∙ not-false a h) (sym f ∙ not-true l k))

    pub begins_done : not l ≡ false → (b : Builder) → b ≡ begun_builder stated
        → BeginsOn stated xs n (record { state = b; answer = Accepted }) xs
    unfolding test
    begins_done k b q =
        let long : long_enough (lengths_of n) stated ≡ true = sym f ∙ not-false l k in
        record {
          answer = ap answer_of (sym (by_tests true true (sym e ∙ not-false a h) long));
          left = record {
            builder = q;
            triangles = refl;
            whole = leb-true max_places n (and_right (leb (3 * stated.triangles) (length xs)) (leb max_places n) long);
          };
        }
