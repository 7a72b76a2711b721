-- How many of n records are read: laws of `count_of`.
-- Assumes nothing.
use Prim.Native.Nat.{ℕ, ◌<◌, ◌≤◌}
use native.Mathlib.Omega.{arith}
use mathlib.Core.Path.{◌≡◌, refl, ap, ◌∙◌}
use mathlib.Core.Bool.{Bool, true, false}
use lib.Dec.{leb, ltb}
use borrow.Author.Tests.{le-leb, lt-ltb, le-ltb, ltb-true, ltb-false}
use Rattle.rules.specs.Limits.{max_places}
use Rattle.border_theory.specs.Records.Plain.{count_of}

pub count_short : (n : ℕ) → n < max_places → n ≡ count_of n
unfolding count_of
count_short n h = rw (count_of, lt-ltb n max_places h)

pub count_long : (n : ℕ) → max_places ≤ n → max_places ≡ count_of n
unfolding count_of
count_long n h = rw (count_of, le-ltb n max_places h)

within_by : (n : ℕ) (t : Bool) → ltb n max_places ≡ t → (count_of n ≤ n) × (count_of n ≤ max_places)
unfolding count_of
within_by n true e = rw (count_of, e) (omega arith, omega (arith, ltb-true n max_places e))
within_by n false e = rw (count_of, e) (omega (arith, ltb-false n max_places e), omega arith)

-- no more than there are, and no more than 1,024
pub count_within : (n : ℕ) → (count_of n ≤ n) × (count_of n ≤ max_places)
count_within n = within_by n (ltb n max_places) refl

-- of a length only whether it is 1,024 counts
pub count_enough : (n : ℕ) → leb max_places n ≡ leb max_places (count_of n)
count_enough n = go (ltb n max_places) refl
  where
    go : (t : Bool) → ltb n max_places ≡ t → leb max_places n ≡ leb max_places (count_of n)
    go true e = ap (leb max_places) (count_short n (ltb-true n max_places e))
    go false e =
        let h = ltb-false n max_places e in
        le-leb max_places n h ∙ ap (leb max_places) (count_long n h)
