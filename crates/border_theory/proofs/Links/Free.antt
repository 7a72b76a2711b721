-- Where fewer than n places are in loops, one below n is free.
-- Assumes nothing.
use Prim.Native.Nat.{ℕ, zero, suc, ◌+◌, ◌≤◌, ◌<◌}
use native.Mathlib.Omega.{arith}
use mathlib.Core.Bool.{Bool, true, false}
use mathlib.Core.List.{List, [], ◌∷◌}
use mathlib.Core.Path.{◌≡◌, refl}
use lib.ListN.{length}
use lib.Dec.{eqb}
use borrow.Author.Tests.{eqb-true, eqb-false}
use Rattle.rules.specs.Count.{same}
use Rattle.rules.specs.Ring.{Node, Ring, vertex, start_or, places}
use Rattle.book.specs.Sums.{path_sum, ring_sum, loops_sum, placed}
use Rattle.book.specs.Below.{sum_below}
use Rattle.border_theory.proofs.Links.Stores.{free_below, Free}
use Rattle.counting.proofs.Counts.{same_no, same_once}

pub sum_add : (n : ℕ) (g h : ℕ → ℕ) → sum_below n (λ x. g x + h x) ≡ sum_below n g + sum_below n h
unfolding sum_below
sum_add zero g h = refl
sum_add (suc n) g h = omega (arith, sum_add n g h)

pub nothing : (n : ℕ) → sum_below n (λ x. 0) ≡ 0
unfolding sum_below
nothing zero = refl
nothing (suc n) = omega (arith, nothing n)

pub none_above : (n p : ℕ) → n ≤ p → sum_below n (λ x. same x p) ≡ 0
unfolding sum_below
none_above zero p h = refl
none_above (suc n) p h = omega (arith, none_above n p (omega arith), same_no n p (λ e. omega arith))

one_each : (n p : ℕ) → sum_below n (λ x. same x p) ≤ 1
unfolding sum_below
one_each zero p = omega arith
one_each (suc n) p = go (eqb n p) refl (one_each n p)
  where
    go : (t : Bool) → eqb n p ≡ t → sum_below n (λ x. same x p) ≤ 1 → same n p + sum_below n (λ x. same x p) ≤ 1
    go true e k = omega (arith, same_once n p, none_above n p (omega (arith, eqb-true n p e)))
    go false e k = omega (arith, same_no n p (eqb-false n p e))

-- all places below n are counted at most once for each place of the loops
path_total : (n : ℕ) (ps : List Node) (b : ℕ) → sum_below n (λ x. path_sum (λ p q o. same x p) ps b) ≤ length ps
unfolding path_sum
path_total n [] b = omega (arith, nothing n)
path_total n (p ∷ ps) b =
    omega (arith, sum_add n (λ x. same x (vertex p)) (λ x. path_sum (λ p q o. same x p) ps b), one_each n (vertex p), path_total n ps b)

total : (n : ℕ) (ls : List Ring) → sum_below n (λ x. placed x ls) ≤ places ls
unfolding loops_sum ring_sum places
total n [] = omega (arith, nothing n)
total n (l ∷ ls) =
    omega (
      arith,
      sum_add n (λ x. path_sum (λ p q o. same x p) l (start_or 0 l)) (λ x. placed x ls),
      path_total n l (start_or 0 l),
      total n
          ls,
    )

-- if every place below n were in a loop, the loops would have n places
full : (n : ℕ) (g : ℕ → ℕ) → ((x : ℕ) → x < n → 1 ≤ g x) → n ≤ sum_below n g
unfolding sum_below
full zero g h = omega arith
full (suc n) g h = omega (arith, full n g (λ x k. h x (omega arith)), h n (omega arith))

-- a place found, or all are in loops
data Look (k : ℕ) (ls : List Ring) (q : ℕ) : Type 0 where
  found : q < k → placed q ls ≡ 0 → Look k ls q
  none : ((x : ℕ) → x < k → 1 ≤ placed x ls) → Look k ls q

look : (k : ℕ) (ls : List Ring) → Look k ls (free_below k ls)
unfolding free_below
look zero ls = none (λ x h. absurd (omega arith))
look (suc k) ls = go (eqb (placed k ls) 0) refl (look k ls)
  where
    wider : Look k ls (free_below k ls) → 1 ≤ placed k ls → Look (suc k) ls (free_below k ls)
    wider (found a b) h = found (omega arith) b
    wider (none a) h = none (λ x l. last x l (eqb x k) refl)
      where
        last : (x : ℕ) → x < suc k → (t : Bool) → eqb x k ≡ t → 1 ≤ placed x ls
        last x l true e = let z : x ≡ k = eqb-true x k e in rw z h
        last x l false e = a x (omega (arith, eqb-false x k e))

    go : (t : Bool) → eqb (placed k ls) 0 ≡ t → Look k ls (free_below k ls)
        → Look (suc k) ls (elim t [ true ↦ k | false ↦ free_below k ls ])
    go true e more = found (omega arith) (eqb-true (placed k ls) 0 e)
    go false e more = wider more (omega (arith, eqb-false (placed k ls) 0 e))

-- the place that is looked for is free
pub free_place_lem : (n : ℕ) (ls : List Ring) → places ls < n → Free n ls (free_below n ls)
free_place_lem n ls h = go (free_below n ls) (look n ls)
  where
    go : (q : ℕ) → Look n ls q → Free n ls q
    go q (found a b) = record { inside = a; unused = b }
    go q (none a) = absurd (omega (arith, full n (λ x. placed x ls) a, total n ls))
