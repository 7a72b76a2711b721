-- Every place is in a loop or free, so free places and places of the loops are n together: a freed place is used again.
-- Assumes nothing.
use Prim.Native.Nat.{ℕ, zero, suc, ◌+◌, ◌*◌, ◌≤◌, ◌<◌}
use native.Mathlib.Omega.{arith}
use mathlib.Core.Bool.{Bool, true, false}
use mathlib.Core.List.{List, [], ◌∷◌}
use mathlib.Core.Path.{◌≡◌, refl, ap, ◌∙◌}
use lib.ListN.{length}
use lib.Dec.{eqb}
use borrow.Author.Tests.{eqb-true, eqb-false, lt-ltb}
use Rattle.rules.specs.Count.{num, same}
use Rattle.rules.specs.Ring.{Node, Ring, vertex, start_or, places}
use Rattle.book.specs.Sums.{path_sum, ring_sum, loops_sum, placed}
use Rattle.book.specs.Below.{sum_below}
use Rattle.cutborder.specs.declared.Loops.{Loops}
use Rattle.border_theory.specs.Memory.Layout.{at, stacked}
use Rattle.border_theory.specs.Memory.Stands.{StandsAt}
use Rattle.border_theory.proofs.Memory.Standing.{below, stack_near}
use Rattle.counting.proofs.Counts.{same_yes, same_no}
use Rattle.border_theory.proofs.Links.Free.{sum_add, nothing, none_above}

sum_ones : (n : ℕ) (g : ℕ → ℕ) → ((x : ℕ) → x < n → g x ≡ 1) → sum_below n g ≡ n
unfolding sum_below
sum_ones zero g h = refl
sum_ones (suc n) g h = omega (arith, h n (omega arith), sum_ones n g (λ x k. h x (omega arith)))

one_below : (n p : ℕ) → p < n → sum_below n (λ x. same x p) ≡ 1
unfolding sum_below
one_below zero p h = absurd (omega arith)
one_below (suc n) p h = go (eqb n p) refl (one_below n p)
  where
    go : (t : Bool) → eqb n p ≡ t → (p < n → sum_below n (λ x. same x p) ≡ 1) → same n p + sum_below n (λ x. same x p) ≡ 1
    go true e k =
        let z : n ≡ p = eqb-true n p e in
        omega (arith, none_above n p (omega arith), ap (same n) z, same_yes n)
    go false e k = omega (arith, eqb-false n p e, same_no n p (eqb-false n p e), k (omega (arith, eqb-false n p e)))

path_all : (n : ℕ) (ps : List Node) (b : ℕ) → ((x : ℕ) → 1 ≤ path_sum (λ p q o. same x p) ps b → x < n)
    → sum_below n (λ x. path_sum (λ p q o. same x p) ps b) ≡ length ps
unfolding path_sum
path_all n [] b h = nothing n
path_all n (p ∷ ps) b h =
    omega (
      arith,
      sum_add n (λ x. same x (vertex p)) (λ x. path_sum (λ p q o. same x p) ps b),
      one_below n (vertex p) (h (vertex p) (omega (arith, same_yes (vertex p)))),
      path_all n ps b (λ x k. h x (omega arith)),
    )

loops_all : (n : ℕ) (ls : List Ring) → ((x : ℕ) → 1 ≤ placed x ls → x < n) → sum_below n (λ x. placed x ls) ≡ places ls
unfolding loops_sum ring_sum places
loops_all n [] h = nothing n
loops_all n (l ∷ ls) h =
    omega (
      arith,
      sum_add n (λ x. path_sum (λ p q o. same x p) l (start_or 0 l)) (λ x. placed x ls),
      path_all n l (start_or 0 l) (λ x k. h x (omega arith)),
      loops_all n ls (λ x k. h x (omega arith)),
    )

stack_all : (n N : ℕ) (m : List ℕ) (k : ℕ) → ((x : ℕ) → 1 ≤ stacked N m k x → x < n) → sum_below n (λ x. stacked N m k x) ≡ k
unfolding stacked
stack_all n N m zero h = nothing n
stack_all n N m (suc k) h =
    omega (
      arith,
      sum_add n (λ x. same x (at m (4 * N + k))) (λ x. stacked N m k x),
      one_below n (at m (4 * N + k)) (h (at m (4 * N + k)) (omega (arith, same_yes (at m (4 * N + k))))),
      stack_all n N m k (λ x l. h x (omega arith)),
    )

-- free places and places of the loops are n together
pub room : (n : ℕ) (s : Loops) (m : List ℕ) (rs : List Ring) → StandsAt n s m rs → s.free + places rs ≡ n
room n s m rs st =
    omega (
      arith,
      sum_add n (λ x. placed x rs) (λ x. stacked n m s.free x),
      loops_all n rs (below n s m rs st),
      stack_all n n m s.free (λ x h. (stack_near n s m rs st x h).1),
      sum_ones n (λ x. placed x rs + stacked n m s.free x) (λ x h. st.each x ∙ ap num (lt-ltb x n h)),
    )
