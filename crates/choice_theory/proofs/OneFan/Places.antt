-- How often a vertex and an edge stand in the loops.
-- Assumes nothing.
use Prim.Native.Nat.{ℕ, zero, suc, ◌+◌, ◌≤◌}
use native.Mathlib.Omega.{arith}
use mathlib.Core.Bool.{Bool, true, false}
use mathlib.Core.List.{List, [], ◌∷◌}
use mathlib.Core.Path.{◌≡◌, refl, sym, ◌∙◌}
use lib.Dec.{eqb}
use borrow.Author.Tests.{eqb-true, eqb-false}
use Rattle.rules.specs.Count.{same, hit}
use Rattle.rules.specs.Ring.{Node, Ring, vertex, is_open, start_or}
use Rattle.book.specs.Sums.{Weight, path_sum, ring_sum, loops_sum, open_hit, open_edges, placed}
use Rattle.choice_theory.specs.Fanned.{in_hit, out_hit, comes_to, leaves_from}
use Rattle.counting.proofs.Counts.{hit_from, hit_swap, hit_to, hit_is}

-- two weights that together are no more than a third: so are their sums
module _ (u w z : Weight) (h : (x y : ℕ) (o : Bool) → u x y o + w x y o ≤ z x y o) where
  path_two : (ps : List Node) (b : ℕ) → path_sum u ps b + path_sum w ps b ≤ path_sum z ps b
  unfolding path_sum
  path_two [] b = omega arith
  path_two (p ∷ ps) b = omega (arith, h (vertex p) (start_or b ps) (is_open p), path_two ps b)

  sum_two : (ls : List Ring) → loops_sum u ls + loops_sum w ls ≤ loops_sum z ls
  unfolding loops_sum ring_sum
  sum_two [] = omega arith
  sum_two (l ∷ ls) = omega (arith, path_two l (start_or 0 l), sum_two ls)

-- in a loop as many edges end at a vertex as start there
abbrev ends_at : ℕ → List Ring → ℕ
ends_at v ls = loops_sum (λ x y o. same v y) ls

path_ends : (v : ℕ) (ps : List Node) (b : ℕ)
    → path_sum (λ x y o. same v x) ps b + same v b ≡ same v (start_or b ps) + path_sum (λ x y o. same v y) ps b
unfolding path_sum
path_ends v [] b = omega arith
path_ends v (p ∷ ps) b = omega (arith, path_ends v ps b)

ring_ends : (v : ℕ) (l : Ring) → ring_sum (λ x y o. same v x) l ≡ ring_sum (λ x y o. same v y) l
unfolding ring_sum path_sum
ring_ends v [] = refl
ring_ends v (p ∷ ps) = omega (arith, path_ends v (p ∷ ps) (vertex p))

ends_places : (v : ℕ) (ls : List Ring) → ends_at v ls ≡ placed v ls
unfolding loops_sum
ends_places v [] = refl
ends_places v (l ∷ ls) = omega (arith, ring_ends v l, ends_places v ls)

-- an open edge that leaves v, or comes to it, is counted; and v has a place then
pub leaves_one : (v y : ℕ) (ls : List Ring) → open_edges v y ls ≤ leaves_from v ls
leaves_one v y ls = omega (arith, sum_two (λ p q o. 0) (open_hit v y) (out_hit v) within ls)
  where
    within : (p q : ℕ) (o : Bool) → 0 + open_hit v y p q o ≤ out_hit v p q o
    within p q true = omega (arith, hit_from v y p q)
    within p q false = omega arith

pub comes_one : (x v : ℕ) (ls : List Ring) → open_edges x v ls ≤ comes_to v ls
comes_one x v ls = omega (arith, sum_two (λ p q o. 0) (open_hit x v) (in_hit v) within ls)
  where
    within : (p q : ℕ) (o : Bool) → 0 + open_hit x v p q o ≤ in_hit v p q o
    within p q true = omega (arith, hit_to x v p q)
    within p q false = omega arith

pub out_places : (v : ℕ) (ls : List Ring) → leaves_from v ls ≤ placed v ls
out_places v ls = omega (arith, sum_two (λ p q o. 0) (out_hit v) (λ p q o. same v p) within ls)
  where
    within : (p q : ℕ) (o : Bool) → 0 + out_hit v p q o ≤ same v p
    within p q true = omega arith
    within p q false = omega arith

pub in_places : (v : ℕ) (ls : List Ring) → comes_to v ls ≤ placed v ls
in_places v ls = omega (arith, ends_places v ls, sum_two (λ p q o. 0) (in_hit v) (λ p q o. same v q) within ls)
  where
    within : (p q : ℕ) (o : Bool) → 0 + in_hit v p q o ≤ same v q
    within p q true = omega arith
    within p q false = omega arith

-- if one open edge leaves v, or one comes to it, there is no other
two_apart : (v x y p q : ℕ) → (x ≡ y → ⊥) → hit v x p q + hit v y p q ≤ same v p
two_apart v x y p q d = go (hit v x p q) refl (hit v y p q) refl
  where
    go : (m : ℕ) → hit v x p q ≡ m → (n : ℕ) → hit v y p q ≡ n → hit v x p q + hit v y p q ≤ same v p
    go zero e n f = omega (arith, hit_from v y p q)
    go (suc m) e zero f = omega (arith, hit_from v x p q)
    go (suc m) e (suc n) f = absurd (d ((hit_is v x p q (omega arith)).1 ∙ sym (hit_is v y p q (omega arith)).1))

equal_or : (x y : ℕ) (P : Type 0) → (x ≡ y → P) → ((x ≡ y → ⊥) → P) → P
equal_or x y P h k = go (eqb x y) refl
  where
    go : (t : Bool) → eqb x y ≡ t → P
    go true e = h (eqb-true x y e)
    go false e = k (eqb-false x y e)

leave_apart : (v x y : ℕ) → (x ≡ y → ⊥) → (p q : ℕ) (o : Bool) → open_hit v x p q o + open_hit v y p q o ≤ out_hit v p q o
leave_apart v x y d p q true = two_apart v x y p q d
leave_apart v x y d p q false = omega arith

come_apart : (v x y : ℕ) → (x ≡ y → ⊥) → (p q : ℕ) (o : Bool) → open_hit x v p q o + open_hit y v p q o ≤ in_hit v p q o
come_apart v x y d p q true = omega (arith, hit_swap x v p q, hit_swap y v p q, two_apart v x y q p d)
come_apart v x y d p q false = omega arith

pub one_leaves : (v x y : ℕ) (ls : List Ring) → leaves_from v ls ≤ 1 → 1 ≤ open_edges v x ls → 1 ≤ open_edges v y ls → x ≡ y
one_leaves v x y ls o h k =
    equal_or x y (x ≡ y) (λ e. e)
    (λ d. absurd (omega (arith, sum_two (open_hit v x) (open_hit v y) (out_hit v) (leave_apart v x y d) ls)))

pub one_comes : (v x y : ℕ) (ls : List Ring) → comes_to v ls ≤ 1 → 1 ≤ open_edges x v ls → 1 ≤ open_edges y v ls → x ≡ y
one_comes v x y ls o h k =
    equal_or x y (x ≡ y) (λ e. e)
    (λ d. absurd (omega (arith, sum_two (open_hit x v) (open_hit y v) (in_hit v) (come_apart v x y d) ls)))
