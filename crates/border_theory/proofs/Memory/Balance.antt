-- The places before an operation and those that it takes are the places after it and those that leave.
-- Assumes nothing.
use Prim.Native.Nat.{ℕ, zero, suc, ◌+◌, ◌-◌, ◌*◌, ◌≤◌, ◌<◌}
use native.Mathlib.Omega.{arith}
use mathlib.Core.Bool.{Bool, true, false}
use mathlib.Core.List.{List, [], ◌∷◌}
use mathlib.Core.Path.{◌≡◌, refl, sym, ap, subst}
use lib.Dec.{eqb, leb}
use Rattle.rules.specs.declared.Operation.{Operation}
use Rattle.rules.specs.declared.Operation.TheVariants.{New, Forward, Backward, Border, Split, Close, Union, Start}
use Rattle.rules.specs.Count.{occurs}
use Rattle.rules.specs.Ring.{Ring}
use Rattle.book.specs.Sums.{placed}
use Rattle.border_theory.specs.Links.Held.{arc}
use Rattle.cutborder.specs.declared.Loops.{Loops}
use Rattle.border_theory.specs.Memory.Layout.{at, before_of, after_of, open_of, edges_stored, stacked}
use Rattle.border_theory.specs.Memory.Stands.{StandsAt}
use Rattle.border_theory.specs.Memory.Moves.{Held, top_free, new_held, forward_held, backward_held, ended_by, ended_held, turned_by}
use Rattle.border_theory.specs.Memory.Moves.{turned_held, cut_by, next_cut, last_cut, marked_held, doubled, split_by, split_held}
use Rattle.border_theory.specs.Memory.Moves.{union_held}
use Rattle.border_theory.specs.Memory.Moves.{start_held}
use Rattle.border_theory.specs.Memory.Decision.{held_by}
use Rattle.border_theory.specs.Memory.Performs.{Performs}
use Rattle.border_theory.specs.Memory.Touched.{taken_by, stack_part, leavers}
use Rattle.border_theory.proofs.Memory.Standing.{stack_near}
use Rattle.border_theory.proofs.Memory.Relinked.{stacked_same}

module _ (n : ℕ) (x : ℕ) where
  -- a part of the stack, and what lies below it
  part_stacked : (m : List ℕ) (a c : ℕ) → occurs x (stack_part n m a c) + stacked n m a x ≡ stacked n m (a + c) x
  unfolding stack_part stacked occurs
  part_stacked m a zero = let e : a + 0 ≡ a = omega arith in rw e (omega arith)
  part_stacked m a (suc c) =
      let e : a + suc c ≡ suc (a + c) = omega arith in
      rw e (omega (arith, part_stacked m a c))

  one_stacked : (m : List ℕ) (k : ℕ) → 1 ≤ k → occurs x (at m (4 * n + (k - 1)) ∷ []) + stacked n m (k - 1) x ≡ stacked n m k x
  unfolding stacked occurs
  one_stacked m zero h = absurd (omega arith)
  one_stacked m (suc k) h = let e : suc k - 1 ≡ k = omega arith in rw e (omega arith)

  three_stacked : (m : List ℕ) (k : ℕ) → 3 ≤ k
      → occurs x (at m (4 * n + (k - 1)) ∷ (at m (4 * n + (k - 2)) ∷ (at m (4 * n + (k - 3)) ∷ []))) + stacked n m (k - 3) x
      ≡ stacked n m k x
  unfolding stacked occurs
  three_stacked m zero h = absurd (omega arith)
  three_stacked m (suc zero) h = absurd (omega arith)
  three_stacked m (suc (suc zero)) h = absurd (omega arith)
  three_stacked m (suc (suc (suc k))) h =
      let e₁ : suc (suc (suc k)) - 1 ≡ suc (suc k) = omega arith in
      let e₂ : suc (suc (suc k)) - 2 ≡ suc k = omega arith in
      let e₃ : suc (suc (suc k)) - 3 ≡ k = omega arith in
      rw (e₁, e₂, e₃) (omega arith)

-- how the stack moves: an operation takes from its top, or puts on it
pub record Stacks (n : ℕ) (s : Loops) (m : List ℕ) (o : Operation) (h : Held) : Type 0 where
  pub top : (x : ℕ) → occurs x (taken_by n s m o) + stacked n m h.loops.free x ≡ stacked n m s.free x
  pub fewer : h.loops.free ≤ s.free

-- an operation that takes nothing
pub record Grows (n : ℕ) (s : Loops) (m : List ℕ) (o : Operation) (h : Held) : Type 0 where
  pub none : (x : ℕ) → occurs x (taken_by n s m o) ≡ 0
  pub more : s.free ≤ h.loops.free

abbrev pub Moves : ℕ → Loops → List ℕ → ℕ → Operation → ℕ → Type 0
Moves n s m u New c = Stacks n s m New (held_by n s m u New c)
Moves n s m u Forward c = Grows n s m Forward (held_by n s m u Forward c)
Moves n s m u Backward c = Grows n s m Backward (held_by n s m u Backward c)
Moves n s m u Border c = Grows n s m Border (held_by n s m u Border c)
Moves n s m u (Split i) c = Stacks n s m (Split i) (held_by n s m u (Split i) c)
Moves n s m u Close c = Grows n s m Close (held_by n s m u Close c)
Moves n s m u (Union p j) c = Stacks n s m (Union p j) (held_by n s m u (Union p j) c)
Moves n s m u Start c = Stacks n s m Start (held_by n s m u Start c)

module _ (n : ℕ) (s : Loops) (m : List ℕ) where
  ended_more : s.free ≤ (ended_held n s m).loops.free
  unfolding ended_held
  ended_more = go (leb s.live 1)
    where
      go : (t : Bool) → s.free ≤ (ended_by t n s m).loops.free
      go true = omega arith
      go false = omega arith

  next_more : s.free ≤ (next_cut n s m).loops.free
  unfolding next_cut
  next_more = go (eqb (open_of m (after_of m s.current)) 0)
    where
      go : (t : Bool) → s.free ≤ (cut_by t (forward_held n s m) s m).loops.free
      go true = unfold forward_held in omega arith
      go false = omega arith

  last_more : s.free ≤ (last_cut n s m).loops.free
  unfolding last_cut
  last_more = go (eqb (open_of m (before_of m s.current)) 0)
    where
      go : (t : Bool) → s.free ≤ (cut_by t (backward_held n s m) s m).loops.free
      go true = unfold backward_held in omega arith
      go false = omega arith

turned_more : (n : ℕ) (s : Loops) (m : List ℕ) → s.free ≤ (turned_held n s m).loops.free
unfolding turned_held
turned_more n s m =
    let p : ℕ = after_of m s.current in
    let m₁ : List ℕ = edges_stored (arc s.current p false ∷ []) m in
    go m₁ p (eqb (open_of m₁ p) 0)
  where
    go : (m₁ : List ℕ) (p : ℕ) (t : Bool) → s.free ≤ (turned_by t n s m₁ p).loops.free
    go m₁ p true = ended_more n s m₁
    go m₁ p false = omega arith

marked_more : (n : ℕ) (s : Loops) (m : List ℕ) → s.free ≤ (marked_held n s m).loops.free
unfolding marked_held
marked_more n s m =
    let l : Loops = (next_cut n s m).loops in
    let m₁ : List ℕ = (next_cut n s m).memory in
    omega (arith, next_more n s m, last_more n l m₁, turned_more n (last_cut n l m₁).loops (last_cut n l m₁).memory)

split_free : (n : ℕ) (s : Loops) (m : List ℕ) (i c : ℕ) → (split_held n s m i c).loops.free ≡ s.free - 1
unfolding split_held
split_free n s m i c = go (leb (i + 1) (s.size - i))
  where
    go : (t : Bool) → (split_by t n s (doubled n s m c) i (top_free n s m)).loops.free ≡ s.free - 1
    go true = refl
    go false = refl

takes_one : (n : ℕ) (s : Loops) (m : List ℕ) (h : Held) → 1 ≤ s.free → h.loops.free ≡ s.free - 1
    → ((x : ℕ) → occurs x (top_free n s m ∷ []) + stacked n m h.loops.free x ≡ stacked n m s.free x) × (h.loops.free ≤ s.free)
takes_one n s m h l e = (
  λ x. subst (λ (k : ℕ). occurs x (top_free n s m ∷ []) + stacked n m k x ≡ stacked n m s.free x) (sym e)
      (one_stacked n x m s.free l),
  omega (arith, e),
)

pub moves : (n : ℕ) (s : Loops) (m : List ℕ) (u : ℕ) (o : Operation) (c : ℕ) → Performs n s m u o c → Moves n s m u o c
unfolding new_held union_held start_held forward_held backward_held occurs
moves n s m u New c p = let t = takes_one n s m (new_held n s m u) p.1 refl in record { top = t.0; fewer = t.1 }
moves n s m u Forward c p = record { none = λ x. refl; more = omega arith }
moves n s m u Backward c p = record { none = λ x. refl; more = omega arith }
moves n s m u Border c p = record { none = λ x. refl; more = marked_more n s m }
moves n s m u (Split i) c p =
    let t = takes_one n s m (split_held n s m i c) p.0.1.some (split_free n s m i c) in record { top = t.0; fewer = t.1 }
moves n s m u Close c p = record { none = λ x. refl; more = ended_more n s m }
moves n s m u (Union k j) c p = let t = takes_one n s m (union_held n s m k c) p.0.1.some refl in record { top = t.0; fewer = t.1 }
moves n s m u Start c p = record { top = λ x. three_stacked n x m s.free p.0.some; fewer = omega arith }

-- where the stack does not grow no place leaves
part_empty : (n : ℕ) (s : Loops) (h : Held) (x : ℕ) → h.loops.free ≤ s.free → occurs x (leavers n s h) ≡ 0
unfolding stack_part occurs
part_empty n s h x l = let e : h.loops.free - s.free ≡ 0 = omega (arith, l) in rw e

-- the loops' places before and after
module _ (n : ℕ) (s : Loops) (m : List ℕ) (rs : List Ring) (st : StandsAt n s m rs) (h : Held) (rs' : List Ring)
    (st' : StandsAt n h.loops h.memory rs')
    (stack : (j : ℕ) → j < s.free → j < h.loops.free → at h.memory (4 * n + j) ≡ at m (4 * n + j)) (o : Operation) where
  pub stacks_balance : Stacks n s m o h → (x : ℕ) → placed x rs + occurs x (taken_by n s m o) ≡ placed x rs' + occurs x (leavers n s h)
  stacks_balance k x =
      let e : stacked n h.memory h.loops.free x ≡ stacked n m h.loops.free x =
      stacked_same n x m h.memory h.loops.free (λ j l. stack j (omega (arith, l, k.fewer)) l) in
      omega (arith, st.each x, st'.each x, e, k.top x, part_empty n s h x k.fewer)

  pub grows_balance : Grows n s m o h → (x : ℕ) → placed x rs + occurs x (taken_by n s m o) ≡ placed x rs' + occurs x (leavers n s h)
  grows_balance k x =
      let e : stacked n h.memory s.free x ≡ stacked n m s.free x =
      stacked_same n x m h.memory s.free (λ j l. stack j l (omega (arith, l, k.more))) in
      let f : s.free + (h.loops.free - s.free) ≡ h.loops.free = omega (arith, k.more) in
      let g : stacked n h.memory (s.free + (h.loops.free - s.free)) x ≡ stacked n h.memory h.loops.free x =
      ap (λ (i : ℕ). stacked n h.memory i x) f in
      omega (arith, st.each x, st'.each x, e, g, k.none x, part_stacked n x h.memory s.free (h.loops.free - s.free))

-- what is taken was on the stack
pub taken_free : (n : ℕ) (s : Loops) (m : List ℕ) (rs : List Ring) → StandsAt n s m rs → (o : Operation) (h : Held) → Stacks n s m o h
    → (x : ℕ) → 1 ≤ occurs x (taken_by n s m o) → (placed x rs ≡ 0) × (x < n)
taken_free n s m rs st o h k x l = stack_near n s m rs st x (omega (arith, k.top x, l))

pub balance : (n : ℕ) (s : Loops) (m : List ℕ) (rs : List Ring) → StandsAt n s m rs → (u : ℕ) (o : Operation) (c : ℕ) → Moves n s m u o c
    → (rs' : List Ring) → StandsAt n (held_by n s m u o c).loops (held_by n s m u o c).memory rs'
    → ((j : ℕ) → j < s.free → j < (held_by n s m u o c).loops.free → at (held_by n s m u o c).memory (4 * n + j) ≡ at m (4 * n + j))
    → (x : ℕ) → placed x rs + occurs x (taken_by n s m o) ≡ placed x rs' + occurs x (leavers n s (held_by n s m u o c))
balance n s m rs st u New c k rs' st' t = stacks_balance n s m rs st (held_by n s m u New c) rs' st' t New k
balance n s m rs st u Forward c k rs' st' t = grows_balance n s m rs st (held_by n s m u Forward c) rs' st' t Forward k
balance n s m rs st u Backward c k rs' st' t = grows_balance n s m rs st (held_by n s m u Backward c) rs' st' t Backward k
balance n s m rs st u Border c k rs' st' t = grows_balance n s m rs st (held_by n s m u Border c) rs' st' t Border k
balance n s m rs st u (Split i) c k rs' st' t = stacks_balance n s m rs st (held_by n s m u (Split i) c) rs' st' t (Split i) k
balance n s m rs st u Close c k rs' st' t = grows_balance n s m rs st (held_by n s m u Close c) rs' st' t Close k
balance n s m rs st u (Union p j) c k rs' st' t = stacks_balance n s m rs st (held_by n s m u (Union p j) c) rs' st' t (Union p j) k
balance n s m rs st u Start c k rs' st' t = stacks_balance n s m rs st (held_by n s m u Start c) rs' st' t Start k

pub all_taken_free : (n : ℕ) (s : Loops) (m : List ℕ) (rs : List Ring) → StandsAt n s m rs → (u : ℕ) (o : Operation) (c : ℕ)
    → Moves n s m u o c
    → (x : ℕ) → 1 ≤ occurs x (taken_by n s m o) → (placed x rs ≡ 0) × (x < n)
all_taken_free n s m rs st u New c k x l = taken_free n s m rs st New (held_by n s m u New c) k x l
all_taken_free n s m rs st u Forward c k x l = absurd (omega (arith, l, k.none x))
all_taken_free n s m rs st u Backward c k x l = absurd (omega (arith, l, k.none x))
all_taken_free n s m rs st u Border c k x l = absurd (omega (arith, l, k.none x))
all_taken_free n s m rs st u (Split i) c k x l = taken_free n s m rs st (Split i) (held_by n s m u (Split i) c) k x l
all_taken_free n s m rs st u Close c k x l = absurd (omega (arith, l, k.none x))
all_taken_free n s m rs st u (Union p j) c k x l = taken_free n s m rs st (Union p j) (held_by n s m u (Union p j) c) k x l
all_taken_free n s m rs st u Start c k x l = taken_free n s m rs st Start (held_by n s m u Start c) k x l

-- it takes places, or places leave, or neither
pub takes_or_leaves : (n : ℕ) (s : Loops) (m : List ℕ) (u : ℕ) (o : Operation) (c : ℕ) → Moves n s m u o c
    → (x : ℕ) → 1 ≤ occurs x (taken_by n s m o) → occurs x (leavers n s (held_by n s m u o c)) ≡ 0
takes_or_leaves n s m u New c k x l = part_empty n s (held_by n s m u New c) x k.fewer
takes_or_leaves n s m u Forward c k x l = absurd (omega (arith, l, k.none x))
takes_or_leaves n s m u Backward c k x l = absurd (omega (arith, l, k.none x))
takes_or_leaves n s m u Border c k x l = absurd (omega (arith, l, k.none x))
takes_or_leaves n s m u (Split i) c k x l = part_empty n s (held_by n s m u (Split i) c) x k.fewer
takes_or_leaves n s m u Close c k x l = absurd (omega (arith, l, k.none x))
takes_or_leaves n s m u (Union p j) c k x l = part_empty n s (held_by n s m u (Union p j) c) x k.fewer
takes_or_leaves n s m u Start c k x l = part_empty n s (held_by n s m u Start c) x k.fewer
