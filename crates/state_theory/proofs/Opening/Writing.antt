-- Laws of the free places and the waiting loops as they are written, that the functions' proofs cite.
-- Assumes nothing.
use Prim.Native.Nat.{ℕ, zero, suc, ◌+◌, ◌*◌, ◌≤◌, ◌<◌}
use native.Mathlib.Omega.{arith}
use mathlib.Core.Bool.{Bool, true, false, ◌&&◌}
use mathlib.Core.List.{List}
use mathlib.Core.Path.{◌≡◌, refl, sym, ap, ◌∙◌}
use lib.Dec.{eqb, ltb}
use lib.ListN.{length, get_or, set, length-set}
use lib.Seq.{get_or-set_same, get_or-set_other}
use borrow.Author.Tests.{ltb-true, ltb-false, lt-ltb, le-ltb, eqb-true, eqb-false}
use Rattle.rules.specs.Limits.{max_places}
use Rattle.rules.specs.Count.{num, same}
use Rattle.border_theory.specs.Memory.Layout.{at, stacked}
use Rattle.state_theory.specs.Opening.Front.{FreedBelow}
use Rattle.counting.proofs.Counts.{same_yes, same_no}

-- the first k of the stack are as they were
pub stacked_same : (m m' : List ℕ) (k x : ℕ) → ((j : ℕ) → j < k → at m' (4 * max_places + j) ≡ at m (4 * max_places + j))
    → stacked max_places m' k x ≡ stacked max_places m k x
unfolding stacked
stacked_same m m' zero x h = refl
stacked_same m m' (suc k) x h =
    omega (arith, ap (same x) (h k (omega arith)), stacked_same m m' k x (λ j l. h j (omega (arith, l))))

-- one more place, which counts if it is not marked
below_next : (x i : ℕ) (t : Bool) → (x ≡ i → ⊥) → num (ltb x i && t) ≡ num (ltb x (suc i) && t)
below_next x i t d = go (ltb x i) refl
  where
    go : (u : Bool) → ltb x i ≡ u → num (u && t) ≡ num (ltb x (suc i) && t)
    go true e = sym (ap (λ (z : Bool). num (z && t)) (lt-ltb x (suc i) (omega (arith, ltb-true x i e))))
    go false e = sym (ap (λ (z : Bool). num (z && t)) (le-ltb x (suc i) (omega (arith, ltb-false x i e, d))))

unmarked_more : (s : List ℕ) (x i : ℕ)
    → num (ltb x i && eqb (get_or s x 0) 0) + same x i * num (eqb (get_or s i 0) 0) ≡ num (ltb x (suc i) && eqb (get_or s x 0) 0)
unmarked_more s x i = go (eqb x i) refl
  where
    go : (u : Bool) → eqb x i ≡ u
        → num (ltb x i && eqb (get_or s x 0) 0) + same x i * num (eqb (get_or s i 0) 0) ≡ num (ltb x (suc i) && eqb (get_or s x 0) 0)
    go true e =
        let z : x ≡ i = eqb-true x i e in
        rw z (omega (
          arith,
          ap (λ (t : ℕ). t * num (eqb (get_or s i 0) 0)) (same_yes i),
          ap (λ (t : Bool). num (t && eqb (get_or s i 0) 0)) (le-ltb i i (omega arith)),
          ap (λ (t : Bool). num (t && eqb (get_or s i 0) 0)) (lt-ltb i (suc i) (omega arith)),
        ))
    go false e =
        omega (
          arith,
          ap (λ (t : ℕ). t * num (eqb (get_or s i 0) 0)) (same_no x i (eqb-false x i e)),
          below_next x i (eqb (get_or s x 0) 0) (eqb-false x i e),
        )

pub freed_none : (s m : List ℕ) → FreedBelow s m 0 0 m
unfolding stacked
freed_none s m = record {
  stack = λ x. sym (ap (λ (t : Bool). num (t && eqb (get_or s x 0) 0)) (le-ltb x 0 (omega arith)));
  few = omega arith;
  same = λ j l. refl;
  lengths = refl;
}

-- place i is written on top of the stack, and stays there if it is not marked
module _ (s m : List ℕ) (i k : ℕ) (m' : List ℕ) (f : FreedBelow s m i k m') (h : i < max_places) (long : 5 * max_places ≤ length m) where
  top_here : at (set m' (4 * max_places + k) i) (4 * max_places + k) ≡ i
  top_here = get_or-set_same m' (4 * max_places + k) i 0 (omega (arith, f.lengths, f.few, h, long))

  rest_same : (x : ℕ) → stacked max_places (set m' (4 * max_places + k) i) k x ≡ stacked max_places m' k x
  rest_same x =
      stacked_same m' (set m' (4 * max_places + k) i) k x
      (λ j l. get_or-set_other m' (4 * max_places + k) (4 * max_places + j) i 0 (λ e. omega (arith, e, l)))

  stack_more : (t : Bool) (x : ℕ)
      → stacked max_places (set m' (4 * max_places + k) i) (k + num t) x ≡ stacked max_places m' k x + same x i * num t
  unfolding stacked
  stack_more true x =
      let e : k + 1 ≡ suc k = omega arith in
      ap (λ (z : ℕ). stacked max_places (set m' (4 * max_places + k) i) z x) e
      ∙ omega (arith, rest_same x, ap (same x) top_here)
  stack_more false x =
      let e : k + 0 ≡ k = omega arith in
      ap (λ (z : ℕ). stacked max_places (set m' (4 * max_places + k) i) z x) e ∙ omega (arith, rest_same x)

  num_le : (t : Bool) → num t ≤ 1
  num_le true = omega arith
  num_le false = omega arith

  pub freed_more : (u : ℕ) → u ≡ num (eqb (get_or s i 0) 0) → FreedBelow s m (i + 1) (k + u) (set m' (4 * max_places + k) i)
  freed_more u e =
      let d : i + 1 ≡ suc i = omega arith in
      record {
        stack = λ x.
            ap (λ (z : ℕ). stacked max_places (set m' (4 * max_places + k) i) (k + z) x) e ∙ stack_more (eqb (get_or s i 0) 0) x
            ∙ ap (λ (z : ℕ). z + same x i * num (eqb (get_or s i 0) 0)) (f.stack x) ∙ unmarked_more s x i
            ∙ ap (λ (z : ℕ). num (ltb x z && eqb (get_or s x 0) 0)) (sym d);
        few = omega (arith, f.few, e, num_le (eqb (get_or s i 0) 0));
        same = λ j l. get_or-set_other m' (4 * max_places + k) j i 0 (λ q. omega (arith, q, l)) ∙ f.same j l;
        lengths = length-set m' (4 * max_places + k) i ∙ f.lengths;
      }
