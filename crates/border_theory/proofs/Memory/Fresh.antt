-- A building that begins keeps the machine that has no triangle.
-- Assumes nothing.
use Prim.Native.Nat.{ℕ, zero, suc, ◌+◌, ◌*◌, ◌≤◌, ◌<◌}
use native.Mathlib.Omega.{arith}
use mathlib.Core.Bool.{Bool, true, false}
use mathlib.Core.List.{List, []}
use mathlib.Core.Path.{◌≡◌, refl, sym, ap, ◌∙◌}
use lib.ListN.{length, set, length-set}
use lib.Seq.{get_or-set_same, get_or-set_other}
use lib.Dec.{eqb, ltb}
use borrow.Author.Tests.{eqb-true, eqb-false, lt-ltb, le-ltb, ltb-true, ltb-false}
use Rattle.rules.specs.declared.Counts.{Counts}
use Rattle.rules.specs.Count.{num, same}
use Rattle.rules.specs.Machine.{empty}
use Rattle.book.specs.Sums.{loops_sum}
use Rattle.border_theory.specs.Links.Held.{named_loops}
use Rattle.border_theory.specs.Memory.Layout.{at, stacked}
use Rattle.border_theory.specs.Memory.Stands.{live_in, StandsAt}
use Rattle.border_theory.specs.Memory.Keeps.{Roomy, Keeps}
use Rattle.border_theory.specs.Memory.Fresh.{all_free, no_loops, fresh_front}
use Rattle.counting.proofs.Counts.{same_yes, same_no}

pub free_length : (n : ℕ) (m : List ℕ) (k : ℕ) → length (all_free n m k) ≡ length m
unfolding all_free
free_length n m zero = refl
free_length n m (suc k) = length-set (all_free n m k) (4 * n + k) k ∙ free_length n m k

free_at : (n : ℕ) (m : List ℕ) (k j : ℕ) → j < k → 4 * n + k ≤ length m → at (all_free n m k) (4 * n + j) ≡ j
unfolding all_free
free_at n m zero j h l = absurd (omega arith)
free_at n m (suc k) j h l = go (eqb j k) refl (λ i. free_at n m k j i (omega arith))
  where
    go : (t : Bool) → eqb j k ≡ t → (j < k → at (all_free n m k) (4 * n + j) ≡ j) → at (set (all_free n m k) (4 * n + k) k) (4 * n + j) ≡ j
    go true e more =
        let z : j ≡ k = eqb-true j k e in
        rw z (get_or-set_same (all_free n m k) (4 * n + k) k 0 (omega (arith, free_length n m k)))
    go false e more =
        get_or-set_other (all_free n m k) (4 * n + k) (4 * n + j) k 0 (λ y. eqb-false j k e (omega (arith, y)))
        ∙ more (omega (arith, eqb-false j k e))

below_more : (x k : ℕ) → same x k + num (ltb x k) ≡ num (ltb x (suc k))
below_more x k = go (eqb x k) refl
  where
    above : (t : Bool) → ltb x k ≡ t → (x ≡ k → ⊥) → num t ≡ num (ltb x (suc k))
    above true e d = sym (ap num (lt-ltb x (suc k) (omega (arith, ltb-true x k e))))
    above false e d = sym (ap num (le-ltb x (suc k) (omega (arith, ltb-false x k e, d))))

    go : (t : Bool) → eqb x k ≡ t → same x k + num (ltb x k) ≡ num (ltb x (suc k))
    go true e =
        let z : x ≡ k = eqb-true x k e in
        omega (
          arith,
          ap (same x) (sym z),
          same_yes x,
          ap num (le-ltb x k (omega (arith, z))),
          ap num (lt-ltb x (suc k) (omega (arith, z))),
        )
    go false e = omega (arith, same_no x k (eqb-false x k e), above (ltb x k) refl (eqb-false x k e))

-- each place below n is on the stack, once
free_stacked : (n : ℕ) (m : List ℕ) (x k : ℕ) → ((j : ℕ) → j < k → at m (4 * n + j) ≡ j) → stacked n m k x ≡ num (ltb x k)
unfolding stacked
free_stacked n m x zero h = sym (ap num (le-ltb x 0 (omega arith)))
free_stacked n m x (suc k) h =
    omega (arith, ap (same x) (h k (omega arith)), free_stacked n m x k (λ j l. h j (omega arith)), below_more x k)

pub fresh_stands : (n : ℕ) (m : List ℕ) → 5 * n ≤ length m → StandsAt n (no_loops n) (all_free n m n) []
unfolding loops_sum
fresh_stands n m h = record {
  long = omega (arith, h, free_length n m n);
  holds = λ x y o k. absurd (omega (arith, k));
  each = λ x. omega (arith, free_stacked n (all_free n m n) x n (λ j l. free_at n m n j l (omega (arith, h))));
  heads = refl;
  sound = tt;
}

-- the state and the memory that a beginning makes
pub fresh_keeps : (n : ℕ) (c : Counts) (m : List ℕ) → Roomy n (fresh_front n c) m → Keeps n (fresh_front n c) (all_free n m n) (empty c)
unfolding live_in named_loops
fresh_keeps n c m r = record {
  roomy = record { few = r.few; enough = r.enough; long = omega (arith, r.long, free_length n m n) };
  stands = fresh_stands n m (omega (arith, r.long));
  loops = refl;
  stated = refl;
  used = refl;
  triangles = refl;
  most_places = refl;
  most_loops = refl;
  edges = refl;
  starts = refl;
  unions = refl;
  rims = refl;
}
