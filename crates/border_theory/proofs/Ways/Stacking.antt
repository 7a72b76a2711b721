-- the stacks.
-- Assumes nothing.
use Prim.Native.Nat.{ℕ, zero, suc, ◌+◌, ◌-◌, ◌*◌, ◌≤◌, ◌<◌}
use native.Mathlib.Omega.{arith}
use native.Mathlib.Numerals.{add-one}
use mathlib.Core.List.{List}
use mathlib.Core.Path.{◌≡◌, refl, ap, ◌∙◌}
use lib.ListN.{length, set, length-set}
use lib.Seq.{get_or-set_other}
use Rattle.border_theory.specs.Memory.Fresh.{all_free}
use Rattle.border_theory.specs.Memory.Layout.{at, after_of, freed, released, walked, waits, moved_down}

-- the places j places along from x, in a memory with the same records
walked_same : (n : ℕ) (m m' : List ℕ) → ((i : ℕ) → i < 4 * n → at m' i ≡ at m i) → (k x : ℕ) → ((i : ℕ) → i < k → walked m i x < n)
    → (i : ℕ) → i < k → walked m' i x ≡ walked m i x
unfolding walked
walked_same n m m' h k x near zero l = refl
walked_same n m m' h k x near (suc i) l =
    let b : x < n = near 0 (omega arith) in
    ap (walked m' i) (h (4 * x + 2) (omega arith))
    ∙ walked_same n m m' h (k - 1) (after_of m x) (λ j y. near (suc j) (omega (arith, y))) i (omega arith)

-- j places put on the stack from x on, of those from p on
pub record Releases (n : ℕ) (m₀ : List ℕ) (k₀ j₀ p : ℕ) (m : List ℕ) (k j x : ℕ) : Type 0 where
  pub ends : released n m k j x ≡ released n m₀ k₀ j₀ p
  pub near : (i : ℕ) → i < j → walked m i x < n
  pub room : k + j ≤ n
  pub long : length m ≡ length m₀

pub releases_here : (n : ℕ) (m : List ℕ) (j x : ℕ) → ((i : ℕ) → i < j → walked m i x < n) → 0 < j → x < n
unfolding walked
releases_here n m j x h l = h 0 l

pub releases_more : (n : ℕ) (m₀ : List ℕ) (k₀ j₀ p : ℕ) (m : List ℕ) (k j x y : ℕ) (m' : List ℕ) → Releases n m₀ k₀ j₀ p m k j x
    → y ≡ after_of m x
    → m' ≡ freed n m k x → 0 < j → Releases n m₀ k₀ j₀ p m' (k + 1) (j - 1) y
unfolding released
releases_more n m₀ k₀ j₀ p m k zero x y m' r ey em l = absurd (omega arith)
releases_more n m₀ k₀ j₀ p m k (suc j) x y m' r ey em l =
    let d : suc j - 1 ≡ j = omega arith in
    let same : (i : ℕ) → i < 4 * n → at m' i ≡ at m i = λ i b.
    ap (λ (z : List ℕ). at z i) em ∙ get_or-set_other m (4 * n + k) i x 0 (λ e. omega (arith, e)) in
    let ahead : (i : ℕ) → i < j → walked m i y < n = λ i b. rw ey (unfold walked in r.near (suc i) (omega arith)) in
    record {
      ends = rw (d, em, ey) r.ends;
      near = λ i b. rw (walked_same n m m' same j y ahead i (omega (arith, b))) (ahead i (omega (arith, b)));
      room = omega (arith, r.room);
      long = ap length em ∙ length-set m (4 * n + k) x ∙ r.long;
    }

pub releases_done : (n : ℕ) (m₀ : List ℕ) (k₀ j₀ p : ℕ) (m : List ℕ) (k j x : ℕ) → Releases n m₀ k₀ j₀ p m k j x → j ≤ 0
    → m ≡ released n m₀ k₀ j₀ p
unfolding released
releases_done n m₀ k₀ j₀ p m k zero x r l = r.ends
releases_done n m₀ k₀ j₀ p m k (suc j) x r l = absurd (omega arith)

-- k loops moved down to l and on
pub record Moves (n : ℕ) (m₀ : List ℕ) (l₀ k₀ : ℕ) (m : List ℕ) (l k : ℕ) : Type 0 where
  pub ends : moved_down n m l k ≡ moved_down n m₀ l₀ k₀
  pub sum : l + k ≡ l₀ + k₀
  pub long : length m ≡ length m₀

pub moves_more : (n : ℕ) (m₀ : List ℕ) (l₀ k₀ : ℕ) (m : List ℕ) (l k : ℕ) (m' : List ℕ) → Moves n m₀ l₀ k₀ m l k
    → m' ≡ waits n m l (at m (5 * n + 2 * (l + 1))) (at m (5 * n + 2 * (l + 1) + 1)) → 0 < k → Moves n m₀ l₀ k₀ m' (l + 1) (k - 1)
unfolding moved_down
moves_more n m₀ l₀ k₀ m l zero m' r e h = absurd (omega arith)
moves_more n m₀ l₀ k₀ m l (suc k) m' r e h =
    let d : suc k - 1 ≡ k = omega arith in
    record { ends = rw (d, e) r.ends; sum = omega (arith, r.sum); long = ap length e ∙ (simp length-set r.long) }

pub moves_done : (n : ℕ) (m₀ : List ℕ) (l₀ k₀ : ℕ) (m : List ℕ) (l k : ℕ) → Moves n m₀ l₀ k₀ m l k → k ≤ 0 → m ≡ moved_down n m₀ l₀ k₀
unfolding moved_down
moves_done n m₀ l₀ k₀ m l zero r h = r.ends
moves_done n m₀ l₀ k₀ m l (suc k) r h = absurd (omega arith)

-- the places below i are on the stack
pub record Frees (n : ℕ) (m₀ m : List ℕ) (i : ℕ) : Type 0 where
  pub holds : m ≡ all_free n m₀ i
  pub within : i ≤ n
  pub long : length m ≡ length m₀

pub frees_start : (n : ℕ) (m : List ℕ) → Frees n m m 0
unfolding all_free
frees_start n m = record { holds = refl; within = omega arith; long = refl }

pub frees_more : (n : ℕ) (m₀ m : List ℕ) (i : ℕ) → Frees n m₀ m i → i < n → Frees n m₀ (set m (4 * n + i) i) (i + 1)
unfolding all_free
frees_more n m₀ m i f h = record {
  holds = rw (add-one i) (ap (λ (x : List ℕ). set x (4 * n + i) i) f.holds);
  within = omega arith;
  long = length-set m (4 * n + i) i ∙ f.long;
}

pub frees_done : (n : ℕ) (m₀ m : List ℕ) (i : ℕ) → Frees n m₀ m i → n ≤ i → m ≡ all_free n m₀ n
frees_done n m₀ m i f h = let e : i ≡ n = omega (arith, f.within) in f.holds ∙ ap (all_free n m₀) e
