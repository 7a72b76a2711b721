-- The stack of waiting loops: one more put on it, one taken out of it.
-- Assumes nothing.
use Prim.Native.Nat.{ℕ, zero, suc, ◌+◌, ◌*◌, ◌≤◌, ◌<◌}
use native.Mathlib.Omega.{arith}
use mathlib.Core.Bool.{Bool, true, false}
use mathlib.Core.List.{List, [], ◌∷◌}
use mathlib.Core.Path.{◌≡◌, refl, sym, ap, ◌∙◌}
use lib.ListN.{length, set, length-set}
use lib.Seq.{get_or-set_same, get_or-set_other}
use lib.Dec.{eqb}
use borrow.Author.Tests.{eqb-true, eqb-false}
use Rattle.rules.specs.Ring.{Ring, start_or, loop_at, without}
use Rattle.book.proofs.Sums.{length_without}
use Rattle.border_theory.specs.Memory.Layout.{at, waits, moved_down}
use Rattle.border_theory.specs.Memory.Stands.{Waits}

-- the loops stay where their own numbers do
pub waits_within : (n : ℕ) (m m' : List ℕ) (ws : List Ring) → ((i : ℕ) → 5 * n ≤ i → i < 5 * n + 2 * length ws → at m' i ≡ at m i)
    → Waits n m ws → Waits n m' ws
waits_within n m m' [] h w = tt
waits_within n m m' (l ∷ ws) h w = (
  h (5 * n + 2 * length ws) (omega arith) (omega arith) ∙ w.0,
  h (5 * n + 2 * length ws + 1) (omega arith) (omega arith) ∙ w.1,
  waits_within n m m' ws (λ i j k. h i j (omega (arith, k))) w.2,
)

-- waiting loop i, counted from the latest, stands at l
pub waits_at : (n : ℕ) (m : List ℕ) (ws : List Ring) (i l : ℕ) → l + i + 1 ≡ length ws → Waits n m ws
    → (at m (5 * n + 2 * l) ≡ start_or 0 (loop_at ws i)) × (at m (5 * n + 2 * l + 1) ≡ length (loop_at ws i))
unfolding loop_at
waits_at n m [] i l e w = absurd (omega arith)
waits_at n m (x ∷ ws) zero l e w =
    let d : l ≡ length ws = omega (arith, e) in
    (ap (λ (k : ℕ). at m (5 * n + 2 * k)) d ∙ w.0, ap (λ (k : ℕ). at m (5 * n + 2 * k + 1)) d ∙ w.1)
waits_at n m (x ∷ ws) (suc i) l e w = waits_at n m ws i l (omega (arith, e)) w.2

-- one loop written at l
module _ (n : ℕ) (m : List ℕ) (l p k : ℕ) where
  pub waits_length : length (waits n m l p k) ≡ length m
  waits_length = simp length-set

  pub waits_other : (i : ℕ) → (i ≡ 5 * n + 2 * l → ⊥) → (i ≡ 5 * n + 2 * l + 1 → ⊥) → at (waits n m l p k) i ≡ at m i
  waits_other i a b = get_or-set_other (set m (5 * n + 2 * l) p) (5 * n + 2 * l + 1) i k 0 b ∙ get_or-set_other m (5 * n + 2 * l) i p 0 a

  pub waits_first : 5 * n + 2 * l + 1 < length m → at (waits n m l p k) (5 * n + 2 * l) ≡ p
  waits_first h =
      get_or-set_other (set m (5 * n + 2 * l) p) (5 * n + 2 * l + 1) (5 * n + 2 * l) k 0 (λ e. omega (arith, e))
      ∙ get_or-set_same m (5 * n + 2 * l) p 0 (omega arith)

  pub waits_second : 5 * n + 2 * l + 1 < length m → at (waits n m l p k) (5 * n + 2 * l + 1) ≡ k
  waits_second h = get_or-set_same (set m (5 * n + 2 * l) p) (5 * n + 2 * l + 1) k 0 (simp length-set h)

-- k loops moved down by one, to l and on
pub record Down (n : ℕ) (m : List ℕ) (l k : ℕ) (m' : List ℕ) : Type 0 where
  pub lengths : length m' ≡ length m
  pub before : (i : ℕ) → i < 5 * n + 2 * l → at m' i ≡ at m i
  pub after : (i : ℕ) → 5 * n + 2 * (l + k) ≤ i → at m' i ≡ at m i
  pub first : (j : ℕ) → l ≤ j → j < l + k → at m' (5 * n + 2 * j) ≡ at m (5 * n + 2 * (j + 1))
  pub second : (j : ℕ) → l ≤ j → j < l + k → at m' (5 * n + 2 * j + 1) ≡ at m (5 * n + 2 * (j + 1) + 1)

module _ (n : ℕ) (m : List ℕ) (l k p q : ℕ) (m' : List ℕ) (ep : p ≡ at m (5 * n + 2 * (l + 1))) (eq : q ≡ at m (5 * n + 2 * (l + 1) + 1))
    (h : 5 * n + 2 * (l + suc k + 1) ≤ length m) (r : Down n (waits n m l p q) (l + 1) k m') where
  one : (j : ℕ) → l ≤ j → j < l + suc k → (t : Bool) → eqb j l ≡ t → at m' (5 * n + 2 * j) ≡ at m (5 * n + 2 * (j + 1))
  one j a b true e =
      let z : j ≡ l = eqb-true j l e in
      r.before (5 * n + 2 * j) (omega (arith, z)) ∙ ap (λ (x : ℕ). at (waits n m l p q) (5 * n + 2 * x)) z
      ∙ waits_first n m l p q (omega (arith, h)) ∙ ep
      ∙ ap (λ (x : ℕ). at m (5 * n + 2 * (x + 1))) (sym z)
  one j a b false e =
      let z : j ≡ l → ⊥ = eqb-false j l e in
      r.first j (omega (arith, a, z)) (omega (arith, b))
      ∙ waits_other n m l p q (5 * n + 2 * (j + 1)) (λ y. omega (arith, y, a)) (λ y. omega (arith, y, a))

  two : (j : ℕ) → l ≤ j → j < l + suc k → (t : Bool) → eqb j l ≡ t → at m' (5 * n + 2 * j + 1) ≡ at m (5 * n + 2 * (j + 1) + 1)
  two j a b true e =
      let z : j ≡ l = eqb-true j l e in
      r.before (5 * n + 2 * j + 1) (omega (arith, z)) ∙ ap (λ (x : ℕ). at (waits n m l p q) (5 * n + 2 * x + 1)) z
      ∙ waits_second n m l p q (omega (arith, h))
      ∙ eq ∙ ap (λ (x : ℕ). at m (5 * n + 2 * (x + 1) + 1)) (sym z)
  two j a b false e =
      let z : j ≡ l → ⊥ = eqb-false j l e in
      r.second j (omega (arith, a, z)) (omega (arith, b))
      ∙ waits_other n m l p q (5 * n + 2 * (j + 1) + 1) (λ y. omega (arith, y, a)) (λ y. omega (arith, y, a))

  one_down : Down n m l (suc k) m'
  one_down = record {
    lengths = r.lengths ∙ waits_length n m l p q;
    before = λ i j. r.before i (omega (arith, j)) ∙ waits_other n m l p q i (λ e. omega (arith, e)) (λ e. omega (arith, e));
    after = λ i j. r.after i (omega (arith, j)) ∙ waits_other n m l p q i (λ e. omega (arith, e, j)) (λ e. omega (arith, e, j));
    first = λ j a b. one j a b (eqb j l) refl;
    second = λ j a b. two j a b (eqb j l) refl;
  }

pub moved_down_lem : (n : ℕ) (m : List ℕ) (l k : ℕ) → 5 * n + 2 * (l + k + 1) ≤ length m → Down n m l k (moved_down n m l k)
unfolding moved_down
moved_down_lem n m l zero h = record {
  lengths = refl;
  before = λ i j. refl;
  after = λ i j. refl;
  first = λ j a b. absurd (omega (arith, b));
  second = λ j a b. absurd (omega (arith, b));
}
moved_down_lem n m l (suc k) h =
    let p : ℕ = at m (5 * n + 2 * (l + 1)) in
    let q : ℕ = at m (5 * n + 2 * (l + 1) + 1) in
    one_down n m l k p q (moved_down n (waits n m l p q) (l + 1) k) refl refl h
    (moved_down_lem n (waits n m l p q) (l + 1) k (omega (arith, h, waits_length n m l p q)))

-- so waiting loop i is out
pub waits_without : (n : ℕ) (m m' : List ℕ) (ws : List Ring) (i l : ℕ) → l + i + 1 ≡ length ws → Waits n m ws
    → ((x : ℕ) → x < 5 * n + 2 * l → at m' x ≡ at m x)
    → ((j : ℕ) → l ≤ j → j < l + i → at m' (5 * n + 2 * j) ≡ at m (5 * n + 2 * (j + 1)))
    → ((j : ℕ) → l ≤ j → j < l + i → at m' (5 * n + 2 * j + 1) ≡ at m (5 * n + 2 * (j + 1) + 1)) → Waits n m' (without ws i)
unfolding without
waits_without n m m' [] i l e w a b c = tt
waits_without n m m' (x ∷ ws) zero l e w a b c = waits_within n m m' ws (λ i j k. a i (omega (arith, k, e))) w.2
waits_without n m m' (x ∷ ws) (suc i) l e w a b c =
    let d : length (without ws i) ≡ l + i = omega (arith, e, length_without ws i (omega (arith, e))) in
    let f : l + i + 1 ≡ length ws = omega (arith, e) in (
      ap (λ (k : ℕ). at m' (5 * n + 2 * k)) d ∙ b (l + i) (omega arith) (omega arith) ∙ ap (λ (k : ℕ). at m (5 * n + 2 * k)) f ∙ w.0,
      ap (λ (k : ℕ). at m' (5 * n + 2 * k + 1)) d ∙ c (l + i) (omega arith) (omega arith) ∙ ap (λ (k : ℕ). at m (5 * n + 2 * k + 1)) f
          ∙ w.1,
      waits_without n m m' ws i l f w.2 a (λ j y z. b j y (omega (arith, z))) (λ j y z. c j y (omega (arith, z))),
    )
