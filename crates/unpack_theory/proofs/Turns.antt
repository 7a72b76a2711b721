-- The run of an unpacking goes by turns.
-- Assumes nothing.
use Prim.Native.Nat.{ℕ, zero, suc, ◌-◌, ◌≤◌, ◌<◌}
use native.Mathlib.Omega.{arith}
use mathlib.Core.Bool.{true, false}
use mathlib.Core.List.{List}
use mathlib.Core.Path.{◌≡◌, refl, ap, ◌∙◌}
use Rattle.rules.specs.declared.Operation.{Operation}
use Rattle.rules.specs.Code.{Read, breaks_off, read, read_operation}
use Rattle.rules.specs.Machine.{Machine, Step, refused, begun, built, declared, finished, operation, complete}
use Rattle.rules.specs.Unpack.{Ran, stopped, completed, run_all}
use Rattle.unpack_theory.specs.Turn.{Turn, stops, goes, turn_by, turn_of, turn}

-- the run after a turn, by n operations more
abbrev onward : ℕ → Turn → Ran
onward n (stops k) = stopped k
onward n (goes m ys) = run_all n m ys

by_step : (n : ℕ) (m : Machine) (xs ys : List ℕ) (o : Operation) → complete m ≡ false → read_operation xs ≡ read o ys → (s : Step)
    → operation m o ≡ s → run_all (suc n) m xs ≡ onward n (turn_by ys s)
unfolding run_all
by_step n m xs ys o h e (refused k) f = rw (run_all, h, e, f) refl
by_step n m xs ys o h e (begun m') f = rw (run_all, h, e, f) refl
by_step n m xs ys o h e (built t m') f = rw (run_all, h, e, f) refl
by_step n m xs ys o h e (declared d m') f = rw (run_all, h, e, f) refl
by_step n m xs ys o h e (finished x) f = rw (run_all, h, e, f) refl

by_read : (n : ℕ) (m : Machine) (xs : List ℕ) → complete m ≡ false → (r : Read) → read_operation xs ≡ r
    → run_all (suc n) m xs ≡ onward n (turn_of m r)
unfolding run_all
by_read n m xs h breaks_off e = rw (run_all, h, e) refl
by_read n m xs h (read o ys) e = by_step n m xs ys o h e (operation m o) refl

by_turn : (n : ℕ) (m : Machine) (xs : List ℕ) → complete m ≡ false → run_all (suc n) m xs ≡ onward n (turn m xs)
unfolding turn
by_turn n m xs h = by_read n m xs h (read_operation xs) refl

-- with n operations to go: the model is complete
pub ran_complete : (n : ℕ) (m : Machine) (xs : List ℕ) → 0 < n → complete m ≡ true → run_all n m xs ≡ completed m xs
unfolding run_all
ran_complete zero m xs l h = absurd (omega arith)
ran_complete (suc n) m xs l h = rw (run_all, h) refl

-- a turn is refused
pub ran_stops : (n : ℕ) (m : Machine) (xs : List ℕ) (k : ℕ) → 0 < n → complete m ≡ false → turn m xs ≡ stops k → run_all n m xs ≡ stopped k
ran_stops zero m xs k l h e = absurd (omega arith)
ran_stops (suc n) m xs k l h e = by_turn n m xs h ∙ ap (onward n) e

-- a turn goes on
pub ran_goes : (n : ℕ) (m m' : Machine) (xs ys : List ℕ) → 0 < n → complete m ≡ false → turn m xs ≡ goes m' ys
    → run_all n m xs ≡ run_all (n - 1) m' ys
ran_goes zero m m' xs ys l h e = absurd (omega arith)
ran_goes (suc n) m m' xs ys l h e =
    by_turn n m xs h ∙ ap (onward n) e ∙ ap (λ (k : ℕ). run_all k m' ys) (before n)
  where
    before : (k : ℕ) → k ≡ suc k - 1
    before k = omega arith

-- and with none to go it breaks off
pub ran_out : (n : ℕ) (m : Machine) (xs : List ℕ) → n ≤ 0 → run_all n m xs ≡ stopped 15
unfolding run_all
ran_out zero m xs l = refl
ran_out (suc n) m xs l = absurd (omega arith)
