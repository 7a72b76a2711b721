-- The run without the edge rule goes by operations.
-- Assumes nothing.
use Prim.Native.Nat.{ℕ, zero, suc, ◌-◌, ◌≤◌, ◌<◌}
use native.Mathlib.Omega.{arith}
use mathlib.Core.Bool.{true, false}
use mathlib.Core.List.{List}
use mathlib.Core.Path.{◌≡◌, refl, ap, ◌∙◌}
use Rattle.rules.specs.declared.Operation.{Operation}
use Rattle.rules.specs.declared.Triangle.{Triangle}
use Rattle.rules.specs.Triangle.{Edge}
use Rattle.rules.specs.Code.{breaks_off, read, read_operation}
use Rattle.rules.specs.Machine.{Machine, refused, built, declared, complete}
use Rattle.rules.specs.Unpack.{Ran, stopped, completed}
use Rattle.rules.specs.Furnace.{operation_freely, run_freely}

-- with n operations to go: the model is complete
pub ran_complete : (n : ℕ) (m : Machine) (xs : List ℕ) → 0 < n → complete m ≡ true → run_freely n m xs ≡ completed m xs
unfolding run_freely
ran_complete zero m xs l h = absurd (omega arith)
ran_complete (suc n) m xs l h = rw (run_freely, h) refl

-- none may be read
pub ran_none : (n : ℕ) (m : Machine) (xs : List ℕ) → n ≤ 0 → run_freely n m xs ≡ stopped 15
unfolding run_freely
ran_none zero m xs l = refl
ran_none (suc n) m xs l = absurd (omega arith)

-- the operation breaks off
pub ran_broken : (n : ℕ) (m : Machine) (xs : List ℕ) → complete m ≡ false → read_operation xs ≡ breaks_off → run_freely n m xs ≡ stopped 15
unfolding run_freely
ran_broken zero m xs h e = refl
ran_broken (suc n) m xs h e = rw (run_freely, h, e) refl

module _ (m : Machine) (xs ys : List ℕ) (o : Operation) (h : complete m ≡ false) (e : read_operation xs ≡ read o ys) where
  -- it is refused
  pub ran_refused : (n k : ℕ) → 0 < n → operation_freely m o ≡ refused k → run_freely n m xs ≡ stopped k
  unfolding run_freely
  ran_refused zero k l f = absurd (omega arith)
  ran_refused (suc n) k l f = rw (run_freely, h, e, f) refl

  -- it builds a triangle, or marks an edge
  pub ran_built : (n : ℕ) (t : Triangle) (m' : Machine) → 0 < n → operation_freely m o ≡ built t m'
      → run_freely n m xs ≡ run_freely (n - 1) m' ys
  unfolding run_freely
  ran_built zero t m' l f = absurd (omega arith)
  ran_built (suc n) t m' l f = let k : suc n - 1 ≡ n = omega arith in rw (k, run_freely, h, e, f) refl

  pub ran_marked : (n : ℕ) (d : Edge) (m' : Machine) → 0 < n → operation_freely m o ≡ declared d m'
      → run_freely n m xs ≡ run_freely (n - 1) m' ys
  unfolding run_freely
  ran_marked zero d m' l f = absurd (omega arith)
  ran_marked (suc n) d m' l f = let k : suc n - 1 ≡ n = omega arith in rw (k, run_freely, h, e, f) refl
