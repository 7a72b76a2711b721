-- The run without the edge rule beside the run with it: they come to the same, but where the edge rule refuses.
-- Assumes nothing.
use Prim.Native.Nat.{ℕ, zero, suc}
use mathlib.Core.Bool.{Bool, true, false}
use mathlib.Core.List.{List}
use mathlib.Core.Logic.{◌⊎◌, inl, inr}
use mathlib.Core.Path.{◌≡◌, refl}
use Rattle.rules.specs.declared.Triangle.{Triangle}
use Rattle.rules.specs.Triangle.{Edge}
use Rattle.rules.specs.Table.{Effect, not_allowed, builds, marks, effect, edge_rule}
use Rattle.rules.specs.Machine.{Machine, Step, refused, begun, built, declared, finished, test, within, done, operation, complete}
use Rattle.rules.specs.Machine.{after_build, after_mark}
use Rattle.rules.specs.Code.{Read, breaks_off, read, read_operation}
use Rattle.rules.specs.Unpack.{Ran, stopped, completed, run_all}
use Rattle.rules.specs.Furnace.{done_freely, operation_freely, run_freely}

-- an operation with the edge rule, and the same without; a refusal of the latter has a number of P
data StepsAlike (P : ℕ → Type 0) : Step → Step → Type 0 where
  both_refused : {k : ℕ} → P k → StepsAlike P (refused k) (refused k)
  rule_refused : {t : Triangle} {m : Machine} → StepsAlike P (refused 18) (built t m)
  both_built : {t : Triangle} {m : Machine} → StepsAlike P (built t m) (built t m)
  both_declared : {d : Edge} {m : Machine} → StepsAlike P (declared d m) (declared d m)

-- a run that stops does so with a number of P
abbrev pub StopsWith : (ℕ → Type 0) → Ran → Type 0
StopsWith P (stopped k) = P k
StopsWith P (completed m xs) = Unit {0}

-- a run with the edge rule, and the same without
pub record RunsAlike (P : ℕ → Type 0) (R F : Ran) : Type 0 where
  pub same : (R ≡ stopped 18) ⊎ (R ≡ F)
  pub stops : StopsWith P F

-- the latter stops with 15 to 17
module _ (P : ℕ → Type 0) (at-15 : P 15) (at-16 : P 16) (at-17 : P 17) where
  steps : (m : Machine) (e : Effect) → StepsAlike P (done m e) (done_freely m e)
  unfolding done done_freely test
  steps m not_allowed = both_refused at-16
  steps m (builds x) = go (within (after_build m x)) (edge_rule x.triangle x.sides.pq x.sides.qr x.sides.rp m.triangles)
    where
      go : (w r : Bool)
          → StepsAlike P (test w 17 (test r 18 (built x.triangle (after_build m x)))) (test w 17 (built x.triangle (after_build m x)))
      go true true = both_built
      go true false = rule_refused
      go false r = both_refused at-17
  steps m (marks y) = go (within (after_mark m y))
    where
      go : (w : Bool) → StepsAlike P (test w 17 (declared y.edge (after_mark m y))) (test w 17 (declared y.edge (after_mark m y)))
      go true = both_declared
      go false = both_refused at-17

  by_step : (n : ℕ) (ys : List ℕ) (s f : Step) → StepsAlike P s f → ((m : Machine) → RunsAlike P (run_all n m ys) (run_freely n m ys))
      → RunsAlike P
      (elim s [
        | refused k ↦ stopped k
        | begun m' ↦ stopped 16
        | built t m' ↦ run_all n m' ys
        | declared d m' ↦ run_all n m' ys
        | finished x ↦ stopped 16
      ])
      (elim f [
        | refused k ↦ stopped k
        | begun m' ↦ stopped 16
        | built t m' ↦ run_freely n m' ys
        | declared d m' ↦ run_freely n m' ys
        | finished x ↦ stopped 16
      ])
  by_step n ys s f (both_refused p) ih = record { same = inr refl; stops = p }
  by_step n ys s f (rule_refused {m = m}) ih = record { same = inl refl; stops = (ih m).stops }
  by_step n ys s f (both_built {m = m}) ih = ih m
  by_step n ys s f (both_declared {m = m}) ih = ih m

  by_read : (n : ℕ) (m : Machine) (r : Read) → ((m' : Machine) (ys : List ℕ) → RunsAlike P (run_all n m' ys) (run_freely n m' ys))
      → RunsAlike P
      (elim r [
        | breaks_off ↦ stopped 15
        | read o ys ↦ elim (operation m o) [
          | refused k ↦ stopped k
          | begun m' ↦ stopped 16
          | built t m' ↦ run_all n m' ys
          | declared d m' ↦ run_all n m' ys
          | finished x ↦ stopped 16
        ]
      ])
      (elim r [
        | breaks_off ↦ stopped 15
        | read o ys ↦ elim (operation_freely m o) [
          | refused k ↦ stopped k
          | begun m' ↦ stopped 16
          | built t m' ↦ run_freely n m' ys
          | declared d m' ↦ run_freely n m' ys
          | finished x ↦ stopped 16
        ]
      ])
  by_read n m breaks_off ih = record { same = inr refl; stops = at-15 }
  by_read n m (read o ys) ih =
      by_step n ys (operation m o) (operation_freely m o) (steps m (effect o m.used m.loops)) (λ m'. ih m' ys)

  by_complete : (m : Machine) (xs : List ℕ) (c : Bool) (R F : Ran) → RunsAlike P R F
      → RunsAlike P (elim c [ true ↦ completed m xs | false ↦ R ]) (elim c [ true ↦ completed m xs | false ↦ F ])
  by_complete m xs true R F h = record { same = inr refl; stops = tt }
  by_complete m xs false R F h = h

  pub runs_freely : (n : ℕ) (m : Machine) (xs : List ℕ) → RunsAlike P (run_all n m xs) (run_freely n m xs)
  unfolding run_all run_freely
  runs_freely zero m xs = record { same = inr refl; stops = at-15 }
  runs_freely (suc n) m xs =
      by_complete m xs (complete m) _ _ (by_read n m (read_operation xs) (λ m' ys. runs_freely n m' ys))
