-- Running operations from bits until the model is complete is running the operations that the bits hold.
-- Assumes nothing.
use Prim.Native.Nat.{ℕ, zero, suc, ◌<◌}
use native.Mathlib.Omega.{arith}
use mathlib.Core.Bool.{Bool, true, false}
use mathlib.Core.List.{List, [], ◌∷◌}
use mathlib.Core.Path.{◌≡◌, refl, sym, ap, ◌∙◌, subst}
use lib.ListN.{length}
use lib.Dec.{eqb}
use borrow.Author.Tests.{eqb-true}
use Rattle.rules.specs.declared.Triangle.{Triangle}
use Rattle.rules.specs.declared.Operation.{Operation}
use Rattle.rules.specs.Triangle.{Edge}
use Rattle.rules.specs.Ring.{Ring}
use Rattle.rules.specs.Table.{effect}
use Rattle.rules.specs.Code.{Read, breaks_off, read, read_operation}
use Rattle.rules.specs.Machine.{Machine, Step, refused, begun, built, declared, finished, operation, complete}
use Rattle.rules.specs.Unpack.{Ran, stopped, completed, run_all}
use Rattle.choice_theory.specs.Works.{Works, w_none, w_built, w_declared, Reads, none_read, one_read}
use Rattle.choice_theory.proofs.Steps.Allowances.{OnlyStart, only_start}
use Rattle.choice_theory.proofs.Steps.Operating.{built_of, declared_of}
use Rattle.counting.proofs.Bools.{and_true}

-- what a run of the bits comes to
pub record Held (m : Machine) (xs : List ℕ) (m' : Machine) (ys : List ℕ) : Type 0 where
  pub operations : List Operation
  pub works : Works m operations m'
  pub reads : Reads xs operations ys
  pub whole : complete m' ≡ true

Holds : Machine → List ℕ → Ran → Type 0
Holds m xs (stopped n) = Unit {0}
Holds m xs (completed m' ys) = Held m xs m' ys

holds_built : (m m' : Machine) (o : Operation) (t : Triangle) (xs ys : List ℕ) (r : Ran) → read_operation xs ≡ read o ys
    → operation m o ≡ built t m' → Holds m' ys r → Holds m xs r
unfolding Holds
holds_built m m' o t xs ys (stopped n) e h r = tt
holds_built m m' o t xs ys (completed k zs) e h r =
    record { operations = o ∷ r.operations; works = w_built h r.works; reads = one_read e r.reads; whole = r.whole }

holds_declared : (m m' : Machine) (o : Operation) (d : Edge) (xs ys : List ℕ) (r : Ran) → read_operation xs ≡ read o ys
    → operation m o ≡ declared d m' → Holds m' ys r → Holds m xs r
unfolding Holds
holds_declared m m' o d xs ys (stopped n) e h r = tt
holds_declared m m' o d xs ys (completed k zs) e h r =
    record { operations = o ∷ r.operations; works = w_declared h r.works; reads = one_read e r.reads; whole = r.whole }

-- the branches of one turn
after_step : (n : ℕ) (m : Machine) (xs : List ℕ) (o : Operation) (ys : List ℕ) (s : Step) → read_operation xs ≡ read o ys
    → operation m o ≡ s
    → ((k : Machine) → Holds k ys (run_all n k ys))
    → Holds m xs (elim s [
      | refused k ↦ stopped k
      | begun m' ↦ stopped 16
      | built t m' ↦ run_all n m' ys
      | declared d m' ↦
          run_all n m' ys
      | finished x ↦ stopped 16
    ])
unfolding Holds
after_step n m xs o ys (refused k) e h ih = tt
after_step n m xs o ys (begun k) e h ih = tt
after_step n m xs o ys (built t k) e h ih = holds_built m k o t xs ys (run_all n k ys) e h (ih k)
after_step n m xs o ys (declared d k) e h ih = holds_declared m k o d xs ys (run_all n k ys) e h (ih k)
after_step n m xs o ys (finished x) e h ih = tt

after_read : (n : ℕ) (m : Machine) (xs : List ℕ) (r : Read) → read_operation xs ≡ r
    → ((k : Machine) (ys : List ℕ) → Holds k ys (run_all n k ys))
    → Holds m xs
    (elim r [
      | breaks_off ↦ stopped 15
      | read o ys ↦ elim (operation m o) [
        | refused k ↦ stopped k
        | begun m' ↦ stopped 16
        | built t m' ↦ run_all n m' ys
        | declared d m' ↦ run_all n m' ys
        | finished x ↦
            stopped 16
      ]
    ])
unfolding Holds
after_read n m xs breaks_off e ih = tt
after_read n m xs (read o ys) e ih = after_step n m xs o ys (operation m o) e refl (λ k. ih k ys)

after_test : (n : ℕ) (m : Machine) (xs : List ℕ) (b : Bool) (r : Ran) → complete m ≡ b → Holds m xs r
    → Holds m xs (elim b [ true ↦ completed m xs | false ↦ r ])
unfolding Holds
after_test n m xs true r e h = record { operations = []; works = w_none; reads = none_read; whole = e }
after_test n m xs false r e h = h

holds : (n : ℕ) (m : Machine) (xs : List ℕ) → Holds m xs (run_all n m xs)
unfolding run_all Holds
holds zero m xs = tt
holds (suc n) m xs = after_test n m xs (complete m) _ refl (after_read n m xs (read_operation xs) refl (λ k ys. holds n k ys))

pub held_of : (n : ℕ) (m : Machine) (xs : List ℕ) (m' : Machine) (ys : List ℕ) → run_all n m xs ≡ completed m' ys → Held m xs m' ys
unfolding Holds
held_of n m xs m' ys h = subst (Holds m xs) h (holds n m xs)

-- a complete model takes no operation
full : (m : Machine) → complete m ≡ true → (length m.triangles ≡ m.stated.triangles) × (length m.loops ≡ 0)
full m h =
    let r = and_true (eqb (length m.triangles) m.stated.triangles) (eqb (length m.loops) 0) h in
    (eqb-true (length m.triangles) m.stated.triangles r.0, eqb-true (length m.loops) 0 r.1)

pub no_loops_lem : (ls : List Ring) → length ls ≡ 0 → ls ≡ []
no_loops_lem [] h = refl
no_loops_lem (l ∷ ls) h = absurd (omega arith)

not_built : (m m' : Machine) (o : Operation) (t : Triangle) → operation m o ≡ built t m' → complete m ≡ false
not_built m m' o t h = go (complete m) refl
  where
    go : (b : Bool) → complete m ≡ b → b ≡ false
    go true e = let f = (full m e).0 in let k = (built_of m (effect o m.used m.loops) t m' h).not_full in absurd (omega arith)
    go false e = refl

not_declared : (m m' : Machine) (o : Operation) (d : Edge) → operation m o ≡ declared d m' → complete m ≡ false
unfolding effect OnlyStart
not_declared m m' o d h = go (complete m) refl
  where
    go : (b : Bool) → complete m ≡ b → b ≡ false
    go true e =
        let l = no_loops_lem m.loops (full m e).1 in
        let k = (declared_of m (effect o m.used m.loops) d m' h).effect in
        absurd (subst (OnlyStart o m.used) (sym (ap (effect o m.used) l) ∙ k) (only_start o m.used))
    go false e = refl

run_done : (n : ℕ) (m : Machine) (xs : List ℕ) → complete m ≡ true → run_all (suc n) m xs ≡ completed m xs
unfolding run_all
run_done n m xs h = rw (run_all, h) refl

run_built : (n : ℕ) (m m' : Machine) (o : Operation) (t : Triangle) (xs ys : List ℕ) → complete m ≡ false → read_operation xs ≡ read o ys
    → operation m o ≡ built t m'
    → run_all (suc n) m xs ≡ run_all n m' ys
unfolding run_all
run_built n m m' o t xs ys h e k = rw (run_all, h, e, k) refl

run_declared : (n : ℕ) (m m' : Machine) (o : Operation) (d : Edge) (xs ys : List ℕ) → complete m ≡ false → read_operation xs ≡ read o ys
    → operation m o ≡ declared d m'
    → run_all (suc n) m xs ≡ run_all n m' ys
unfolding run_all
run_declared n m m' o d xs ys h e k = rw (run_all, h, e, k) refl

-- so the operations that bits hold are run to the end
pub run_of_lem : {m m' : Machine} {os : List Operation} {xs ys : List ℕ} (n : ℕ) → Works m os m' → Reads xs os ys → complete m' ≡ true
    → length os < n
    → run_all n m xs ≡ completed m' ys
run_of_lem zero w r c h = absurd (omega arith)
run_of_lem {m} {xs = xs} (suc n) w_none none_read c h = run_done n m xs c
run_of_lem {m} {xs = xs} (suc n) (w_built {m' = k} {o = o} {t = t} e w) (one_read {ys = zs} f r) c h =
    run_built n m k o t xs zs (not_built m k o t e) f e ∙ run_of_lem n w r c (omega arith)
run_of_lem {m} {xs = xs} (suc n) (w_declared {m' = k} {o = o} {d = d} e w) (one_read {ys = zs} f r) c h =
    run_declared n m k o d xs zs (not_declared m k o d e) f e ∙ run_of_lem n w r c (omega arith)
