-- Along any run the machine's loops never have more places than the full ones.
-- Assumes nothing.
use Prim.Native.Nat.{ℕ, ◌+◌, ◌≤◌}
use native.Mathlib.Omega.{arith}
use mathlib.Core.List.{List, [], ◌∷◌}
use mathlib.Core.Path.{◌≡◌, refl, sym, ap, ◌∙◌, subst}
use lib.ListN.{length}
use Rattle.rules.specs.declared.Operation.{Operation}
use Rattle.rules.specs.Ring.{Ring, places}
use Rattle.rules.specs.Machine.{Machine}
use Rattle.book.specs.Shown.{shown_all}
use Rattle.book.proofs.Shown.{all_shown_length, fewer_shown}
use Rattle.choice_theory.specs.Works.{Works, w_none, w_built, w_declared}
use Rattle.choice_theory.specs.Full.{full_after, Full, none_full, new_numbers, stepped, full_run, NeverMorePlaces}
use Rattle.choice_theory.proofs.Runs.Working.{Ready, Step, step_built, step_declared}
use Rattle.choice_theory.proofs.Runs.Repacking.{ready_empty}

fewer_all : (ls : List Ring) → places (shown_all ls) ≤ places ls
unfolding places
fewer_all [] = omega arith
fewer_all (l ∷ ls) = omega (arith, fewer_shown l, fewer_all ls)

-- a machine beside its full loops
record Beside (m : Machine) (s : Full) : Type 0 where
  rims : List Ring
  ready : Ready m s.loops rims
  used : m.used ≡ s.used
  most : m.most_places ≤ s.most

fewer_places : (m : Machine) (ls : List Ring) → m.loops ≡ shown_all ls → places m.loops ≤ places ls
fewer_places m ls h = subst (λ (k : List Ring). places k ≤ places ls) (sym h) (fewer_all ls)

beside_step : (m m' : Machine) (o : Operation) (s : Full) (b : Beside m s) → Step m m' o s.loops b.rims → Beside m' (stepped o s)
beside_step m m' o s b r =
    let e : r.full_after_lem ≡ full_after o s.used s.loops = r.follows ∙ ap (λ (u : ℕ). full_after o u s.loops) b.used in
    let ready : Ready m' (full_after o s.used s.loops) r.rims_after =
    subst (λ (ls : List Ring). Ready m' ls r.rims_after) e r.ready in
    record {
      rims = r.rims_after;
      ready = ready;
      used = r.used ∙ ap (λ (u : ℕ). u + new_numbers o) b.used;
      most = omega (arith, r.most, b.most, fewer_places m' (full_after o s.used s.loops) ready.shows);
    }

beside_run : {m n : Machine} {os : List Operation} → Works m os n → (s : Full) → Beside m s → Beside n (full_run os s)
unfolding full_run
beside_run w_none s b = b
beside_run {m} (w_built {m' = m'} {o = o} {t = t} h w) s b =
    beside_run w (stepped o s) (beside_step m m' o s b (step_built m m' o t s.loops b.rims h b.ready))
beside_run {m} (w_declared {m' = m'} {o = o} {d = d} h w) s b =
    beside_run w (stepped o s) (beside_step m m' o s b (step_declared m m' o d s.loops b.rims h b.ready))

pub never_more_places : NeverMorePlaces
never_more_places c os m w =
    let b = beside_run w none_full (record { rims = []; ready = ready_empty c; used = refl; most = omega arith }) in
    let s = full_run os none_full in
    record {
      loops = b.ready.shows;
      live = ap length b.ready.shows ∙ all_shown_length s.loops;
      places = fewer_places m s.loops b.ready.shows;
      most = b.most;
    }
