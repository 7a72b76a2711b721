-- One law for each way through the loop of a run.
-- Assumes nothing.
use Prim.Native.Nat.{ℕ, ◌-◌, ◌≤◌, ◌<◌}
use mathlib.Core.Bool.{Bool, true, false}
use mathlib.Core.List.{List}
use mathlib.Core.Path.{◌≡◌, refl, sym, ap, ◌∙◌}
use Rattle.rules.specs.declared.Counts.{Counts}
use Rattle.rules.specs.Machine.{Machine, complete}
use Rattle.rules.specs.Unpack.{Ran, run_all}
use Rattle.cutborder.specs.declared.Front.{Front}
use Rattle.unpack_theory.specs.Stepped.{Stepped, Going, Refused}
use Rattle.unpack_theory.specs.Runs.{Runs, Held, bits_from, StepOf, ComesFrom, Ends, RunOf, Ended}
use Rattle.border_theory.specs.Memory.Finish.{is_complete}
use Rattle.unpack_theory.proofs.Turns.{ran_complete, ran_stops, ran_goes, ran_out}
use Rattle.border_theory.proofs.Memory.Finish.{complete_same}

module _ (ops : List ℕ) (budget : ℕ) (s₀ : Front) (ts₀ m₀ cs₀ ks₀ : List ℕ) where
  pub comes_first : (left : ℕ) → left ≡ budget → ComesFrom ops budget s₀ ts₀ m₀ cs₀ ks₀ left s₀ 0 ts₀ m₀ cs₀ ks₀
  comes_first left e M g =
      record { machine = M; ran = ap (λ (k : ℕ). run_all k M (bits_from ops 0)) (sym e); runs = g; stated = refl }

  module _ (left : ℕ) (s : Front) (at : ℕ) (ts m cs ks : List ℕ) (come : ComesFrom ops budget s₀ ts₀ m₀ cs₀ ks₀ left s at ts m cs ks) where
    pub comes_end : left ≤ 0 → RunOf ops budget s₀ ts₀ m₀ cs₀ ks₀ (Refused 15) ts m cs ks
    comes_end l M g = let k = come M g in k.ran ∙ ran_out left k.machine (bits_from ops at) l

    pub comes_complete : 0 < left → (b : Bool) → b ≡ is_complete s → b ≡ true → RunOf ops budget s₀ ts₀ m₀ cs₀ ks₀ (Going s at) ts m cs ks
    comes_complete l b e h M g =
        let k = come M g in
        let done = complete_same _ s m k.machine k.runs.keeps ∙ sym e ∙ h in
        record {
          last = k.machine;
          ran = k.ran ∙ ran_complete left k.machine (bits_from ops at) l done;
          runs = k.runs;
          stated = k.stated;
          complete = done;
        }

    -- what is held, and that the counts stated stay
    pub comes_held : Held s₀ ts₀ m₀ cs₀ ks₀ → Held s ts m cs ks
    comes_held h = let k = come h.machine h.runs in record { machine = k.machine; runs = k.runs }

    pub comes_stated : Held s₀ ts₀ m₀ cs₀ ks₀ → s.stated ≡ s₀.stated
    comes_stated h = (come h.machine h.runs).stated

    module _ (l : 0 < left) (b : Bool) (e : b ≡ is_complete s) (h : b ≡ false) (ts' m' cs' ks' : List ℕ) where
      going : (M : Machine) → Runs M s ts m cs ks → complete M ≡ false
      going M g = complete_same _ s m M g.keeps ∙ sym e ∙ h

      pub comes_stopped : (k : ℕ) → StepOf ops at s ts m cs ks (Refused k) ts' m' cs' ks'
          → RunOf ops budget s₀ ts₀ m₀ cs₀ ks₀ (Refused k) ts' m' cs' ks'
      comes_stopped k step M g =
          let c = come M g in
          c.ran ∙ ran_stops left c.machine (bits_from ops at) k l (going c.machine c.runs) (step c.machine c.runs)

      pub comes_on : (s' : Front) (at' : ℕ) → StepOf ops at s ts m cs ks (Going s' at') ts' m' cs' ks' → (left' : ℕ) → left' ≡ left - 1
          → ComesFrom ops budget s₀ ts₀ m₀ cs₀ ks₀ left' s' at' ts' m' cs' ks'
      comes_on s' at' step left' e M g =
          let c = come M g in
          let t = step c.machine c.runs in
          record {
            machine = t.next;
            ran = c.ran ∙ ran_goes left c.machine t.next (bits_from ops at) (bits_from ops at') l (going c.machine c.runs)
                t.turns ∙ ap (λ (k : ℕ). run_all k t.next (bits_from ops at')) (sym e);
            runs = t.runs;
            stated = t.stated ∙ c.stated;
          }

-- a run that has ended can be concluded
pub ends_ended : (R : Ran) (ops : List ℕ) (c : Counts) (r : Stepped) (ts m cs ks : List ℕ) → Ends R ops c r ts m cs ks → Ended r ts cs ks
ends_ended R ops c (Refused k) ts m cs ks e = tt
ends_ended R ops c (Going s at) ts m cs ks e = record { machine = e.last; memory = m; runs = e.runs; complete = e.complete }
