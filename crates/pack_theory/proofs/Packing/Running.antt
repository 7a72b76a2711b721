-- The loop of a run: its invariant, and one law for each way through it.
-- Assumes nothing.
use Prim.Native.Nat.{ℕ, zero, suc, ◌+◌, ◌-◌, ◌*◌, ◌≤◌, ◌<◌}
use native.Mathlib.Omega.{arith}
use mathlib.Core.Bool.{true}
use mathlib.Core.List.{List, [], ◌∷◌, ◌++◌, append-nil}
use mathlib.Core.Path.{◌≡◌, refl, sym, ap, ◌∙◌, subst}
use lib.ListN.{length, length-append}
use Rattle.rules.specs.declared.Triangle.{Triangle}
use Rattle.rules.specs.declared.Counts.{Counts}
use Rattle.rules.specs.declared.Operation.{Operation}
use Rattle.rules.specs.Limits.{max_places}
use Rattle.rules.specs.Code.{operation_bits}
use Rattle.rules.specs.Choice.{Packing, ended, refuses, takes, choose}
use Rattle.rules.specs.Pack.{Chosen, stopped, chosen, cons, choose_all}
use Rattle.wire_theory.specs.Buffer.{written_at, bytes_for}
use Rattle.wire_theory.specs.Shape.{width_of}
use Rattle.wire_theory.proofs.Operations.{width_most}
use Rattle.choice_theory.proofs.Runs.Whole.{all_ended, all_taken_lem, choose_ended}
use Rattle.border_theory.specs.Memory.Stands.{rings_in}
use Rattle.cutborder.specs.declared.Course.{Course}
use Rattle.pack_theory.specs.Packing.Taken.{Taken}
use Rattle.pack_theory.specs.Packing.Taken as T
use Rattle.pack_theory.specs.Packing.Ran.{Ran}
use Rattle.pack_theory.specs.Packing.Ran as R
use Rattle.pack_theory.specs.Packing.Course.{Holds, Held}
use Rattle.pack_theory.specs.Packing.Writing.{header_bits, Writes}
use Rattle.pack_theory.specs.Packing.Steps.{StepsTo, Steps, StepOf, EndsAt, RunOf}
use Rattle.border_theory.specs.Memory.Finish.{is_complete}
use Rattle.border_theory.proofs.Memory.Finish.{complete_parts}
use Rattle.pack_theory.proofs.Packing.Reading.{live_none}
use Rattle.pack_theory.proofs.Packing.Writing.{writes_none, writes_more}

-- operations taken before the others
unfoldable pub prepended : List Operation → Chosen → Chosen
prepended [] c = c
prepended (o ∷ os) c = cons o (prepended os c)

-- the run C has come to the state t, with `left` steps to go
pub record Comes (v : ℕ) (xs : List ℕ) (C : Chosen) (budget : ℕ) (buffer₀ : List ℕ) (left : ℕ) (t : Course) (at : ℕ)
    (fs ns rest buffer m : List ℕ) : Type 0 where
  pub operations : List Operation
  pub packing : Packing
  pub ran : C ≡ prepended operations (choose_all left packing)
  pub holds : Holds v xs packing t fs ns rest m
  pub writes : Writes operations buffer₀ buffer at
  pub count : length operations + left ≡ budget

-- the invariant of the loop
pub record Loop (xs cs : List ℕ) (budget : ℕ) (t₀ : Course) (fs₀ ns₀ buffer₀ m₀ : List ℕ) (left : ℕ) (t : Course) (at : ℕ)
    (fs ns buffer m : List ℕ) : Type 0 where
  pub come : (v : ℕ) (s : Packing) (rest : List ℕ) → Holds v xs s t₀ fs₀ ns₀ rest m₀
      → Comes v xs (choose_all budget s) budget buffer₀ left t at fs ns rest buffer m
  pub held : Held xs cs t fs ns m
  pub few : left ≤ budget
  pub near : at + 20 * left ≤ header_bits + 20 * budget

-- ---- operations before others

prepended_more : (os : List Operation) (o : Operation) (c : Chosen) → prepended os (cons o c) ≡ prepended (os ++ (o ∷ [])) c
unfolding prepended
prepended_more [] o c = refl
prepended_more (p ∷ os) o c = ap (cons p) (prepended_more os o c)

prepended_chosen : (os ps : List Operation) (s : Packing) → prepended os (chosen ps s) ≡ chosen (os ++ ps) s
unfolding prepended
prepended_chosen [] ps s = refl
prepended_chosen (o ∷ os) ps s = ap (cons o) (prepended_chosen os ps s)

prepended_stopped : (os : List Operation) (k : ℕ) → prepended os (stopped k) ≡ stopped k
unfolding prepended
prepended_stopped [] k = refl
prepended_stopped (o ∷ os) k = ap (cons o) (prepended_stopped os k)

all_none : (n : ℕ) (s : Packing) → n ≤ 0 → choose_all n s ≡ chosen [] s
unfolding choose_all
all_none zero s h = refl
all_none (suc n) s h = absurd (omega arith)

all_end : (n : ℕ) (s : Packing) → choose s ≡ ended → choose_all n s ≡ chosen [] s
all_end zero s h = all_none zero s (omega arith)
all_end (suc n) s h = all_ended n s h

all_stop : (n k : ℕ) (s : Packing) → 0 < n → choose s ≡ refuses k → choose_all n s ≡ stopped k
unfolding choose_all
all_stop zero k s l h = absurd (omega arith)
all_stop (suc n) k s l h = rw (choose_all, h) refl

all_take : (n : ℕ) (s s' : Packing) (o : Operation) → 0 < n → choose s ≡ takes o s' → choose_all n s ≡ cons o (choose_all (n - 1) s')
all_take zero s s' o l h = absurd (omega arith)
all_take (suc n) s s' o l h =
    let e : suc n - 1 ≡ n = omega arith in
    all_taken_lem n s s' o h ∙ ap (λ (k : ℕ). cons o (choose_all k s')) (sym e)

-- a packing whose state is complete has nothing left to do
pub done_ended : (v : ℕ) (xs : List ℕ) (p : Packing) (t : Course) (fs ns rest m : List ℕ) → Holds v xs p t fs ns rest m
    → is_complete t.front ≡ true → choose p ≡ ended
done_ended v xs p t fs ns rest m h d =
    let b = complete_parts t.front d in
    choose_ended p
    (h.standing.loops ∙ live_none max_places t.front.loops m (rings_in max_places t.front.loops m) h.standing.stands b.1)
    (none p.left (omega (arith, h.count, b.0, ap (λ (c : Counts). c.triangles) h.standing.stated)))
  where
    none : (ts : List Triangle) → length ts ≡ 0 → ts ≡ []
    none [] e = refl
    none (x ∷ ts) e = absurd (omega arith)

-- ---- the loop

module _ (xs cs : List ℕ) (budget : ℕ) (t₀ : Course) (fs₀ ns₀ buffer₀ m₀ : List ℕ) where
  pub loop_first : Held xs cs t₀ fs₀ ns₀ m₀ → Loop xs cs budget t₀ fs₀ ns₀ buffer₀ m₀ budget t₀ header_bits fs₀ ns₀ buffer₀ m₀
  unfolding prepended
  loop_first h = record {
    come = λ v s rest g. record { operations = []; packing = s; ran = refl; holds = g; writes = writes_none buffer₀; count = omega arith };
    held = h;
    few = omega arith;
    near = omega arith;
  }

  module _ (left : ℕ) (t : Course) (at : ℕ) (fs ns buffer m : List ℕ)
      (l : Loop xs cs budget t₀ fs₀ ns₀ buffer₀ m₀ left t at fs ns buffer m) where
    -- nothing is left to do, or no step is
    ends_with : (v : ℕ) (s : Packing) (rest : List ℕ) → Holds v xs s t₀ fs₀ ns₀ rest m₀ → (fs' ns' m' : List ℕ)
        → ((p : Packing) → Holds v xs p t fs ns rest m → (choose_all left p ≡ chosen [] p) × Holds v xs p t fs' ns' rest m')
        → EndsAt v xs (choose_all budget s) budget buffer₀ t at fs' ns' rest buffer m'
    ends_with v s rest g fs' ns' m' f =
        let c = l.come v s rest g in
        let e = f c.packing c.holds in
        record {
          operations = c.operations;
          last = c.packing;
          ran =
              c.ran ∙ ap (prepended c.operations) e.0 ∙ prepended_chosen c.operations [] c.packing
              ∙ ap (λ (os : List Operation). chosen os c.packing) (append-nil c.operations);
          holds = e.1;
          writes = c.writes;
          near = omega (arith, l.near);
        }

    pub loop_out : left ≤ 0 → RunOf xs budget t₀ fs₀ ns₀ buffer₀ m₀ (R.Ended t at) fs ns buffer m
    loop_out q v s rest g = ends_with v s rest g fs ns m (λ p h. (all_none left p q, h))

    pub loop_done : is_complete t.front ≡ true → RunOf xs budget t₀ fs₀ ns₀ buffer₀ m₀ (R.Ended t at) fs ns buffer m
    loop_done q v s rest g = ends_with v s rest g fs ns m (λ p h. (all_end left p (done_ended v xs p t fs ns rest m h q), h))

    module _ (r : Taken) (fs' ns' m' : List ℕ) (step : StepOf xs t fs ns m r fs' ns' m') where
      pub loop_stopped : 0 < left → (k : ℕ) → r ≡ T.Refused k → RunOf xs budget t₀ fs₀ ns₀ buffer₀ m₀ (R.Refused k) fs' ns' buffer m'
      loop_stopped z k q v s rest g =
          let c = l.come v s rest g in
          let w = subst (λ (w : Taken). Steps v xs c.packing t w fs' ns' rest m') q (step v c.packing rest c.holds) in (
            c.ran ∙ ap (prepended c.operations) (all_stop left k c.packing z w.0) ∙ prepended_stopped c.operations k,
            w.1,
          )

      module _ (o : Operation) (t' : Course) (q : r ≡ T.Going o t') where
        gone : (v : ℕ) (p : Packing) (rest : List ℕ) → Holds v xs p t fs ns rest m → StepsTo v xs (choose p) o t' fs' ns' rest m'
        gone v p rest h = subst (λ (w : Taken). Steps v xs p t w fs' ns' rest m') q (step v p rest h)

        -- the bit position stays a number
        pub loop_room : 0 < left → at + width_of o ≤ header_bits + 20 * budget
        loop_room z = omega (arith, l.near, width_most o)

        pub loop_on : 0 < left → (at' : ℕ) (buffer' : List ℕ) → at' ≡ at + width_of o → length buffer' ≡ length buffer
            → (bytes_for (at + width_of o) ≤ length buffer → buffer' ≡ written_at buffer at (operation_bits o))
            → Loop xs cs budget t₀ fs₀ ns₀ buffer₀ m₀ (left - 1) t' at' fs' ns' buffer' m'
        loop_on z at' buffer' ea er ew = record {
          come = comes;
          held =
              record {
                linked = l.held.linked;
                vertices = l.held.vertices;
                packing = (gone l.held.vertices l.held.packing l.held.rest l.held.holds).after;
                rest = l.held.rest;
                holds = (gone l.held.vertices l.held.packing l.held.rest l.held.holds).holds;
              };
          few = omega (arith, l.few);
          near = omega (arith, l.near, ea, width_most o);
        }
          where
            comes : (v : ℕ) (s : Packing) (rest : List ℕ) → Holds v xs s t₀ fs₀ ns₀ rest m₀
                → Comes v xs (choose_all budget s) budget buffer₀ (left - 1) t' at' fs' ns' rest buffer' m'
            comes v s rest g =
                let c = l.come v s rest g in
                let w = gone v c.packing rest c.holds in
                record {
                  operations = c.operations ++ (o ∷ []);
                  packing = w.after;
                  ran =
                      c.ran ∙ ap (prepended c.operations) (all_take left c.packing w.after o z w.goes)
                      ∙ prepended_more c.operations o (choose_all (left - 1) w.after);
                  holds = w.holds;
                  writes = writes_more c.operations o buffer₀ buffer buffer' at at' c.writes ea er ew;
                  count = omega (arith, c.count, length-append c.operations (o ∷ []), z);
                }
