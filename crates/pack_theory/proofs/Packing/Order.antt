-- Numbers written into the order buffer one after the other, and the loop of a run, as far as it writes there.
-- Assumes nothing.
use Prim.Native.Nat.{ℕ, zero, suc, ◌+◌, ◌-◌, ◌≤◌, ◌<◌}
use native.Mathlib.Omega.{arith}
use mathlib.Core.Bool.{true}
use mathlib.Core.List.{List, [], ◌∷◌, ◌++◌, append_assoc, append-nil}
use mathlib.Core.Path.{◌≡◌, refl, sym, ap, ◌∙◌, subst}
use lib.ListN.{length, set, drop, length-append}
use lib.Seq.{sets, sets-eq}
use Rattle.rules.specs.declared.Operation.{Operation}
use Rattle.rules.specs.Triangle.{triangles_of}
use Rattle.rules.specs.Buffer.{over}
use Rattle.rules.specs.Choice.{Packing, ended, takes, choose}
use Rattle.rules.specs.Order.{next_number, order_by}
use Rattle.cutborder.specs.declared.Course.{Course}
use Rattle.pack_theory.specs.Packing.Taken.{Taken}
use Rattle.pack_theory.specs.Packing.Taken as T
use Rattle.pack_theory.specs.Packing.Ran.{Ran}
use Rattle.pack_theory.specs.Packing.Ran as R
use Rattle.border_theory.specs.Memory.Finish.{is_complete}
use Rattle.pack_theory.specs.Packing.Course.{Holds}
use Rattle.pack_theory.specs.Packing.Order.{OrderLong, NotedFrom, Notes, NotesOf, ListsOf}
use Rattle.pack_theory.specs.Packing.Steps.{StepsTo, Steps, StepOf}
use Rattle.pack_theory.proofs.Packing.Running.{done_ended}

-- ---- numbers written from an entry on

sets_append : (os : List ℕ) (k : ℕ) (ps qs : List ℕ) → sets (sets os k ps) (k + length ps) qs ≡ sets os k (ps ++ qs)
sets_append os k [] qs = let e : k + 0 ≡ k = omega arith in ap (λ (i : ℕ). sets os i qs) e
sets_append os k (p ∷ ps) qs =
    let e : k + suc (length ps) ≡ suc k + length ps = omega arith in
    ap (λ (i : ℕ). sets (sets (set os k p) (suc k) ps) i qs) e ∙ sets_append (set os k p) (suc k) ps qs

drop_set : (n k x : ℕ) (os : List ℕ) → k < n → drop n (set os k x) ≡ drop n os
drop_set n k x [] h = refl
drop_set zero k x (o ∷ os) h = absurd (omega arith)
drop_set (suc n) zero x (o ∷ os) h = refl
drop_set (suc n) (suc k) x (o ∷ os) h = drop_set n k x os (omega arith)

-- past them nothing has changed
pub sets_past : (n : ℕ) (os : List ℕ) (k : ℕ) (qs : List ℕ) → k + length qs ≤ n → drop n (sets os k qs) ≡ drop n os
sets_past n os k [] h = refl
sets_past n os k (q ∷ qs) h = sets_past n (set os k q) (suc k) qs (omega arith) ∙ drop_set n k q os (omega arith)

-- from the first entry on
pub sets_first : (os qs : List ℕ) → length qs ≤ length os → sets os 0 qs ≡ over qs os
sets_first os qs h =
    let e : 0 + length qs ≡ length qs = omega arith in
    sets-eq qs os 0 (omega (arith, h)) ∙ ap (λ (i : ℕ). qs ++ drop i os) e

-- ---- the numbers of a run

order_none : (n : ℕ) (s : Packing) → n ≤ 0 → order_by n s ≡ []
unfolding order_by
order_none zero s h = refl
order_none (suc n) s h = absurd (omega arith)

order_end : (n : ℕ) (s : Packing) → choose s ≡ ended → order_by n s ≡ []
unfolding order_by
order_end zero s h = refl
order_end (suc n) s h = rw (order_by, h) refl

order_take : (n : ℕ) (s s' : Packing) (o : Operation) → 0 < n → choose s ≡ takes o s'
    → order_by n s ≡ next_number s ++ order_by (n - 1) s'
unfolding order_by
order_take zero s s' o l h = absurd (omega arith)
order_take (suc n) s s' o l h = let e : suc n - 1 ≡ n = omega arith in rw (order_by, h, e) refl

-- the run of the packing s has come to the state t, with `left` steps to go
pub record Listed (v : ℕ) (xs : List ℕ) (budget : ℕ) (s : Packing) (t₀ : Course) (left : ℕ) (t : Course)
    (fs ns rest m os₀ os : List ℕ) : Type 0 where
  pub packing : Packing
  pub holds : Holds v xs packing t fs ns rest m
  pub so_far : List ℕ
  pub whole : order_by budget s ≡ so_far ++ order_by left packing
  pub noted : NotedFrom t₀.front.built so_far t.front.built os₀ os

-- the invariant of the loop
pub record OrderLoop (xs : List ℕ) (budget : ℕ) (t₀ : Course) (fs₀ ns₀ m₀ os₀ : List ℕ) (left : ℕ) (t : Course)
    (fs ns m os : List ℕ) : Type 0 where
  pub listed : (v : ℕ) (s : Packing) (rest : List ℕ) → Holds v xs s t₀ fs₀ ns₀ rest m₀
      → Listed v xs budget s t₀ left t fs ns rest m os₀ os
  pub long : length os ≡ length os₀
  pub enough : OrderLong xs os

module _ (xs : List ℕ) (budget : ℕ) (t₀ : Course) (fs₀ ns₀ m₀ os₀ : List ℕ) where
  pub order_first : OrderLong xs os₀ → OrderLoop xs budget t₀ fs₀ ns₀ m₀ os₀ budget t₀ fs₀ ns₀ m₀ os₀
  order_first h = record {
    listed = λ v s rest g. record {
      packing = s;
      holds = g;
      so_far = [];
      whole = refl;
      noted = record { written = refl; count = omega arith };
    };
    long = refl;
    enough = h;
  }

  module _ (left : ℕ) (t : Course) (fs ns m os : List ℕ) (l : OrderLoop xs budget t₀ fs₀ ns₀ m₀ os₀ left t fs ns m os) where
    -- nothing is left to do, or no step is
    lists_with : (v : ℕ) (s : Packing) (rest : List ℕ) → Holds v xs s t₀ fs₀ ns₀ rest m₀
        → ((p : Packing) → Holds v xs p t fs ns rest m → order_by left p ≡ [])
        → NotedFrom t₀.front.built (order_by budget s) t.front.built os₀ os
    lists_with v s rest g f =
        let c = l.listed v s rest g in
        let e = c.whole ∙ ap (λ (qs : List ℕ). c.so_far ++ qs) (f c.packing c.holds) ∙ append-nil c.so_far in
        subst (λ (qs : List ℕ). NotedFrom t₀.front.built qs t.front.built os₀ os) (sym e) c.noted

    pub order_out : left ≤ 0 → (at : ℕ) → ListsOf xs budget t₀ fs₀ ns₀ m₀ (R.Ended t at) os₀ os
    order_out q at v s rest g = lists_with v s rest g (λ p h. order_none left p q)

    pub order_done : is_complete t.front ≡ true → (at : ℕ) → ListsOf xs budget t₀ fs₀ ns₀ m₀ (R.Ended t at) os₀ os
    order_done q at v s rest g = lists_with v s rest g (λ p h. order_end left p (done_ended v xs p t fs ns rest m h q))

    -- of n entries those past the first T are as they were
    still : (v : ℕ) (s : Packing) (rest : List ℕ) → Holds v xs s t₀ fs₀ ns₀ rest m₀
        → drop (length (triangles_of xs)) os ≡ drop (length (triangles_of xs)) os₀
    still v s rest g =
        let c = l.listed v s rest g in
        ap (drop (length (triangles_of xs))) c.noted.written
        ∙ sets_past (length (triangles_of xs)) os₀ t₀.front.built c.so_far (omega (arith, c.noted.count, c.holds.count))

    module _ (r : Taken) (fs' ns' m' os' : List ℕ) (step : StepOf xs t fs ns m r fs' ns' m') (notes : NotesOf xs t fs ns m r os os') where
      pub order_stopped : (k : ℕ) → r ≡ T.Refused k → ListsOf xs budget t₀ fs₀ ns₀ m₀ (R.Refused k) os₀ os'
      order_stopped k q v s rest g =
          let c = l.listed v s rest g in
          let w = subst (λ (x : Taken). Notes (length (triangles_of xs)) c.packing t x os os') q (notes v c.packing rest c.holds) in
          w ∙ still v s rest g

      module _ (o : Operation) (t' : Course) (q : r ≡ T.Going o t') (z : 0 < left) where
        listed_on : (v : ℕ) (s : Packing) (rest : List ℕ) → Holds v xs s t₀ fs₀ ns₀ rest m₀
            → Listed v xs budget s t₀ (left - 1) t' fs' ns' rest m' os₀ os'
        listed_on v s rest g =
            let c = l.listed v s rest g in
            let p = c.packing in
            let next = next_number p in
            let w : StepsTo v xs (choose p) o t' fs' ns' rest m' =
            subst (λ (x : Taken). Steps v xs p t x fs' ns' rest m') q (step v p rest c.holds) in
            let n : NotedFrom t.front.built next t'.front.built os os' =
            subst (λ (x : Taken). Notes (length (triangles_of xs)) p t x os os') q (notes v p rest c.holds) in
            record {
              packing = w.after;
              holds = w.holds;
              so_far = c.so_far ++ next;
              whole =
                  c.whole ∙ ap (λ (qs : List ℕ). c.so_far ++ qs) (order_take left p w.after o z w.goes)
                  ∙ sym (append_assoc c.so_far next (order_by (left - 1) w.after));
              noted =
                  record {
                    written =
                        n.written ∙ ap (λ (i : ℕ). sets os i next) c.noted.count
                        ∙ ap (λ (l : List ℕ). sets l (t₀.front.built + length c.so_far) next) c.noted.written
                        ∙ sets_append os₀ t₀.front.built c.so_far next;
                    count = omega (arith, n.count, c.noted.count, length-append c.so_far next);
                  };
            }

        pub order_on : length os' ≡ length os → OrderLoop xs budget t₀ fs₀ ns₀ m₀ os₀ (left - 1) t' fs' ns' m' os'
        order_on e = record { listed = listed_on; long = e ∙ l.long; enough = omega (arith, e, l.enough) }
