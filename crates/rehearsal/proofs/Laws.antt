-- The promises of the calls, one after the other, are a run of demand 3.
-- Assumes nothing.
use Prim.Native.Nat.{ℕ, suc, ◌<◌}
use mathlib.Core.List.{List, [], ◌∷◌, ◌++◌}
use mathlib.Core.Path.{◌≡◌, refl, sym, ap, ◌∙◌, subst}
use Rattle.std.specs.Prelude.{Result, Ok, Err}
use Rattle.std.specs.Result.{result_unwrap_or}
use Rattle.rules.specs.declared.refusal.Refusal.{Refusal}
use lib.ListN.{length, take, get_or}
use lib.Seq.{take-suc, take-length}
use Rattle.rules.specs.declared.Counts.{Counts}
use Rattle.rules.specs.declared.Operation.{Operation}
use Rattle.rules.specs.declared.Operation.TheVariants.{New}
use Rattle.rules.specs.declared.Place.{Place}
use Rattle.rules.specs.declared.Builder.{Builder}
use Rattle.rules.specs.Checked.{Checked}
use Rattle.rules.specs.Checked.{Accepted, Refused}
use Rattle.rules.specs.Begun.{Begun}
use Rattle.rules.specs.Operated.{Performed}
use Rattle.rules.specs.Finished.{Finished}
use Rattle.rules.specs.Answer.{Answer, begun_answer, operated_answer, finished_answer}
use Rattle.rules.specs.Book.{Call, begin, operate, finish}
use Rattle.rules.specs.Calls.{last_state}
use Rattle.rules.specs.Buffer.{Buffers}
use Rattle.rules.specs.Build.{empty_builder, begun_of, BegunBy}
use Rattle.promises.specs.Promises.{lent_to, Beginning, Operating, Finishing}
use Rattle.promises.specs.BuildersBook.{World, Called, Run}
use Rattle.rehearsal.specs.Rehearsal.{operations, world, lent_world, Rehearsed}

-- one call more
pub run_more : (cs : List Call) (w : World) (xs : List Answer) (v : World) (c : Call) (a : Answer) (u : World) → Run cs w xs v
    → Called c v a u
    → Run (cs ++ (c ∷ [])) w (xs ++ (a ∷ [])) u
run_more [] w xs v c a u r k = record {
  first = a;
  between = u;
  called = subst (λ (z : World). Called c z a u) r.1 k;
  others = [];
  rest = (refl, refl);
  answers = ap (λ (zs : List Answer). zs ++ (a ∷ [])) r.0;
}
run_more (d ∷ cs) w xs v c a u r k = record {
  first = r.first;
  between = r.between;
  called = r.called;
  others = r.others ++ (a ∷ []);
  rest = run_more cs r.between r.others v c a u r.rest k;
  answers = ap (λ (zs : List Answer). zs ++ (a ∷ [])) r.answers;
}

-- after the beginning and the operations os
pub record Reached (s : Counts) (os : List Operation) (ts : List ℕ) (ps : List Place) (b : Builder) (ts' : List ℕ) (ps' : List Place)
    : Type 0 where
  pub answers : List Answer
  pub run : Run (begin s ∷ operations os) (lent_world ts ps) answers (world b ts' ps')

-- a refused beginning gives the builder that was never begun
last_state_lem : (r r' : Buffers) (s : Counts) (a : Checked) (b : Builder) → BegunBy r s a b r' → b ≡ last_state empty_builder a b
last_state_lem r r' s Accepted b h = refl
last_state_lem r r' s (Refused n) b h = h.0

pub reached_first : (s : Counts) (ts : List ℕ) (ps : List Place) (r : Begun) (ts' : List ℕ) (ps' : List Place)
    → Beginning s ts ps r ts' ps' → Reached s [] ts ps r.state ts' ps'
unfolding operations
reached_first s ts ps r ts' ps' h = record {
  answers = begun_answer r ∷ [];
  run = record {
    first = begun_answer r;
    between = world r.state ts' ps';
    called = record {
      result = r;
      promised = h;
      answer = refl;
      state = last_state_lem (lent_to ts ps) (lent_to ts' ps') s r.answer r.state h.after;
    };
    others = [];
    rest = (refl, refl);
    answers = refl;
  };
}

-- the state that a beginning gives; of a refused one the builder that was never begun
pub begun_state : (x : Result Builder Refusal) (d b : Builder) → d ≡ empty_builder → b ≡ result_unwrap_or x d → b ≡ (begun_of x).state
begun_state (Ok a) d b h e = e
begun_state (Err k) d b h e = e ∙ h

operations_more : (os : List Operation) (o : Operation) → operations os ++ (operate o ∷ []) ≡ operations (os ++ (o ∷ []))
unfolding operations
operations_more [] o = refl
operations_more (p ∷ os) o = ap (λ (cs : List Call). operate p ∷ cs) (operations_more os o)

module _ (s : Counts) (ts : List ℕ) (ps : List Place) (b : Builder) (ts₁ : List ℕ) (ps₁ : List Place) where
  reached_on : (os : List Operation) (o : Operation) (r : Performed) (ts₂ : List ℕ) (ps₂ : List Place) → Reached s os ts ps b ts₁ ps₁
      → Operating b o ts₁ ps₁ r ts₂ ps₂ → Reached s (os ++ (o ∷ [])) ts ps r.state ts₂ ps₂
  reached_on os o r ts₂ ps₂ g h =
      let a = operated_answer r.answer in
      let v = world r.state ts₂ ps₂ in
      record {
        answers = g.answers ++ (a ∷ []);
        run =
            subst (λ (cs : List Call). Run (begin s ∷ cs) (lent_world ts ps) (g.answers ++ (a ∷ [])) v) (operations_more os o)
            (run_more (begin s ∷ operations os) (lent_world ts ps) g.answers (world b ts₁ ps₁) (operate o) a v g.run
            (record { result = r; promised = h; answer = refl; state = refl }));
      }

  -- operation i of the list
  pub reached_more : (os : List Operation) (i : ℕ) → i < length os → (r : Performed) (ts₂ : List ℕ) (ps₂ : List Place)
      → Reached s (take i os) ts ps b ts₁ ps₁ → Operating b (get_or os i New) ts₁ ps₁ r ts₂ ps₂
      → Reached s (take (suc i) os) ts ps r.state ts₂ ps₂
  reached_more os i l r ts₂ ps₂ g h =
      subst (λ (zs : List Operation). Reached s zs ts ps r.state ts₂ ps₂) (sym (take-suc os i New l))
      (reached_on (take i os) (get_or os i New) r ts₂ ps₂ g h)

  pub reached_end : (os : List Operation) (r : Finished) → Reached s (take (length os) os) ts ps b ts₁ ps₁ → Finishing b ts₁ ps₁ r
      → Rehearsed s os ts ps r ts₁ ps₁
  reached_end os r g h =
      let k : Reached s os ts ps b ts₁ ps₁ = subst (λ (zs : List Operation). Reached s zs ts ps b ts₁ ps₁) (take-length os) g in
      let v = world b ts₁ ps₁ in
      record {
        answers = k.answers;
        state = b;
        run =
            run_more (begin s ∷ operations os) (lent_world ts ps) k.answers v finish (finished_answer r) v k.run
            (record { result = r; promised = h; answer = refl; same = refl });
      }
