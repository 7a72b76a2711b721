-- Demand 3: lists of calls that keep the three promises keep the builder's book.
-- Assumes nothing.
use Prim.Native.Nat.{ℕ, zero, suc, ◌*◌, ◌≤◌}
use native.Mathlib.Omega.{arith}
use mathlib.Core.Bool.{Bool, true, false, ◌&&◌}
use mathlib.Core.List.{List, [], ◌∷◌}
use mathlib.Core.Path.{◌≡◌, refl, sym, ap, ap₂, ◌∙◌, subst}
use lib.ListN.{length}
use lib.Dec.{eqb}
use lib.IntN.{pos, ◌+ℤ◌, ◌-ℤ◌}
use Rattle.rules.specs.declared.Counts.{Counts}
use Rattle.rules.specs.declared.Place.{Place}
use Rattle.rules.specs.declared.Builder.{Builder}
use Rattle.rules.specs.Limits.{max_places}
use Rattle.rules.specs.Count.{num, count, uses}
use Rattle.rules.specs.Check.{all_below}
use Rattle.rules.specs.Machine.{Machine, Step, refused, begun, built, declared, finished, beginning, totals}
use Rattle.rules.specs.Answer.{Answer, accepted}
use Rattle.rules.specs.Book.{Call, begin, operate, finish, Book, open_if, model_open, recounted, call, empty_book, answer_of, answer, after}
use Rattle.rules.specs.Book.{is_accepted}
use Rattle.rules.specs.Calls.{answers, after_all, logged, log_all}
use Rattle.rules.specs.Buffer.{Buffers, Lengths}
use Rattle.rules.specs.View.{places_of, open_at, loops_of, view}
use Rattle.rules.specs.Sound.{apart, places_fit, loops_fit, links_fit, sound}
use Rattle.rules.specs.Build.{viewed}
use Rattle.book.specs.Sums.{open_edges}
use Rattle.book.proofs.Calls.{Holds, empty_holds, holds_kept, holds_after, begins_empty, refused_same, finish_same}
use Rattle.book.proofs.Open.{open_edges_exact}
use Rattle.book.proofs.Euler.{euler_signed}
use Rattle.promises.specs.BuildersBook.{World, buffers_of, lengths_of, Called, Run, Replayed, KeepsTheBook, BuildersBook}
use Rattle.promises.proofs.OpenEdges.{open_recorded}
use Rattle.promises.proofs.Kept.{view_of, Agrees, sound_links, built_long, begin_answer, begin_agrees, begin_refused, operate_answer}
use Rattle.promises.proofs.Kept.{operate_agrees, finish_answer_lem, finish_agrees}
use Rattle.counting.proofs.Bools.{and_right}

-- of a state that passes 21, the open edges are those of the machine that it is read as
links_loops : (b : Builder) (ps : List Place) → links_fit b ps ≡ true → loops_fit b ps b.live ≡ true
unfolding links_fit
links_loops b ps h =
    let is = places_of b ps b.live in
    and_right (all_below max_places is && apart is && places_fit ps b.used is) (loops_fit b ps b.live) h

pub loops_long : (b : Builder) (ps : List Place) (n : ℕ) → length (loops_of b ps n) ≡ n
unfolding loops_of
loops_long b ps zero = refl
loops_long b ps (suc n) = ap suc (loops_long b ps n)

pub open_of_lem : (b : Builder) (r : Buffers) → sound b r ≡ true → (x y : ℕ) → open_at b r.places x y ≡ open_edges x y (viewed b r).loops
unfolding view
open_of_lem b r h x y = open_recorded x y b r.places b.live (links_loops b r.places (sound_links b r h))

at_most_one : (t : Bool) → num t ≤ 1
at_most_one true = omega arith
at_most_one false = omega arith

open_once : (u o c : ℕ) → open_if u o c ≤ 1
open_once u o c = at_most_one (eqb u 1 && eqb o 0 && eqb c 0)

-- a call whose answer is acceptance
accepts : (x : Step) → accepted ≡ answer_of x → is_accepted x ≡ true
accepts (refused n) h = let z : ◌≡◌ {A = ℕ} 0 1 = cc in absurd (omega arith)
accepts (begun m) h = refl
accepts (built t m) h = refl
accepts (declared d m) h = refl
accepts (finished y) h = refl

-- the heads and the tails of equal lists
heads : (a b : Answer) (xs bs : List Answer) → a ∷ xs ≡ b ∷ bs → a ≡ b
heads a b xs bs e = cc

tails : (a b : Answer) (xs bs : List Answer) → a ∷ xs ≡ b ∷ bs → xs ≡ bs
tails a b xs bs e = cc

module _ (R : Lengths) where
  -- one call
  begin_by : (s : Counts) (w : World) (a : Answer) (v : World) (b : Book) → Agrees R w b → Called (begin s) w a v → (t : Bool)
      → is_accepted (beginning R s) ≡ t → Agrees R v (after R b (begin s))
  begin_by s w a v b g c true e = rw (begins_empty R s e).step (begin_agrees R s w a v g.long c e)
  begin_by s w a v b g c false e = rw (begin_refused R s w a v g.long c e, refused_same b (beginning R s) e) g

  call_agrees : (c : Call) (w : World) (a : Answer) (v : World) (b : Book) → Holds b → Agrees R w b → Called c w a v
      → Agrees R v (after R b c)
  call_agrees (begin s) w a v b k g c = begin_by s w a v b g c (is_accepted (beginning R s)) refl
  call_agrees (operate o) w a v b k g c = operate_agrees R o w a v b k g c
  call_agrees finish w a v b k g c = finish_agrees R w a v b k g c

  call_answer : (c : Call) (w : World) (a : Answer) (v : World) (b : Book) → Holds b → Agrees R w b → Called c w a v → a ≡ answer R b c
  call_answer (begin s) w a v b k g c = begin_answer R s w a v g.long c
  call_answer (operate o) w a v b k g c = operate_answer R o w a v b k g c
  call_answer finish w a v b k g c = finish_answer_lem R w a v b k g c

  -- a list of calls
  run_answers : (cs : List Call) (w : World) (xs : List Answer) (v : World) (b : Book) → Holds b → Agrees R w b → Run cs w xs v
      → xs ≡ answers R b cs
  unfolding answers
  run_answers [] w xs v b k g r = r.0
  run_answers (c ∷ cs) w xs v b k g r =
      r.answers
      ∙ ap₂ (λ (x : Answer) (l : List Answer). x ∷ l) (call_answer c w r.first r.between b k g r.called)
      (run_answers cs r.between r.others v (after R b c) (holds_kept R b k c)
      (call_agrees c w r.first r.between b k g r.called) r.rest)

  run_agrees : (cs : List Call) (w : World) (xs : List Answer) (v : World) (b : Book) → Holds b → Agrees R w b → Run cs w xs v
      → Agrees R v (after_all R b cs)
  unfolding after_all
  run_agrees [] w xs v b k g r = rw r.1 g
  run_agrees (c ∷ cs) w xs v b k g r =
      run_agrees cs r.between r.others v (after R b c) (holds_kept R b k c)
      (call_agrees c w r.first r.between b k g r.called) r.rest

  -- a new builder that is given the logged calls holds the same machine
  abbrev Replays : Book → List Call → Type 0
  Replays b l = (w v : World) → lengths_of w ≡ R → Replayed l w v → Agrees R v b

  replay_begin : (s : Counts) → is_accepted (beginning R s) ≡ true → Replays (empty_book s) (begin s ∷ [])
  replay_begin s e w v l r =
      begin_agrees R s r.between r.answer v (ap lengths_of r.before ∙ l) r.called e

  replay_call : (b : Book) (l : List Call) → Holds b → Replays b l → (c : Call) (t : Bool) → is_accepted (call R b.machine c) ≡ t
      → Replays (after R b c) (logged l c t)
  replay_call b l k h c false e w v n r = rw (refused_same b (call R b.machine c) e) (h w v n r)
  replay_call b l k h (begin s) true e w v n r = rw (begins_empty R s e).step (replay_begin s e w v n r)
  replay_call b l k h (operate o) true e w v n r =
      call_agrees (operate o) r.between r.answer v b k (h w r.between n r.before) r.called
  replay_call b l k h finish true e w v n r = rw (finish_same b (recounted b.machine)) (h w v n r)

  replay_all : (b : Book) (l : List Call) → Holds b → Replays b l → (cs : List Call) → Replays (after_all R b cs) (log_all R b l cs)
  unfolding after_all log_all
  replay_all b l k h [] = h
  replay_all b l k h (c ∷ cs) =
      replay_all (after R b c) (logged l c (is_accepted (call R b.machine c))) (holds_kept R b k c)
      (replay_call b l k h c (is_accepted (call R b.machine c)) refl) cs

-- vertices - edges + triangles + live loops + rims = 2 starts - 2 unions
abbrev EulerSum : Machine → Type 0
EulerSum m = (totals m).euler +ℤ pos (length m.loops) +ℤ pos m.rims ≡ pos (2 * m.starts) -ℤ pos (2 * m.unions)

-- what holds of a world that agrees with the book
keeps_the_book : (w : World) (s : Counts) (cs : List Call) (xs : List Answer) (v : World) → is_accepted (beginning (lengths_of w) s) ≡ true
    → xs ≡ answers (lengths_of w) (empty_book s) cs → Agrees (lengths_of w) v (after_all (lengths_of w) (empty_book s) cs)
    → KeepsTheBook w s cs xs v (after_all (lengths_of w) (empty_book s) cs)
unfolding view
keeps_the_book w s cs xs v ok e g =
    let R = lengths_of w in
    let b = after_all R (empty_book s) cs in
    let k : Holds b = holds_after R s ok cs in
    let c = k.consistent in
    let o : (x y : ℕ) → open_at v.state v.places x y ≡ model_open x y b.machine.triangles b.borders =
    λ x y. open_of_lem v.state (buffers_of v) g.passes x y ∙ ap (λ (m : Machine). open_edges x y m.loops) g.same
    ∙ open_edges_exact b c x y in
    let t = built_long v.triangles v.state.built in
    let l = loops_long v.state v.places v.state.live in
    let f : EulerSum (view_of v) = subst EulerSum (sym g.same) (euler_signed b c) in
    record {
      first_answer = λ b₀. ap answer_of (begins_empty R s ok).step;
      each_answer = e;
      passes = g.passes;
      machine = g.same;
      open_edges_lem = o;
      one_place = λ x y.
          subst (λ (n : ℕ). n ≤ 1) (sym (o x y))
          (open_once (uses x y b.machine.triangles) (uses y x b.machine.triangles) (count x y b.borders));
      free_records = g.free;
      euler =
          ap (λ (n : ℕ). pos v.state.used -ℤ pos v.state.edges +ℤ pos n +ℤ pos v.state.live +ℤ pos v.state.rims) (sym t)
          ∙ ap (λ (n : ℕ). (totals (view_of v)).euler +ℤ pos n +ℤ pos v.state.rims) (sym l) ∙ f;
      vertices = ap (λ (m : Machine). m.used) g.same ∙ sym c.vertices;
      edges = ap (λ (m : Machine). m.edges) g.same ∙ c.edges;
      triangles = sym t ∙ ap (λ (m : Machine). length m.triangles) g.same;
      live = sym l ∙ ap (λ (m : Machine). length m.loops) g.same;
      rims = ap (λ (m : Machine). m.rims) g.same;
      starts = ap (λ (m : Machine). m.starts) g.same;
      unions = ap (λ (m : Machine). m.unions) g.same;
      most_places_lem = ap (λ (m : Machine). m.most_places) g.same;
      most_loops_lem = ap (λ (m : Machine). m.most_loops) g.same;
      new_builder = λ w' u n r ds ys zs u' v' p q.
          let h = replay_all R (empty_book s) (begin s ∷ []) (empty_holds s (begins_empty R s ok).range) (replay_begin R s ok) cs w' u n r
          in
          run_answers R ds u ys u' b k h p ∙ sym (run_answers R ds v zs v' b k g q);
    }

pub building_calls_keep_the_book : BuildersBook
building_calls_keep_the_book w s cs xs v r =
    let R = lengths_of w in
    let ok : is_accepted (beginning R s) ≡ true =
    accepts (beginning R s) (heads accepted r.first xs r.others r.answers
    ∙ begin_answer R s w r.first r.between refl r.called) in
    let k = empty_holds s (begins_empty R s ok).range in
    let g = begin_agrees R s w r.first r.between refl r.called ok in
    keeps_the_book w s cs xs v ok
    (tails accepted r.first xs r.others r.answers ∙ run_answers R cs r.between r.others v (empty_book s) k g r.rest)
    (run_agrees R cs r.between r.others v (empty_book s) k g r.rest)
