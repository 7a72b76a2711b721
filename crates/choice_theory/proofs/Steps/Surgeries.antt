-- What the table of operations says of an operation that builds, where it is held to the rings shown: it is a surgery of the full
-- rings, on the triangle b a c, whose sides are glued where the operation glues them. Of the edge rule it takes that no edge of the
-- ring that is not glued is one of the triangle turned round.
-- Assumes nothing.
use Prim.Native.Nat.{ℕ, zero, suc, ◌+◌, ◌-◌, ◌≤◌, ◌<◌}
use native.Mathlib.Omega.{arith}
use mathlib.Core.Bool.{Bool, true, false, ◌&&◌, not, false≢true}
use mathlib.Core.List.{List, [], ◌∷◌, ◌++◌}
use mathlib.Core.Path.{◌≡◌, refl, sym, ap, ap₂, ◌∙◌, subst}
use lib.ListN.{length, take, drop, get_or}
use lib.Dec.{eqb, ltb, leb}
use borrow.Author.Tests.{ltb-true, leb-true, eqb-true}
use Rattle.rules.specs.declared.Triangle.{Triangle}
use Rattle.rules.specs.declared.Operation.{Operation}
use Rattle.rules.specs.declared.Operation.TheVariants.{New, Forward, Backward, Border, Split, Close, Union, Start}
use Rattle.rules.specs.Triangle.{tri}
use Rattle.rules.specs.Ring.{Node, opened, marked, Ring, vertex, is_open, first_open, all_open, start_or, vertex_at, last_open, last_vertex}
use Rattle.rules.specs.Ring.{front}
use Rattle.rules.specs.Ring.{onward, reached, shown, loop_at, without}
use Rattle.rules.specs.Table.{Side, glued, Effect, not_allowed, builds, marks, allowed, shorter_first, marking, at_edge}
use Rattle.book.specs.Shown.{shown_all}
use Rattle.book.proofs.Shown.{ends, Stays, Live, ends_reached, reached_first, reached_cut, backward_shown, reached_some, take_cut, drop_cut}
use Rattle.book.proofs.Shown.{all_shown_append, all_shown_length, live_split, shown_live, FullCut, full_cut, open_ends, ends_last}
use Rattle.book.proofs.Parts.{building_of}
use Rattle.choice_theory.specs.Full.{fewer_first, new_numbers}
use Rattle.choice_theory.proofs.Places.Corners.{end_or}
use Rattle.choice_theory.proofs.Steps.Surgery.{triangle_at, Surgery, on_new, on_forward, on_backward, on_close, on_split, on_union}
use Rattle.choice_theory.proofs.Steps.Tally.{glues_a, glues_b, side_of, unions_of}
use Rattle.choice_theory.proofs.Places.Rings.{last_append}
use Rattle.choice_theory.proofs.Steps.Effects.{vertex_cut, loop_cut, without_cut, last_vertex_lem, front_of_lem, shown_backward}
use Rattle.choice_theory.proofs.Steps.Effects.{shown_halves, shown_union}
use Rattle.counting.proofs.Bools.{and_true}

-- a surgery of the full rings, after which the rings ls are shown
pub record Lifted (e f : Node) (ps : List Node) (ws ls : List Ring) (c : ℕ) (o : Operation) : Type 0 where
  pub full : List Ring
  pub shows : ls ≡ shown_all full
  pub does : Surgery e f ps ws full c o

-- an operation that builds, at the current edge from a to b: u is the next unused number
pub record Builds (o : Operation) (u : ℕ) (e f : Node) (ps : List Node) (ws ls : List Ring) (t : Triangle) (pq qr rp : Side) (n s k : ℕ)
    : Type 0 where
  pub surgery : (glues_a o ≡ false → end_or (vertex f) ps ≡ t.r → ⊥) → (glues_b o ≡ false → start_or (vertex e) ps ≡ t.r → ⊥)
      → Lifted e f ps ws ls t.r o
  pub triangle : t ≡ triangle_at e f t.r
  pub side_ba : pq ≡ glued
  pub side_ac : qr ≡ side_of (glues_a o)
  pub side_cb : rp ≡ side_of (glues_b o)
  pub news : n ≡ new_numbers o
  pub starts : s ≡ 0
  pub unions : k ≡ unions_of o
  pub next : o ≡ New → t.r ≡ u

-- the same of any effect
Law : Operation → ℕ → Node → Node → List Node → List Ring → Effect → Type 0
Law o u e f ps ws not_allowed = Unit {0}
Law o u e f ps ws (builds x) =
    Builds o u e f ps ws x.loops x.triangle x.sides.pq x.sides.qr x.sides.rp x.added.vertices x.added.starts
    x.added.unions
Law o u e f ps ws (marks x) = Unit {0}

law_allowed : (o : Operation) (u : ℕ) (e f : Node) (ps : List Node) (ws : List Ring) (b : Bool) (ef : Effect)
    → (b ≡ true → Law o u e f ps ws ef) → Law o u e f ps ws (allowed b ef)
unfolding Law allowed
law_allowed o u e f ps ws true ef h = h refl
law_allowed o u e f ps ws false ef h = tt

-- a list cut before its last place
record Ended (l : List Node) : Type 0 where
  p : Node
  whole : l ≡ front l ++ (p ∷ [])

ended : (q : Node) (l : List Node) → Ended (q ∷ l)
unfolding front
ended q [] = record { p = q; whole = refl }
ended q (r ∷ l) =
    let h = ended r l in record { p = h.p; whole = ap (λ (k : List Node). q ∷ k) h.whole }

-- the waiting ring at a number
record Waiting (ws : List Ring) (n : ℕ) : Type 0 where
  before : List Ring
  ring : Ring
  after : List Ring
  whole : ws ≡ before ++ (ring ∷ after)
  found : loop_at ws n ≡ ring
  others : without ws n ≡ before ++ after
  long : length before ≡ n

waiting : (ws : List Ring) (n : ℕ) → n < length ws → Waiting ws n
unfolding loop_at without
waiting [] n h = absurd (omega arith)
waiting (w ∷ ws) zero h = record { before = []; ring = w; after = ws; whole = refl; found = refl; others = refl; long = refl }
waiting (w ∷ ws) (suc n) h =
    let r = waiting ws n (omega arith) in
    record {
      before = w ∷ r.before;
      ring = r.ring;
      after = r.after;
      whole = ap (λ (k : List Ring). w ∷ k) r.whole;
      found = r.found;
      others = ap (λ (k : List Ring). w ∷ k) r.others;
      long = ap suc r.long;
    }

of_forward : (e f : Node) (ps : List Node) (ws : List Ring) → let F = reached (f ∷ ps) false in
    leb 3 (suc (length F)) && first_open F && not (eqb (suc (length F)) 3 && all_open F) ≡ true
    → (end_or (vertex f) ps ≡ vertex_at F 1 → ⊥) → Lifted e f ps ws ((opened (vertex e) ∷ drop 1 F) ∷ shown_all ws) (vertex_at F 1) Forward
unfolding vertex_at reached
of_forward e (marked v) ps ws h n =
    let F = reached (marked v ∷ ps) false in
    absurd (false≢true (and_true (leb 3 (suc (length F))) false
    (and_true (leb 3 (suc (length F)) && false) (not (eqb (suc (length F)) 3 && all_open F)) h).0).1)
of_forward e (opened v) [] ws h n = absurd (false≢true h)
of_forward e (opened v) (opened w ∷ []) ws h n = absurd (n refl)
of_forward e (opened v) (marked w ∷ []) ws h n = absurd (n refl)
of_forward e (opened v) (opened w ∷ (q ∷ qs)) ws h n =
    record { full = (opened (vertex e) ∷ (opened w ∷ (q ∷ qs))) ∷ ws; shows = refl; does = on_forward (opened w) q qs refl refl refl refl }
of_forward e (opened v) (marked w ∷ (q ∷ qs)) ws h n =
    record { full = (opened (vertex e) ∷ (marked w ∷ (q ∷ qs))) ∷ ws; shows = refl; does = on_forward (marked w) q qs refl refl refl refl }

small : (g : Node) → leb 3 (suc (length (reached (g ∷ []) false))) ≡ true → ⊥
unfolding reached
small (opened v) k = false≢true k
small (marked v) k = false≢true k

-- the run shown ends with an open edge, so the run does
of_backward : (e f : Node) (ps : List Node) (ws : List Ring) → let F = reached (f ∷ ps) false in
    leb 3 (suc (length F)) && last_open F && not (eqb (suc (length F)) 3 && all_open F) ≡ true
    → (start_or (vertex e) ps ≡ last_vertex F → ⊥)
    → Lifted e f ps ws ((opened (last_vertex F) ∷ front F) ∷ shown_all ws) (last_vertex F) Backward
of_backward e f [] ws h n =
    absurd (small f (and_true (leb 3 (suc (length (reached (f ∷ []) false)))) (last_open (reached (f ∷ []) false))
    (and_true (leb 3 (suc (length (reached (f ∷ []) false))) && last_open (reached (f ∷ []) false)) _ h).0).0)
of_backward e f (q ∷ qs) ws h n = go (front (q ∷ qs)) refl
  where
    F : List Node
    F = reached (f ∷ (q ∷ qs)) false

    r : Ended (q ∷ qs)
    r = ended q qs

    live : is_open r.p ≡ true
    live =
        not-false (is_open r.p)
        (sym (ends_last (f ∷ front (q ∷ qs)) r.p false)
        ∙ (ap (λ (k : List Node). ends (f ∷ k) false) (sym r.whole)
        ∙ (sym (ends_reached (f ∷ (q ∷ qs)) false)
        ∙ open_ends F false (and_true (leb 3 (suc (length F))) (last_open F)
        (and_true (leb 3 (suc (length F)) && last_open F) _ h).0).1)))
      where
        not-false : (t : Bool) → not t ≡ false → t ≡ true
        not-false true k = refl
        not-false false k = absurd (false≢true (sym k))

    cut_at : F ≡ reached (f ∷ front (q ∷ qs)) false ++ (r.p ∷ [])
    cut_at =
        ap (λ (k : List Node). reached (f ∷ k) false) r.whole
        ∙ (shown_backward e f (front (q ∷ qs)) r.p live
        ∙ ap (λ (k : List Node). k ++ (r.p ∷ [])) (sym (reached_first f (front (q ∷ qs)))))

    own : last_vertex F ≡ vertex r.p
    own = ap last_vertex cut_at ∙ last_vertex_lem (reached (f ∷ front (q ∷ qs)) false) r.p

    before : front F ≡ reached (f ∷ front (q ∷ qs)) false
    before = ap front cut_at ∙ front_of_lem (reached (f ∷ front (q ∷ qs)) false) r.p

    go : (k : List Node) → front (q ∷ qs) ≡ k
        → Lifted e f (q ∷ qs) ws ((opened (last_vertex F) ∷ front F) ∷ shown_all ws) (last_vertex F) Backward
    go [] s =
        absurd (n (ap (start_or (vertex e)) (r.whole ∙ ap (λ (k : List Node). k ++ (r.p ∷ [])) s) ∙ sym own))
    go (k ∷ ks) s = record {
      full = (opened (vertex r.p) ∷ (f ∷ (k ∷ ks))) ∷ ws;
      shows =
          ap₂ (λ (v : ℕ) (l : List Node). (opened v ∷ l) ∷ shown_all ws) own (before ∙ ap (λ (l : List Node). reached (f ∷ l) false) s);
      does = on_backward k ks r.p (r.whole ∙ ap (λ (l : List Node). l ++ (r.p ∷ [])) s) own live refl;
    }

opens : (q : Node) (qs : List Node) → all_open (q ∷ qs) ≡ true → (is_open q ≡ true) × (all_open qs ≡ true)
unfolding all_open
opens (opened v) qs h = (refl, h)
opens (marked v) qs h = absurd (false≢true h)

of_close : (e f : Node) (ps : List Node) (ws : List Ring) → let F = reached (f ∷ ps) false in
    eqb (suc (length F)) 3 && all_open F ≡ true → Lifted e f ps ws (shown_all ws) (vertex_at F 1) Close
unfolding vertex_at reached all_open
of_close e (marked v) ps ws h =
    let n = suc (length (reached (marked v ∷ ps) false)) in absurd (false≢true (and_true (eqb n 3) false h).1)
of_close e (opened v) [] ws h = absurd (false≢true h)
of_close e (opened v) (marked w ∷ ps) ws h =
    let n = suc (length (reached (opened v ∷ (marked w ∷ ps)) false)) in absurd (false≢true (and_true (eqb n 3) false h).1)
of_close e (opened v) (opened w ∷ []) ws h = record { full = ws; shows = refl; does = on_close (opened w) refl refl refl refl refl }
of_close e (opened v) (opened w ∷ (q ∷ qs)) ws h =
    let l = reached (q ∷ qs) false in
    let n : 1 ≤ length l = reached_some (q ∷ qs) true refl (omega arith) in
    let k = suc (suc (suc (length l))) in
    let g = eqb-true k 3 (and_true (eqb k 3) (all_open l) h).0 in
    absurd (omega arith)

of_split : (i : ℕ) (e f : Node) (ps : List Node) (ws : List Ring) → let F = reached (f ∷ ps) false in
    1 ≤ i → i + 2 ≤ suc (length F) → (end_or (vertex f) ps ≡ vertex_at F i → ⊥) → (start_or (vertex e) ps ≡ vertex_at F i → ⊥)
    → Lifted e f ps ws (shorter_first (opened (vertex_at F i) ∷ take i F) (opened (vertex e) ∷ drop i F) (shown_all ws)) (vertex_at F i)
    (Split i)
unfolding reached
of_split i e f ps ws lo hi na nb = go x.us refl
  where
    F : List Node
    F = reached (f ∷ ps) false

    x : FullCut (f ∷ ps) false i
    x = full_cut (f ∷ ps) false i (omega arith)

    parts : F ≡ reached x.us false ++ (x.p ∷ reached x.vs (not (is_open x.p)))
    parts = ap (λ (k : List Node). reached k false) x.whole ∙ reached_cut x.us x.p x.vs x.stays

    at : vertex_at F i ≡ vertex x.p
    at = ap₂ vertex_at parts (sym x.short) ∙ vertex_cut (reached x.us false) x.p (reached x.vs (not (is_open x.p)))

    head : take i F ≡ reached x.us false
    head = ap₂ (λ (n : ℕ) (l : List Node). take n l) (sym x.short) parts
        ∙ take_cut (reached x.us false) (x.p ∷ reached x.vs (not (is_open x.p)))

    tail : drop i F ≡ x.p ∷ reached x.vs (not (is_open x.p))
    tail = ap₂ (λ (n : ℕ) (l : List Node). drop n l) (sym x.short) parts
        ∙ drop_cut (reached x.us false) (x.p ∷ reached x.vs (not (is_open x.p)))

    some : (us vs : List Node) → ps ≡ us ++ (x.p ∷ vs) → (1 ≤ length us) × (1 ≤ length vs)
    some [] vs h = absurd (nb (ap (start_or (vertex e)) h ∙ sym at))
    some (u ∷ us) [] h = absurd (na (ap (end_or (vertex f)) h ∙ (last_append (vertex f) (u ∷ us) x.p [] ∙ sym at)))
    some (u ∷ us) (v ∷ vs) h = (omega arith, omega arith)

    go : (us : List Node) → x.us ≡ us
        → Lifted e f ps ws (shorter_first (opened (vertex_at F i) ∷ take i F) (opened (vertex e) ∷ drop i F) (shown_all ws)) (vertex_at F i)
        (Split i)
    go [] h = let z : length (reached x.us false) ≡ 0 = ap (λ (k : List Node). length (reached k false)) h in let y = x.short in
        absurd (omega arith)
    go (g ∷ us) h =
        let w : f ∷ ps ≡ (g ∷ us) ++ (x.p ∷ x.vs) = x.whole ∙ ap (λ (k : List Node). k ++ (x.p ∷ x.vs)) h in
        let fg : g ≡ f = ap (λ (k : List Node). get_or k 0 f) (sym w) in
        let u : x.us ≡ f ∷ us = h ∙ ap (λ (k : Node). k ∷ us) fg in
        let sh : ps ≡ us ++ (x.p ∷ x.vs) = ap (drop 1) w in
        let s = some us x.vs sh in
        record {
          full = fewer_first (opened (vertex x.p) ∷ (f ∷ us)) (opened (vertex e) ∷ (x.p ∷ x.vs)) ws;
          shows =
              rw (at, head, tail, u) (ap
              (λ (k : List Node). shorter_first (opened (vertex x.p) ∷ k)
              (opened (vertex e) ∷ (x.p ∷ reached x.vs (not (is_open x.p)))) (shown_all ws)) (reached_first f us)
              ∙ sym (shown_halves e f us x.p x.vs ws));
          does = on_split us x.p x.vs sh
              (ap (λ (k : List Node). length (reached k false)) (sym u) ∙ x.short, subst (λ (k : List Node). Stays k x.p) u x.stays)
              s.0 s.1 at refl;
        }

of_union : (n j : ℕ) (e f : Node) (ps : List Node) (ws : List Ring) → Live ws → let W = loop_at (shown_all ws) (n - 1) in let F =
    reached (f ∷ ps) false in
    leb 1 n && leb n (length (shown_all ws)) && ltb j (length W) ≡ true
    → Lifted e f ps ws ((opened (vertex_at W j) ∷ (F ++ (opened (vertex e) ∷ (drop j W ++ take j W)))) ∷ without (shown_all ws) (n - 1))
    (vertex_at W j) (Union n j)
of_union zero j e f ps ws g h =
    absurd (false≢true (and_true (leb 1 0) (leb 0 (length (shown_all ws)))
    (and_true (leb 1 0 && leb 0 (length (shown_all ws))) (ltb j (length (loop_at (shown_all ws) (0 - 1)))) h).0).0)
of_union (suc w) j e f ps ws g h = record {
  full = (opened (vertex y.p) ∷ (f ∷ (ps ++ (opened (vertex e) ∷ (y.p ∷ (y.vs ++ y.us)))))) ∷ (x.before ++ x.after);
  shows =
      rw (spot, front', back', others)
      (ap₂ (λ (k : List Node) (r : List Ring). (opened (vertex y.p) ∷ k) ∷ r)
      (ap (λ (k : List Node). k ++ (opened (vertex e) ∷ ((y.p ∷ reached y.vs (not (is_open y.p))) ++ reached y.us false)))
      (reached_first f ps)
      ∙ sym (shown_union e f ps y.us y.p y.vs x.after live))
      (sym (all_shown_append x.before x.after)));
  does = on_union x.before y.us y.p y.vs x.after (x.whole ∙ ap (λ (l : List Node). x.before ++ (l ∷ x.after)) y.whole)
      (ap suc x.long) (y.short, y.stays) spot refl;
}
  where
    n : ℕ
    n = suc w

    W : List Node
    W = loop_at (shown_all ws) (n - 1)

    tests : (leb 1 n && leb n (length (shown_all ws)) ≡ true) × (ltb j (length W) ≡ true)
    tests = and_true (leb 1 n && leb n (length (shown_all ws))) (ltb j (length W)) h

    few : suc w ≤ length (shown_all ws)
    few = leb-true n (length (shown_all ws)) (and_true (leb 1 n) (leb n (length (shown_all ws))) tests.0).1

    x : Waiting ws w
    x = waiting ws w (let k = few in let l = all_shown_length ws in omega arith)

    live' : Live (x.ring ∷ x.after)
    live' = (live_split x.before (x.ring ∷ x.after) (subst Live x.whole g)).1

    pred : n - 1 ≡ w
    pred = omega arith

    all : shown_all ws ≡ shown_all x.before ++ (shown x.ring ∷ shown_all x.after)
    all = ap shown_all x.whole ∙ all_shown_append x.before (x.ring ∷ x.after)

    long : length (shown_all x.before) ≡ w
    long = all_shown_length x.before ∙ x.long

    at : W ≡ reached x.ring false
    at =
        ap₂ loop_at all (pred ∙ sym long)
        ∙ (loop_cut (shown_all x.before) (shown x.ring) (shown_all x.after) ∙ shown_live x.ring x.after live')

    others : without (shown_all ws) (n - 1) ≡ shown_all x.before ++ shown_all x.after
    others = ap₂ without all (pred ∙ sym long) ∙ without_cut (shown_all x.before) (shown x.ring) (shown_all x.after)

    y : FullCut x.ring false j
    y = full_cut x.ring false j (subst (λ (k : List Node). j < length k) at (ltb-true j (length W) tests.1))

    live : Live ((y.us ++ (y.p ∷ y.vs)) ∷ x.after)
    live = subst (λ (k : List Node). Live (k ∷ x.after)) y.whole live'

    parts : W ≡ reached y.us false ++ (y.p ∷ reached y.vs (not (is_open y.p)))
    parts = at ∙ (ap (λ (k : List Node). reached k false) y.whole ∙ reached_cut y.us y.p y.vs y.stays)

    spot : vertex_at W j ≡ vertex y.p
    spot = ap₂ vertex_at parts (sym y.short) ∙ vertex_cut (reached y.us false) y.p (reached y.vs (not (is_open y.p)))

    front' : take j W ≡ reached y.us false
    front' = ap₂ (λ (k : ℕ) (l : List Node). take k l) (sym y.short) parts
        ∙ take_cut (reached y.us false) (y.p ∷ reached y.vs (not (is_open y.p)))

    back' : drop j W ≡ y.p ∷ reached y.vs (not (is_open y.p))
    back' = ap₂ (λ (k : ℕ) (l : List Node). drop k l) (sym y.short) parts
        ∙ drop_cut (reached y.us false) (y.p ∷ reached y.vs (not (is_open y.p)))

law_marking : (u : ℕ) (e f : Node) (ps : List Node) (ws : List Ring) (r : Ring) (x y : ℕ)
    → Law Border u e f ps ws (marking r (shown_all ws) (record { from = x; to = y }))
unfolding Law
law_marking u e f ps ws [] x y = tt
law_marking u e f ps ws (p ∷ r) x y = tt

made : (o : Operation) (u : ℕ) (e f : Node) (ps : List Node) (ws ls : List Ring) (c : ℕ)
    → ((glues_a o ≡ false → end_or (vertex f) ps ≡ c → ⊥) → (glues_b o ≡ false → start_or (vertex e) ps ≡ c → ⊥) → Lifted e f ps ws ls c o)
    → (o ≡ New → c ≡ u)
    → Builds o u e f ps ws ls (tri (start_or (vertex e) (reached (f ∷ ps) false)) (vertex e) c) glued (side_of (glues_a o))
    (side_of (glues_b o))
    (new_numbers o) 0 (unions_of o)
made o u e f ps ws ls c s n = record {
  surgery = s;
  triangle = ap (λ (v : ℕ). tri v (vertex e) c) (ap (start_or (vertex e)) (reached_first f ps));
  side_ba = refl;
  side_ac = refl;
  side_cb = refl;
  news = refl;
  starts = refl;
  unions = refl;
  next = n;
}

not_new : {A : Type 0} (o : Operation) → new_numbers o ≡ 0 → o ≡ New → A
not_new o z h = let w : new_numbers o ≡ 1 = ap new_numbers h in absurd (omega arith)

law : (o : Operation) (u : ℕ) (e f : Node) (ps : List Node) (ws : List Ring) → Live ws
    → Law o u e f ps ws (at_edge o u (vertex e) (reached (f ∷ ps) false) (shown_all ws))
unfolding at_edge Law
law New u e f ps ws g =
    made New u e f ps ws _ u
    (λ a b. record {
      full = (opened u ∷ (f ∷ (ps ++ (opened (vertex e) ∷ [])))) ∷ ws;
      shows =
          ap (λ (r : List Node). (opened u ∷ r) ∷ shown_all ws) (sym (backward_shown (f ∷ ps) (vertex e)));
      does = on_new refl;
    })
    (λ h. refl)
law Forward u e f ps ws g =
    law_allowed Forward u e f ps ws _ _ (λ h. made Forward u e f ps ws _ _ (λ a b. of_forward e f ps ws h (a refl)) (not_new Forward refl))
law Backward u e f ps ws g =
    law_allowed Backward u e f ps ws _ _
    (λ h. made Backward u e f ps ws _ _ (λ a b. of_backward e f ps ws h (b refl)) (not_new Backward refl))
law Border u e f ps ws g =
    law_marking u e f ps ws (shown (onward [] (reached (f ∷ ps) false ++ (marked (vertex e) ∷ [])))) (vertex e)
    (start_or (vertex e) (reached (f ∷ ps) false))
law (Split i) u e f ps ws g =
    law_allowed (Split i) u e f ps ws _ _
    (λ h. made (Split i) u e f ps ws _ _
    (λ a b.
    (let F = reached (f ∷ ps) false in
    let k = suc (length F) in
    let t = (and_true (leb 1 i && leb (i + 2) k && not (eqb i 1 && first_open F)) (not (eqb (i + 2) k && last_open F)) h).0 in
    let t2 = and_true (leb 1 i) (leb (i + 2) k) (and_true (leb 1 i && leb (i + 2) k) (not (eqb i 1 && first_open F)) t).0 in
    of_split i e f ps ws (leb-true 1 i t2.0) (leb-true (i + 2) k t2.1) (a refl) (b refl)))
    (not_new (Split i) refl))
law Close u e f ps ws g =
    law_allowed Close u e f ps ws _ _ (λ h. made Close u e f ps ws _ _ (λ a b. of_close e f ps ws h) (not_new Close refl))
law (Union n j) u e f ps ws g =
    law_allowed (Union n j) u e f ps ws _ _
    (λ h. made (Union n j) u e f ps ws _ _ (λ a b. of_union n j e f ps ws g h) (not_new (Union n j) refl))
law Start u e f ps ws g = tt

pub surgery_of : (o : Operation) (u : ℕ) (e f : Node) (ps : List Node) (ws ls : List Ring) (t : Triangle) (pq qr rp : Side) (n s k : ℕ)
    → Live ws
    → at_edge o u (vertex e) (reached (f ∷ ps) false) (shown_all ws) ≡ builds (building_of ls t pq qr rp n s k)
    → Builds o u e f ps ws ls t pq qr rp n s k
unfolding Law
surgery_of o u e f ps ws ls t pq qr rp n s k g h = subst (Law o u e f ps ws) h (law o u e f ps ws g)
