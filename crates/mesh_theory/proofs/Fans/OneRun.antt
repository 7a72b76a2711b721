-- The test `one_run` on a list of edges: if it passes, the edges are one chain; if one run has the same edges, it passes.
-- Assumes nothing.
use Prim.Native.Nat.{ℕ, zero, suc, ◌+◌, ◌≤◌}
use native.Mathlib.Omega.{arith}
use mathlib.Core.Bool.{true, false≢true}
use mathlib.Core.List.{List, [], ◌∷◌, reverse_aux}
use mathlib.Core.Logic.{◌↔◌, inl, inr, ⊎_elim}
use mathlib.Core.Path.{◌≡◌, refl, sym, ap, subst}
use lib.ListN.{length}
use Rattle.rules.specs.Triangle.{Edge}
use Rattle.rules.specs.Count.{same, count}
use Rattle.rules.specs.Fan.{Shares, Run, leaving, entering, turn_on, turn_back, is_nil, one_run}
use Rattle.mesh_theory.specs.Fans.Ways.{total, Walk, Chain, Chained}
use Rattle.mesh_theory.proofs.Fans.Counting.{starts, ends, Apart, member, length_total, hits, count_total, count_starts, count_ends}
use Rattle.mesh_theory.proofs.Fans.Turning.{onward, backward, turned}
use Rattle.counting.proofs.Counts.{same_is, hit_yes}

-- a way back, turned round, before a chain
chain_onto : (x s t : ℕ) (bs ds : List Edge) → Walk (λ d. d.to) (λ d. d.from) x bs s → Chain x ds t → Chain s (reverse_aux bs ds) t
chain_onto x s t [] ds h c = subst (λ (k : ℕ). Chain k ds t) h c
chain_onto x s t (b ∷ bs) ds h c =
    chain_onto b.from s t bs (b ∷ ds) h.1 (refl, subst (λ (k : ℕ). Chain k ds t) (sym h.0) c)

total_onto : (w : Edge → ℕ) (bs ds : List Edge) → total w (reverse_aux bs ds) ≡ total w bs + total w ds
unfolding total
total_onto w [] ds = omega arith
total_onto w (b ∷ bs) ds = omega (arith, total_onto w bs (b ∷ ds))

-- in a chain as many edges start at a vertex as end there, but for the chain's own ends
pub chain_degree : (x s t : ℕ) (ds : List Edge) → Chain s ds t → starts x ds + same x t ≡ ends x ds + same x s
unfolding total
chain_degree x s t [] h = omega (arith, ap (same x) h)
chain_degree x s t (d ∷ ds) h = omega (arith, ap (same x) h.0, chain_degree x d.to t ds h.1)

pub chain_run : (s t : ℕ) (ds : List Edge) → Chain s ds t → Run ds
chain_run s t [] h = tt
chain_run s t (d ∷ []) h = tt
chain_run s t (d ∷ (e ∷ ds)) h = (inl (sym h.1.0), chain_run d.to t (e ∷ ds) h.1)

-- the edges that are left after turning from d one way and then the other
abbrev left : Edge → List Edge → List Edge
left d ds = turn_back (length ds) d.from (turn_on (length ds) d.to ds)

-- the edges reached from d are a chain, and no edge that is left goes on from it or leads to it
record Reached (d : Edge) (ds rest : List Edge) : Type 0 where
  start : ℕ
  finish : ℕ
  path : List Edge
  chain : Chain start path finish
  sum : (w : Edge → ℕ) → total w (d ∷ ds) ≡ total w path + total w rest
  first : (w : Edge → ℕ) → w d ≤ total w path
  none_on : starts finish rest ≡ 0
  none_back : ends start rest ≡ 0

reached : (d : Edge) (ds : List Edge) → Reached d ds (left d ds)
unfolding total
reached d ds =
    let on = turned (λ e. e.from) (λ e. e.to) leaving turn_on onward (length ds) d.to ds in
    let es = turn_on (length ds) d.to ds in
    let back = turned (λ e. e.to) (λ e. e.from) entering turn_back backward (length ds) d.from es in
    record {
      start = back.end;
      finish = on.end;
      path = reverse_aux back.path (d ∷ on.path);
      chain = chain_onto d.from back.end on.end back.path (d ∷ on.path) back.walk (refl, on.walk);
      sum = λ w. omega (arith, total_onto w back.path (d ∷ on.path), on.sum w, back.sum w);
      first = λ w. omega (arith, total_onto w back.path (d ∷ on.path));
      none_on = omega (arith, on.stuck (omega arith), back.sum (λ e. same on.end e.from));
      none_back = back.stuck (omega (arith, on.sum (λ e. 1), length_total ds, length_total es));
    }

-- if it passes, they are one chain
no_rest : (w : Edge → ℕ) (ds : List Edge) → is_nil ds ≡ true → total w ds ≡ 0
unfolding total
no_rest w [] h = refl
no_rest w (d ∷ ds) h = absurd (false≢true h)

pub run_chained : (ds : List Edge) → one_run ds ≡ true → Chained ds
unfolding one_run total
run_chained [] h = record { start = 0; finish = 0; path = []; chain = refl; sum = λ w. refl }
run_chained (d ∷ ds) h =
    let r = reached d ds in
    record {
      start = r.start;
      finish = r.finish;
      path = r.path;
      chain = r.chain;
      sum = λ w. omega (arith, r.sum w, no_rest w (left d ds) h);
    }

pub chained_count : (ds : List Edge) (c : Chained ds) (x y : ℕ) → count x y c.path ≡ count x y ds
chained_count ds c x y = omega (arith, c.sum (hits x y), count_total x y c.path, count_total x y ds)

shares_sym : (d e : Edge) → Shares d e → Shares e d
shares_sym d e (inl h) = inr h
shares_sym d e (inr h) = inl h

-- no two of the edges d, ds start or end at the same vertex; rest are those that are not reached from d
module _ (d : Edge) (ds rest : List Edge) (apart : Apart (d ∷ ds)) (r : Reached d ds rest) where
  -- x is met by the chain, or it is the chain's end t, from which nothing goes on: no edge that is left starts at x
  closed : (near : Edge → ℕ) (x t : ℕ) → total (λ e. same x (near e)) (d ∷ ds) ≤ 1
      → 1 ≤ total (λ e. same x (near e)) r.path + same x t → total (λ e. same t (near e)) rest ≡ 0
      → total (λ e. same x (near e)) rest ≡ 0
  closed near x t one some none = go (same x t) refl
    where
      go : (n : ℕ) → same x t ≡ n → total (λ e. same x (near e)) rest ≡ 0
      go zero e = omega (arith, r.sum (λ f. same x (near f)))
      go (suc n) e = let e' : x ≡ t = same_is x t (omega arith) in rw e' none

  degree : (x : ℕ) → starts x r.path + same x r.finish ≡ ends x r.path + same x r.start
  degree x = chain_degree x r.start r.finish r.path r.chain

  none_after : (e : Edge) → 1 ≤ count e.from e.to r.path → starts e.to rest ≡ 0
  none_after e h =
      closed (λ g. g.from) e.to r.finish (apart.starts_once e.to)
      (omega (arith, count_ends e.from e.to r.path, degree e.to)) r.none_on

  none_before : (e : Edge) → 1 ≤ count e.from e.to r.path → ends e.from rest ≡ 0
  none_before e h =
      closed (λ g. g.to) e.from r.start (apart.ends_once e.from)
      (omega (arith, count_starts e.from e.to r.path, degree e.from)) r.none_back

  is_reached : (e : Edge) → 1 ≤ count e.from e.to (d ∷ ds) → count e.from e.to rest ≡ 0
      → 1 ≤ count e.from e.to r.path
  is_reached e h k =
      omega (
        arith,
        r.sum (hits e.from e.to),
        count_total e.from e.to (d ∷ ds),
        count_total e.from e.to r.path,
        count_total e.from e.to rest,
      )

  -- an edge that shares an end with a reached one is reached
  neighbour : (e f : Edge) → Shares e f → 1 ≤ count e.from e.to (d ∷ ds) → count e.from e.to rest ≡ 0
      → count f.from f.to rest ≡ 0
  neighbour e f (inl s) h k =
      omega (arith, count_starts f.from f.to rest, subst (λ (x : ℕ). starts x rest ≡ 0) s (none_after e (is_reached e h k)))
  neighbour e f (inr s) h k =
      omega (arith, count_ends f.from f.to rest, subst (λ (x : ℕ). ends x rest ≡ 0) (sym s) (none_before e (is_reached e h k)))

  -- in a run of the edges: from its first edge on, and back to it
  abbrev Among : List Edge → Type 0
  Among es = (x y : ℕ) → 1 ≤ count x y es → 1 ≤ count x y (d ∷ ds)

  among_first : (e : Edge) (es : List Edge) → Among (e ∷ es) → 1 ≤ count e.from e.to (d ∷ ds)
  unfolding count
  among_first e es a = a e.from e.to (omega (arith, hit_yes e.from e.to))

  among_rest : (e : Edge) (es : List Edge) → Among (e ∷ es) → Among es
  unfolding count
  among_rest e es a x y h = a x y (omega arith)

  none_in : (x y : ℕ) → 1 ≤ count x y [] → ⊥
  unfolding count
  none_in x y h = omega arith

  from_first : (e : Edge) (es : List Edge) → Run (e ∷ es) → Among (e ∷ es) → count e.from e.to rest ≡ 0
      → (x y : ℕ) → 1 ≤ count x y (e ∷ es) → count x y rest ≡ 0
  from_first e [] s a k x y h = ⊎_elim (λ q. rw (q.0, q.1) k) (λ m. absurd (none_in x y m)) (member x y e [] h)
  from_first e (f ∷ es) s a k x y h =
      ⊎_elim (λ q. rw (q.0, q.1) k)
      (λ m. from_first f es s.1 (among_rest e (f ∷ es) a) (neighbour e f s.0 (among_first e (f ∷ es) a) k) x y m)
      (member x y e (f ∷ es) h)

  to_first : (e : Edge) (es : List Edge) → Run (e ∷ es) → Among (e ∷ es) → (x y : ℕ) → 1 ≤ count x y (e ∷ es) → count x y rest ≡ 0
      → count e.from e.to rest ≡ 0
  to_first e [] s a x y h k =
      ⊎_elim (λ q. rw (← q.0, ← q.1) k) (λ m. absurd (none_in x y m)) (member x y e [] h)
  to_first e (f ∷ es) s a x y h k =
      ⊎_elim (λ q. rw (← q.0, ← q.1) k)
      (λ m.
      let b = among_rest e (f ∷ es) a in
      neighbour f e (shares_sym e f s.0) (among_first f es b) (to_first f es s.1 b x y m k))
      (member x y e (f ∷ es) h)

  first_reached : count d.from d.to rest ≡ 0
  first_reached =
      omega (
        arith,
        r.sum (hits d.from d.to),
        r.first (hits d.from d.to),
        hit_yes d.from d.to,
        count_total d.from d.to (d ∷ ds),
        count_total d.from d.to rest,
        count_starts d.from d.to (d ∷ ds),
        apart.starts_once d.from,
      )

  among_all : (es : List Edge) → Run es → Among es → ((x y : ℕ) → 1 ≤ count x y (d ∷ ds) → 1 ≤ count x y es) → (x y : ℕ)
      → 1 ≤ count x y (d ∷ ds) → count x y rest ≡ 0
  unfolding count
  among_all [] s a b x y h = absurd (omega (arith, b x y h))
  among_all (e ∷ es) s a b x y h =
      from_first e es s a
      (to_first e es s a d.from d.to (b d.from d.to (omega (arith, hit_yes d.from d.to))) first_reached) x y
      (b x y h)

  none_left : (fs : List Edge) → Among fs → ((x y : ℕ) → 1 ≤ count x y (d ∷ ds) → count x y fs ≡ 0) → is_nil fs ≡ true
  unfolding count
  none_left [] a h = refl
  none_left (f ∷ fs) a h = absurd (omega (arith, hit_yes f.from f.to, h f.from f.to (among_first f fs a)))

  all_reached : (es : List Edge) → Run es → Among es → ((x y : ℕ) → 1 ≤ count x y (d ∷ ds) → 1 ≤ count x y es) → is_nil rest ≡ true
  all_reached es s a b =
      none_left rest (λ x y h. omega (arith, r.sum (hits x y), count_total x y (d ∷ ds), count_total x y rest)) (among_all es s a b)

-- it passes if there is one run that has the same edges, each at least once
pub run_passes : (ds es : List Edge) → Apart ds → Run es → ((x y : ℕ) → (1 ≤ count x y es) ↔ (1 ≤ count x y ds))
    → one_run ds ≡ true
unfolding one_run
run_passes [] es a s c = refl
run_passes (d ∷ ds) es a s c = all_reached d ds (left d ds) a (reached d ds) es s (λ x y. (c x y).0) (λ x y. (c x y).1)
