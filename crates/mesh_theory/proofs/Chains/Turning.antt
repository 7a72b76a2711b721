-- Turning by look-ups reaches the same triangles about a vertex as the test of 7 does by taking edges out of a list.
-- Assumes nothing.
use Prim.Native.Nat.{ℕ, zero, suc, ◌+◌, ◌≤◌}
use native.Mathlib.Omega.{arith}
use mathlib.Core.Bool.{Bool, true, false}
use mathlib.Core.List.{List, [], ◌∷◌}
use mathlib.Core.Path.{◌≡◌, refl, sym, ap, ◌∙◌}
use lib.ListN.{length}
use lib.Dec.{eqb}
use borrow.Author.Tests.{eqb-true, eqb-false}
use Rattle.rules.specs.declared.Triangle.{Triangle}
use Rattle.rules.specs.Across.{Across}
use Rattle.rules.specs.Across.{Found, Nothing}
use Rattle.rules.specs.Triangle.{Edge, edges_of, corners, Rot, at_p, at_q, at_r, In}
use Rattle.rules.specs.Count.{same, hit, occurs, count, uses}
use Rattle.rules.specs.Across.{across}
use Rattle.rules.specs.Check.{all_distinct, none_twice}
use Rattle.rules.specs.Fan.{about, Taken, no_edge, taken, leaving, entering, turn_on, turn_back}
use Rattle.mesh_theory.specs.Fans.Ways.{total}
use Rattle.mesh_theory.specs.Fans.Corner.{Different}
use Rattle.mesh_theory.proofs.Fans.Counting.{starts, ends, Apart, length_total, total_more, hits, count_total, count_starts}
use Rattle.mesh_theory.proofs.Fans.Counting.{count_ends}
use Rattle.mesh_theory.proofs.Fans.Turning.{Turn, onward, backward, Parts, parts}
use Rattle.mesh_theory.proofs.Fans.Corners.{in_next}
use Rattle.mesh_theory.proofs.Fans.Tests.{distinct_first, distinct_rest}
use Rattle.mesh_theory.proofs.Fans.About.{First, meets, misses, first, about_edges, about_apart, in_about}
use Rattle.mesh_theory.proofs.Fans.Finding.{across_found, across_nothing, found_in_lem}
use Rattle.mesh_theory.specs.Chains.Turn.{left_back, left_on}
use Rattle.counting.proofs.Counts.{same_yes, same_no, hit_from, hit_to, hit_is}

-- as many triangles are about v as corners have v
rot_same : {v x y : ℕ} (t : Triangle) → Different t.p t.q t.r → Rot t v x y
    → same v t.r + (same v t.q + same v t.p) ≡ 1
rot_same {v} t d (at_p a b c) =
    omega (arith, ap (same v) a, same_yes v, same_no v t.q (λ e. d.x_y (a ∙ e)), same_no v t.r (λ e. d.z_x (sym (a ∙ e))))
rot_same {v} t d (at_q a b c) =
    omega (arith, ap (same v) a, same_yes v, same_no v t.p (λ e. d.x_y (sym (a ∙ e))), same_no v t.r (λ e. d.y_z (a ∙ e)))
rot_same {v} t d (at_r a b c) =
    omega (arith, ap (same v) a, same_yes v, same_no v t.p (λ e. d.z_x (a ∙ e)), same_no v t.q (λ e. d.y_z (sym (a ∙ e))))

pub about_length : (v : ℕ) (ts : List Triangle) → all_distinct ts ≡ true → length (about v ts) ≡ occurs v (corners ts)
unfolding about occurs corners
about_length v [] h = refl
about_length v (t ∷ ts) h = go (first v t ts) (about_length v ts (distinct_rest t ts h))
  where
    go : First v t ts → length (about v ts) ≡ occurs v (corners ts) → length (about v (t ∷ ts)) ≡ occurs v (corners (t ∷ ts))
    go (meets x y r e) k = rw e (omega (arith, rot_same t (distinct_first t ts h) r))
    go (misses a b c e) k = rw e (omega (arith, same_no v t.p a, same_no v t.q b, same_no v t.r c))

module _ (near far : Edge → ℕ) (pick : ℕ → List Edge → Taken) (turn : ℕ → ℕ → List Edge → List Edge)
    (law : Turn near far pick turn) where
  -- where no edge is at x, turning stops
  stops : (n x : ℕ) (ds : List Edge) → total (λ d. same x (near d)) ds ≡ 0 → turn n x ds ≡ ds
  stops zero x ds h = law.turn_zero x ds
  stops (suc n) x ds h = go (pick x ds) refl (parts near far pick turn law x ds)
    where
      go : (r : Taken) → pick x ds ≡ r → Parts near x ds r → turn (suc n) x ds ≡ ds
      go no_edge e p = law.turn_stop n x ds e
      go (taken d es) e p = absurd (omega (arith, p.1 (λ f. same x (near f)), ap (same x) p.0, same_yes x))

  -- the edge that turning takes next, and what is left
  record Next (n x : ℕ) (ds : List Edge) : Type 0 where
    edge_taken : Edge
    rest : List Edge
    at : near edge_taken ≡ x
    sum : (w : Edge → ℕ) → total w ds ≡ w edge_taken + total w rest
    turns : turn (suc n) x ds ≡ turn n (far edge_taken) rest

  nexts : (n x : ℕ) (ds : List Edge) → 1 ≤ total (λ d. same x (near d)) ds → Next n x ds
  nexts n x ds h = go (pick x ds) refl (parts near far pick turn law x ds)
    where
      go : (r : Taken) → pick x ds ≡ r → Parts near x ds r → Next n x ds
      go no_edge e p = absurd (omega arith)
      go (taken d es) e p = record { edge_taken = d; rest = es; at = p.0; sum = p.1; turns = law.turn_more n x ds d es e }

  -- where at most one edge is at x, and no edge that was taken before, the edge taken is the one that has a weight there
  the_one : (n x : ℕ) (all way rest : List Edge) → ((w : Edge → ℕ) → total w all ≡ total w way + total w rest)
      → total (λ d. same x (near d)) all ≤ 1 → total (λ d. same x (near d)) way ≡ 0 → (next : Next n x rest)
      → (w : Edge → ℕ) → ((d : Edge) → w d ≤ same x (near d)) → 1 ≤ total w all → 1 ≤ w next.edge_taken
  the_one n x all way rest s o z next w h l =
      omega (
        arith,
        s w,
        s (λ d. same x (near d)),
        next.sum w,
        next.sum (λ d. same x (near d)),
        total_more w (λ d. same x (near d)) h way,
        total_more w (λ d. same x (near d)) h next.rest,
        ap (same x) next.at,
        same_yes x,
      )

-- edges taken so far, a way from s to t, and edges that are left
pub record Way (all : List Edge) (s t : ℕ) (way rest : List Edge) : Type 0 where
  pub degrees : (x : ℕ) → starts x way + same x t ≡ ends x way + same x s
  pub sum : (w : Edge → ℕ) → total w all ≡ total w way + total w rest
  pub leaves : 1 ≤ starts s way
  pub enters : 1 ≤ ends t way

module _ (v : ℕ) (ts : List Triangle) (distinct : all_distinct ts ≡ true) (once : none_twice (edges_of ts) ≡ true) where
  abbrev all : List Edge
  all = about v ts

  apart : Apart all
  apart = about_apart v ts distinct once

  all_starts : (x : ℕ) → starts x all ≡ uses v x ts
  all_starts x = (about_edges v x ts distinct).0

  all_ends : (x : ℕ) → ends x all ≡ uses x v ts
  all_ends x = (about_edges v x ts distinct).1

  all_has : {x y : ℕ} → In v x y ts → 1 ≤ count x y all
  all_has i = in_about ts distinct i

  -- turning back from s: the way's other end is open
  back : (m n s t : ℕ) (way rest : List Edge) → Way all s t way rest → starts t all ≡ 0 → length rest ≡ n → n ≤ m
      → left_back ts v s n ≡ length (turn_back m s rest)
  unfolding left_back total
  back m zero s t way [] w o e l =
      sym (ap (length {A = Edge}) (stops (λ d. d.to) (λ d. d.from) entering turn_back backward m s [] refl))
  back m zero s t way (r ∷ rest) w o e l = absurd (omega arith)
  back zero (suc n) s t way rest w o e l = absurd (omega arith)
  back (suc m) (suc n) s t way rest w o e l =
      go (across s v ts) refl (λ z way' rest' w' e'. back m n z t way' rest' w' o e' (omega arith))
    where
      differ : s ≡ t → ⊥
      differ q = omega (arith, w.leaves, w.sum (λ d. same s d.from), ap (λ (x : ℕ). starts x all) q)

      none : ends s way ≡ 0
      none = omega (arith, w.degrees s, same_no s t differ, same_yes s, w.sum (λ d. same s d.from), apart.starts_once s)

      more : (z : ℕ) → 1 ≤ count z s all
          → ((z : ℕ) (way' rest' : List Edge) → Way all z t way' rest' → length rest' ≡ n
          → left_back ts v z n ≡ length (turn_back m z rest'))
          → Next (λ d. d.to) (λ d. d.from) entering turn_back backward m s rest
          → left_back ts v z n ≡ length (turn_back (suc m) s rest)
      more z h k x =
          let d = x.edge_taken in
          let c : 1 ≤ hit z s d.from d.to =
          the_one (λ g. g.to) (λ g. g.from) entering turn_back backward m s all way rest w.sum (apart.ends_once s) none x
          (hits z s)
          (λ g. hit_to z s g.from g.to) (omega (arith, count_total z s all)) in
          let z_is : z ≡ d.from = (hit_is z s d.from d.to c).0 in
          let w' : Way all z t (d ∷ way) x.rest =
          record {
            degrees = λ y. omega (arith, w.degrees y, ap (same y) x.at, ap (same y) z_is);
            sum = λ g. omega (arith, w.sum g, x.sum g);
            leaves = omega (arith, ap (same z) z_is, same_yes z);
            enters = omega (arith, w.enters);
          } in
          k z (d ∷ way) x.rest w' (omega (arith, length_total rest, length_total x.rest, x.sum (λ g. 1)))
          ∙ ap (λ (y : ℕ). length (turn_back m y x.rest)) z_is ∙ sym (ap (length {A = Edge}) x.turns)

      go : (a : Across) → across s v ts ≡ a
          → ((z : ℕ) (way' rest' : List Edge) → Way all z t way' rest' → length rest' ≡ n
          → left_back ts v z n ≡ length (turn_back m z rest'))
          → left_back ts v s (suc n) ≡ length (turn_back (suc m) s rest)
      go Nothing q k =
          let u : ends s rest ≡ 0 = omega (arith, all_ends s, (across_nothing s v ts).0 q, w.sum (λ d. same s d.to)) in
          rw (left_back, q)
          (sym (ap (length {A = Edge}) (stops (λ d. d.to) (λ d. d.from) entering turn_back backward (suc m) s rest u) ∙ e))
      go (Found i j z) q k =
          let h : 1 ≤ count z s all = all_has (in_next (found_in_lem ts (across_found s v ts i j z q))) in
          let f : 1 ≤ ends s rest = omega (arith, none, count_ends z s all, w.sum (λ d. same s d.to)) in
          rw (left_back, q) (more z h k (nexts (λ d. d.to) (λ d. d.from) entering turn_back backward m s rest f))

  -- turning on from t until it comes round to s, or else back from s
  pub on : (m n s t : ℕ) (way rest : List Edge) → Way (about v ts) s t way rest → length rest ≡ n → n ≤ m
      → left_on ts v s t n ≡ length (turn_back m s (turn_on n t rest))
  unfolding left_on total
  on m zero s t way [] w e l =
      sym
      (ap (λ (ds : List Edge). length (turn_back m s ds)) (stops (λ d. d.from) (λ d. d.to) leaving turn_on onward zero t [] refl)
      ∙ ap (length {A = Edge}) (stops (λ d. d.to) (λ d. d.from) entering turn_back backward m s [] refl))
  on m zero s t way (r ∷ rest) w e l = absurd (omega arith)
  on m (suc n) s t way rest w e l =
      go (eqb t s) refl (across v t ts) refl (λ z way' rest' w' e'. on m n s z way' rest' w' e' (omega arith))
    where
      stop_on : starts t rest ≡ 0 → turn_on (suc n) t rest ≡ rest
      stop_on h = stops (λ d. d.from) (λ d. d.to) leaving turn_on onward (suc n) t rest h

      none : (t ≡ s → ⊥) → starts t way ≡ 0
      none d = omega (arith, w.degrees t, same_no t s d, same_yes t, w.sum (λ g. same t g.to), apart.ends_once t)

      more : (z : ℕ) → 1 ≤ count t z all → starts t way ≡ 0
          → ((z : ℕ) (way' rest' : List Edge) → Way all s z way' rest' → length rest' ≡ n
          → left_on ts v s z n ≡ length (turn_back m s (turn_on n z rest')))
          → Next (λ d. d.from) (λ d. d.to) leaving turn_on onward n t rest
          → left_on ts v s z n ≡ length (turn_back m s (turn_on (suc n) t rest))
      more z h o k x =
          let d = x.edge_taken in
          let c : 1 ≤ hit t z d.from d.to =
          the_one (λ g. g.from) (λ g. g.to) leaving turn_on onward n t all way rest w.sum (apart.starts_once t) o x
          (hits t z)
          (λ g. hit_from t z g.from g.to) (omega (arith, count_total t z all)) in
          let z_is : z ≡ d.to = (hit_is t z d.from d.to c).1 in
          let w' : Way all s z (d ∷ way) x.rest =
          record {
            degrees = λ y. omega (arith, w.degrees y, ap (same y) x.at, ap (same y) z_is);
            sum = λ g. omega (arith, w.sum g, x.sum g);
            leaves = omega (arith, w.leaves);
            enters = omega (arith, ap (same z) z_is, same_yes z);
          } in
          k z (d ∷ way) x.rest w' (omega (arith, length_total rest, length_total x.rest, x.sum (λ g. 1)))
          ∙ ap (λ (y : ℕ). length (turn_back m s (turn_on n y x.rest))) z_is
          ∙ sym (ap (λ (ds : List Edge). length (turn_back m s ds)) x.turns)

      go : (b : Bool) → eqb t s ≡ b → (a : Across) → across v t ts ≡ a
          → ((z : ℕ) (way' rest' : List Edge) → Way all s z way' rest' → length rest' ≡ n
          → left_on ts v s z n ≡ length (turn_back m s (turn_on n z rest')))
          → left_on ts v s t (suc n) ≡ length (turn_back m s (turn_on (suc n) t rest))
      go true b a q k =
          let r : t ≡ s = eqb-true t s b in
          let f : starts t rest ≡ 0 =
          omega (arith, ap (λ (x : ℕ). starts x way) r, w.leaves, w.sum (λ d. same t d.from), apart.starts_once t) in
          let g : ends s rest ≡ 0 =
          omega (arith, ap (λ (x : ℕ). ends x way) r, w.enters, w.sum (λ d. same s d.to), apart.ends_once s) in
          rw (left_on, b)
          (sym
          (ap (λ (ds : List Edge). length (turn_back m s ds)) (stop_on f)
          ∙ ap (length {A = Edge}) (stops (λ d. d.to) (λ d. d.from) entering turn_back backward m s rest g) ∙ e))
      go false b Nothing q k =
          let o : starts t all ≡ 0 = all_starts t ∙ (across_nothing v t ts).0 q in
          let f : starts t rest ≡ 0 = omega (arith, w.sum (λ d. same t d.from)) in
          rw (left_on, b, q)
          (back m (suc n) s t way rest w o e l ∙ ap (λ (ds : List Edge). length (turn_back m s ds)) (sym (stop_on f)))
      go false b (Found i j z) q k =
          let h : 1 ≤ count t z all = all_has (found_in_lem ts (across_found v t ts i j z q)) in
          let z-none = none (eqb-false t s b) in
          let f : 1 ≤ starts t rest = omega (arith, count_starts t z all, w.sum (λ d. same t d.from)) in
          rw (left_on, b, q) (more z h z-none k (nexts (λ d. d.from) (λ d. d.to) leaving turn_on onward n t rest f))
