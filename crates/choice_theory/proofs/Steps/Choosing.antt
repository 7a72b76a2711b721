-- One step of the packer: nothing is left to do, or it takes an operation that the table and the edge rule allow, after which
-- what packing keeps holds again and there is less left to do.
-- Assumes nothing.
use Prim.Native.Nat.{ℕ, zero, suc, ◌+◌, ◌-◌, ◌*◌, ◌<◌}
use native.Mathlib.Omega.{arith}
use mathlib.Core.Bool.{Bool, true, false, ◌&&◌, not}
use mathlib.Core.List.{List, [], ◌∷◌, ◌++◌}
use mathlib.Core.Path.{◌≡◌, refl, sym, ap, ◌∙◌, subst}
use mathlib.Core.Logic.{◌⊎◌, inl, inr}
use lib.ListN.{length}
use lib.Dec.{eqb}
use Rattle.rules.specs.declared.Triangle.{Triangle}
use Rattle.rules.specs.Across.{Found, Nothing}
use Rattle.rules.specs.declared.Operation.{Operation}
use Rattle.rules.specs.declared.Operation.TheVariants.{New, Forward, Backward, Border, Split, Close, Start}
use Rattle.rules.specs.Triangle.{Edge, edge, Rot, at_p, at_q, at_r, In, here}
use Rattle.rules.specs.Across.{across}
use Rattle.rules.specs.Ring.{Node, opened, marked, Ring, vertex, is_open, first_open, all_open, last_open, reached}
use Rattle.rules.specs.Table.{marks, at_edge}
use Rattle.rules.specs.Choice.{Packing, has, drop_triangle, turn_in, turn_out, Spot, nowhere, spot, spot_of, operation_for, size_of}
use Rattle.rules.specs.Choice.{following}
use Rattle.rules.specs.Choice.{choose_place, packing_after, limited, taking, choose_at, choose_in, choose, after_current}
use Rattle.rules.specs.Pack.{index_of}
use Rattle.mesh_theory.specs.Fans.Corner.{Once}
use Rattle.rules.specs.Fan.{Neighbours}
use Rattle.book.specs.Shown.{shown_all}
use Rattle.book.proofs.Shown.{Live, reached_first}
use Rattle.book.proofs.Parts.{marking_of}
use Rattle.choice_theory.specs.Spots.{Unused}
use Rattle.choice_theory.specs.Full.{with_ring, new_numbers}
use Rattle.choice_theory.specs.Building.{next_built}
use Rattle.choice_theory.proofs.Steps.Surgery.{triangle_at, after_border}
use Rattle.choice_theory.proofs.Steps.Tally.{open_edges, all_open_edges}
use Rattle.mesh_theory.proofs.Fans.Corners.{in_next}
use Rattle.choice_theory.proofs.Turning.Ways.{others, others_length, Finds, across_some, across_none}
use Rattle.choice_theory.proofs.Steps.Effects.{built, allows, border_marks}
use Rattle.choice_theory.proofs.Places.Standing.{legal_used}
use Rattle.choice_theory.proofs.Steps.Triangle.{Keeps, Packed}
use Rattle.choice_theory.proofs.Steps.Bordering.{with_rim, rim_of, border_free}
use Rattle.choice_theory.proofs.Steps.Starting.{all_built}
use Rattle.choice_theory.proofs.Turning.Taking.{corners}
use Rattle.choice_theory.proofs.Steps.Progress.{AllGood, good_live, Goes, by_start, by_build, by_border, progress}
use Rattle.choice_theory.proofs.Runs.Machine.{r_start, r_build, r_border}
use Rattle.choice_theory.proofs.Runs.Tracking.{first_ring, numbered_after, same_numbers, numbering, Agrees, numbering_grows, RunsAt}
use Rattle.choice_theory.proofs.Runs.Tracking.{Runs}
use Rattle.choice_theory.proofs.Steps.Falling.{build_opens, border_opens}
use Rattle.choice_theory.proofs.Places.Numbering.{Met, Numbered, not_met, numbered_old, numbered_new, numbered_start, index_new}
use Rattle.choice_theory.proofs.Places.Numbering.{index_start}
use Rattle.choice_theory.proofs.Places.Distinct.{Distinct, distinct_new, distinct_start}
use Rattle.choice_theory.proofs.Turning.Dropping.{drop_others}

-- a packing under way, with the triangles built so far and the rims that have ended
pub record Fits (s : Packing) (B : List Triangle) (rims : List Ring) : Type 0 where
  -- the full rings, of which the packing has those shown
  pub full : List Ring
  pub shows : s.loops ≡ shown_all full
  pub keeps : Keeps s.mesh s.left B full rims
  pub good : AllGood full
  pub numbers : Numbered s.numbered B
  pub distinct : Distinct s.numbered

-- triangles put before others, one after the other, so that the latest is first
abbrev pub onto : List Triangle → List Triangle → List Triangle
onto [] B = B
onto (t ∷ R) B = onto R (t ∷ B)

-- what is left to do
abbrev pub labour : Packing → ℕ
labour s = 4 * length s.left + all_open_edges s.loops

-- what the packer's three branches come to
pub choose_border : (s : Packing) (e f : Node) (ps : List Node) (ws ls : List Ring) (d : Edge) (n : ℕ) → s.loops ≡ (e ∷ (f ∷ ps)) ∷ ws
    → across (vertex f) (vertex e) s.mesh ≡ Nothing → at_edge Border 0 (vertex e) (f ∷ ps) ws ≡ marks (marking_of ls d n)
    → choose s ≡ limited Border (packing_after s s.left s.numbered ls)
unfolding choose_in choose_at taking
choose_border s e f ps ws ls d n l h k = rw (l, choose_in, choose_at, h, k) refl

pub choose_new : (s : Packing) (e f : Node) (ps : List Node) (ws ls : List Ring) (ts : List Triangle) (c n k : ℕ)
    → s.loops ≡ (e ∷ (f ∷ ps)) ∷ ws
    → across (vertex f) (vertex e) s.mesh ≡ Found n k c → drop_triangle (vertex f) (vertex e) s.left ≡ ts → has c s.numbered ≡ false
    → at_edge New c (vertex e) (f ∷ ps) ws ≡ built New e f ls c
    → choose s ≡ limited New (packing_after s ts (s.numbered ++ (c ∷ [])) ls)
unfolding choose_in choose_at taking
choose_new s e f ps ws ls ts c n k l h d u b = rw (l, choose_in, choose_at, h, u, d, b) refl

pub choose_old : (s : Packing) (e f : Node) (ps : List Node) (ws ls : List Ring) (ts : List Triangle) (o : Operation) (c n k : ℕ)
    → s.loops ≡ (e ∷ (f ∷ ps)) ∷ ws
    → across (vertex f) (vertex e) s.mesh ≡ Found n k c → drop_triangle (vertex f) (vertex e) s.left ≡ ts → has c s.numbered ≡ true
    → choose_place (vertex e) (vertex f) c ts ((e ∷ (f ∷ ps)) ∷ ws) ≡ o → at_edge o c (vertex e) (f ∷ ps) ws ≡ built o e f ls c
    → choose s ≡ limited o (packing_after s ts s.numbered ls)
unfolding choose_in choose_at taking
choose_old s e f ps ws ls ts o c n k l h d u q b = rw (l, choose_in, choose_at, h, u, d, l, q, b) refl

pub choose_start : (s : Packing) (t : Triangle) (ts : List Triangle) → s.loops ≡ [] → s.left ≡ t ∷ ts
    → choose s
    ≡ limited Start (packing_after s ts (s.numbered ++ (t.p ∷ (t.q ∷ (t.r ∷ []))))
    ((opened t.p ∷ (opened t.q ∷ (opened t.r ∷ []))) ∷ []))
unfolding choose_in
choose_start s t ts l h = rw (l, h, choose_in) refl

-- and the triangle that each builds
next_start : (s : Packing) (t : Triangle) (ts : List Triangle) → s.loops ≡ [] → s.left ≡ t ∷ ts
    → next_built s.mesh s.loops s.left ≡ t ∷ []
unfolding next_built
next_start s t ts l h = rw (l, h, next_built) refl

next_border : (s : Packing) (e f : Node) (ps : List Node) (ws : List Ring) → s.loops ≡ (e ∷ (f ∷ ps)) ∷ ws
    → across (vertex f) (vertex e) s.mesh ≡ Nothing
    → next_built s.mesh s.loops s.left ≡ []
unfolding next_built
next_border s e f ps ws l h = rw (l, next_built, h) refl

next_build : (s : Packing) (e f : Node) (ps : List Node) (ws : List Ring) (c n k : ℕ) → s.loops ≡ (e ∷ (f ∷ ps)) ∷ ws
    → across (vertex f) (vertex e) s.mesh ≡ Found n k c → next_built s.mesh s.loops s.left ≡ triangle_at e f c ∷ []
unfolding next_built
next_build s e f ps ws c n k l h = rw (l, next_built, h) refl

-- the place that is chosen never gives the operation new
no_new_for : (ps : List Node) (l i : ℕ) → new_numbers (operation_for ps l i) ≡ 0
no_new_for ps zero i = go (eqb (suc (length ps)) 3 && all_open ps) (eqb i 2 && first_open ps)
    (eqb (i + 1) (suc (length ps)) && last_open ps)
  where
    go : (u v w : Bool) → new_numbers
        (elim u [ true ↦ Close | false ↦ elim v [ true ↦ Forward | false ↦ elim w [ true ↦ Backward | false ↦ Split (i - 1) ] ] ]) ≡ 0
    go true v w = refl
    go false true w = refl
    go false false true = refl
    go false false false = refl
no_new_for ps (suc l) i = refl

pub no_new : (a b c : ℕ) (ts : List Triangle) (ls : List Ring) → new_numbers (choose_place a b c ts ls) ≡ 0
unfolding choose_place
no_new a b c ts ls = go (spot_of 0 (turn_in (length ts) c b ts) c ls) (spot_of 0 c (turn_out (length ts) c a ts) ls)
  where
    go : (m n : Spot) → new_numbers (elim m [
      | spot l i ↦ operation_for (after_current ls) l (following (size_of ls l) i)
      | nowhere ↦ elim n [ spot l i ↦ operation_for (after_current ls) l i | nowhere ↦ Border ]
    ]) ≡ 0
    go (spot l i) n = no_new_for (after_current ls) l (following (size_of ls l) i)
    go nowhere (spot l i) = no_new_for (after_current ls) l i
    go nowhere nowhere = refl

-- the packer goes on: with the operation o, which is one of a run of the machine
pub record GoesOn (s : Packing) (full : List Ring) (B : List Triangle) (rims : List Ring) : Type 0 where
  pub o : Operation
  pub after : Packing
  pub built_after_lem : List Triangle
  pub rims_after : List Ring
  pub chooses : choose s ≡ limited o after
  pub mesh : after.mesh ≡ s.mesh
  pub fits : Fits after built_after_lem rims_after
  pub adds : built_after_lem ≡ onto (next_built s.mesh s.loops s.left) B
  pub falls : labour after < labour s
  pub runs : (last : Packing) (M : List Triangle) (os : List Operation) → Runs after fits.full last M built_after_lem rims_after os
      → Runs s full last M B rims (o ∷ os)

runs_at : (s last : Packing) (M B : List Triangle) (rims : List Ring) (os : List Operation) (full ls : List Ring) (n : ℕ) → full ≡ ls
    → length s.left ≡ n
    → RunsAt last M B rims os ls n s.most_places s.most_loops s.numbered → Runs s full last M B rims os
runs_at s last M B rims os full ls n e c r =
    subst (λ (l : List Ring). RunsAt last M B rims os l (length s.left) s.most_places s.most_loops s.numbered) (sym e)
    (subst (λ (k : ℕ). RunsAt last M B rims os ls k s.most_places s.most_loops s.numbered) (sym c) r)

-- as many edges are open in the rings shown
open_reached : (ps : List Node) (m : Bool) → open_edges (reached ps m) ≡ open_edges ps
unfolding reached
open_reached [] m = refl
open_reached (opened v ∷ ps) m = ap (λ (n : ℕ). 1 + n) (open_reached ps false)
open_reached (marked v ∷ ps) true = let h = open_reached ps true in omega arith
open_reached (marked v ∷ ps) false = let h = open_reached ps true in omega arith

pub all_open_shown : (ls : List Ring) → all_open_edges (shown_all ls) ≡ all_open_edges ls
all_open_shown [] = refl
all_open_shown ([] ∷ ls) = ap (λ (n : ℕ). 0 + n) (all_open_shown ls)
all_open_shown ((p ∷ ps) ∷ ls) = let h = all_open_shown ls in let k = open_reached ps false in omega arith

module _ (s : Packing) (B : List Triangle) (rims : List Ring) (fit : Fits s B rims) (fan : (c : ℕ) → Neighbours s.mesh c) where
  goes_start : (t : Triangle) (R : List Triangle) → s.left ≡ t ∷ R → fit.full ≡ []
      → Keeps s.mesh R (t ∷ B) ((opened t.p ∷ (opened t.q ∷ (opened t.r ∷ []))) ∷ []) rims
      → AllGood ((opened t.p ∷ (opened t.q ∷ (opened t.r ∷ []))) ∷ []) → GoesOn s fit.full B rims
  unfolding reached
  goes_start t R h l k g = record {
    o = Start;
    after = packing_after s R (s.numbered ++ (t.p ∷ (t.q ∷ (t.r ∷ [])))) ((opened t.p ∷ (opened t.q ∷ (opened t.r ∷ []))) ∷ []);
    built_after_lem = t ∷ B;
    rims_after = rims;
    chooses = choose_start s t R (fit.shows ∙ ap shown_all l) h;
    mesh = refl;
    fits = record {
      full = first_ring t.p t.q t.r;
      shows = refl;
      keeps = k;
      good = g;
      numbers =
          numbered_start s.numbered B t fit.numbers;
      distinct =
          distinct_start s.numbered t.p t.q t.r fit.distinct
          (not_yet t.p (none t.p t.q t.r (at_p refl refl refl)))
          (not_yet t.q (none t.q t.r t.p (at_q refl refl refl)))
          (not_yet t.r (none t.r t.p t.q (at_r refl refl refl))) here_once.1;
    };
    adds = sym (ap (λ (ts : List Triangle). onto ts B) (next_start s t R (fit.shows ∙ ap shown_all l) h));
    falls = let n : length s.left ≡ suc (length R) = ap length h in omega arith;
    runs = goes;
  }
    where
      before : Keeps s.mesh (t ∷ R) B [] rims
      before = subst (λ (ls : List Ring). Keeps s.mesh (t ∷ R) B ls rims) l
          (subst (λ (ts : List Triangle). Keeps s.mesh ts B fit.full rims) h fit.keeps)

      here_once : Once (t ∷ R)
      here_once = before.once

      none : (x y z : ℕ) → Rot t x y z → (m n : ℕ) → In x m n B → ⊥
      none x y z r m n j = all_built s.mesh (t ∷ R) B rims before fan x y z m n (here r) j

      not_yet : (x : ℕ) → ((m n : ℕ) → In x m n B → ⊥) → has x s.numbered ≡ false
      not_yet x h = not_met s.numbered B fit.numbers x h

      goes : (last : Packing) (M : List Triangle) (os : List Operation)
          → Runs (packing_after s R (s.numbered ++ (t.p ∷ (t.q ∷ (t.r ∷ [])))) (first_ring t.p t.q t.r))
          (first_ring t.p t.q t.r) last M (t ∷ B) rims os
          → Runs s fit.full last M B rims (Start ∷ os)
      goes last M os r =
          runs_at s last M B rims (Start ∷ os) fit.full [] (suc (length R)) l (ap length h)
          (record {
            order = t ∷ r.order;
            count = ap suc r.count;
            run =
                r_start (none t.p t.q t.r (at_p refl refl refl)) (none t.q t.r t.p (at_q refl refl refl))
                (none t.r t.p t.q (at_r refl refl refl))
                here_once.1 r.run;
            most_places_lem = r.most_places_lem;
            most_loops_lem = r.most_loops_lem;
            numbers = r.numbers;
            agrees = (
              index_start t.p t.q t.r s.numbered last.numbered (grown r).0 (r.numbers ∙ (grown r).1)
                  (not_yet t.p (none t.p t.q t.r (at_p refl refl refl)))
                  (not_yet t.q (none t.q t.r t.p (at_q refl refl refl)))
                  (not_yet t.r (none t.r t.p t.q (at_r refl refl refl))) here_once.1,
              r.agrees,
            );
          })
        where
          grown : (w : Runs (packing_after s R (s.numbered ++ (t.p ∷ (t.q ∷ (t.r ∷ [])))) (first_ring t.p t.q t.r))
              (first_ring t.p t.q t.r) last M (t ∷ B) rims os)
              → (ws : List ℕ) × (numbering (s.numbered ++ (t.p ∷ (t.q ∷ (t.r ∷ [])))) w.run
              ≡ (s.numbered ++ (t.p ∷ (t.q ∷ (t.r ∷ [])))) ++ ws)
          grown w = numbering_grows w.run (s.numbered ++ (t.p ∷ (t.q ∷ (t.r ∷ []))))

  opens_now : (ls : List Ring) → fit.full ≡ ls → all_open_edges s.loops ≡ all_open_edges ls
  opens_now ls l = ap all_open_edges fit.shows ∙ (all_open_shown fit.full ∙ ap all_open_edges l)

  -- the packing's loops
  looks : (e f : Node) (ps : List Node) (ws : List Ring) → fit.full ≡ (e ∷ (f ∷ ps)) ∷ ws
      → s.loops ≡ (e ∷ (f ∷ reached ps (not (is_open f)))) ∷ shown_all ws
  looks e f ps ws l = fit.shows ∙ (ap shown_all l ∙ ap (λ (r : List Node). (e ∷ r) ∷ shown_all ws) (reached_first f ps))

  goes_border : (e f : Node) (ps : List Node) (ws : List Ring) → fit.full ≡ (e ∷ (f ∷ ps)) ∷ ws → Unused (vertex f) (vertex e) s.left
      → Keeps s.mesh s.left B (with_ring (after_border e f ps) ws) (with_rim (after_border e f ps) (rim_of e f ps) rims)
      → AllGood (with_ring (after_border e f ps) ws) → GoesOn s fit.full B rims
  goes_border e f ps ws l u k g = record {
    o = Border;
    after = packing_after s s.left s.numbered (shown_all (with_ring (after_border e f ps) ws));
    built_after_lem = B;
    rims_after = with_rim (after_border e f ps) (rim_of e f ps) rims;
    chooses =
        choose_border s e f (reached ps (not (is_open f))) (shown_all ws) (shown_all (with_ring (after_border e f ps) ws))
        (edge (vertex e) (vertex f)) mark.0 (looks e f ps ws l) (across_none (vertex f) (vertex e) s.mesh free) mark.1;
    mesh = refl;
    fits = record {
      full = with_ring (after_border e f ps) ws;
      shows = refl;
      keeps = k;
      good = g;
      numbers = fit.numbers;
      distinct =
          fit.distinct;
    };
    adds = sym (ap (λ (ts : List Triangle). onto ts B)
        (next_border s e f (reached ps (not (is_open f))) (shown_all ws) (looks e f ps ws l)
        (across_none (vertex f) (vertex e) s.mesh free)));
    falls = let h = border_opens e f ps ws live in let n = opens_now ((e ∷ (f ∷ ps)) ∷ ws) l in let m =
        all_open_shown (with_ring (after_border e f ps) ws) in omega arith;
    runs = goes;
  }
    where
      before : Keeps s.mesh s.left B ((e ∷ (f ∷ ps)) ∷ ws) rims
      before = subst (λ (ls : List Ring). Keeps s.mesh s.left B ls rims) l fit.keeps

      live : is_open e ≡ true
      live = (subst AllGood l fit.good).0.0

      free : Unused (vertex f) (vertex e) s.mesh
      free = border_free s.mesh s.left B e f ps ws rims before u

      mark : (n : ℕ) × (at_edge Border 0 (vertex e) (f ∷ reached ps (not (is_open f))) (shown_all ws)
          ≡ marks (marking_of (shown_all (with_ring (after_border e f ps) ws)) (edge (vertex e) (vertex f)) n))
      mark = let r = border_marks 0 e f ps ws in
          (r.0, ap (λ (k : List Node). at_edge Border 0 (vertex e) k (shown_all ws)) (sym (reached_first f ps)) ∙ r.1)

      goes : (last : Packing) (M : List Triangle) (os : List Operation)
          → Runs (packing_after s s.left s.numbered (shown_all (with_ring (after_border e f ps) ws))) (with_ring (after_border e f ps) ws)
          last M B (with_rim (after_border e f ps) (rim_of e f ps) rims) os
          → Runs s fit.full last M B rims (Border ∷ os)
      goes last M os r =
          runs_at s last M B rims (Border ∷ os) fit.full ((e ∷ (f ∷ ps)) ∷ ws) (length s.left) l refl
          (record {
            order = r.order;
            count = r.count;
            run = r_border live r.run;
            most_places_lem = r.most_places_lem;
            most_loops_lem =
                r.most_loops_lem;
            numbers = r.numbers;
            agrees = r.agrees;
          })

  goes_build : (e f : Node) (ps : List Node) (ws : List Ring) (c : ℕ) (i : In (vertex f) (vertex e) c s.left)
      → fit.full ≡ (e ∷ (f ∷ ps)) ∷ ws
      → (p : Packed s.mesh (others i) B e f ps ws rims c)
      → (((m n : ℕ) → In c m n B → ⊥) × (p.o ≡ New))
      ⊎ (((m : ℕ) × (n : ℕ) × In c m n B) × (choose_place (vertex e) (vertex f) c (others i) (shown_all ((e ∷ (f ∷ ps)) ∷ ws)) ≡ p.o))
      → AllGood p.ls → GoesOn s fit.full B rims
  goes_build e f ps ws c i l p w g = by w
    where
      before : Keeps s.mesh s.left B ((e ∷ (f ∷ ps)) ∷ ws) rims
      before = subst (λ (ls : List Ring). Keeps s.mesh s.left B ls rims) l fit.keeps

      live : Live ((e ∷ (f ∷ ps)) ∷ ws)
      live = good_live ((e ∷ (f ∷ ps)) ∷ ws) (subst AllGood l fit.good)

      -- the same place of the packing's loops
      first : shown_all ((e ∷ (f ∷ ps)) ∷ ws) ≡ (e ∷ (f ∷ reached ps (not (is_open f)))) ∷ shown_all ws
      first = ap (λ (r : List Node). (e ∷ r) ∷ shown_all ws) (reached_first f ps)

      found : Finds (vertex f) (vertex e) c s.mesh
      found = across_some (vertex f) (vertex e) c s.mesh fit.keeps.once_m (fit.keeps.sub_r _ _ _ i)

      dropped : drop_triangle (vertex f) (vertex e) s.left ≡ others i
      dropped = drop_others (vertex f) (vertex e) c s.left i fit.keeps.once

      does : at_edge p.o c (vertex e) (f ∷ reached ps (not (is_open f))) (shown_all ws) ≡ built p.o e f (shown_all p.ls) c
      does = ap (λ (k : List Node). at_edge p.o c (vertex e) k (shown_all ws)) (sym (reached_first f ps))
          ∙ allows p.o e f ps ws p.ls c live.1 p.does

      edge_used : (z : ℕ) × In (vertex e) (vertex f) z B
      edge_used = (legal_used B ((e ∷ (f ∷ ps)) ∷ ws) rims before.legal).0.0.1

      met_e : Met (vertex e) B
      met_e = (vertex f, edge_used.0, edge_used.1)

      met_f : Met (vertex f) B
      met_f = (edge_used.0, vertex e, in_next edge_used.1)

      less : 4 * length (others i) + all_open_edges (shown_all p.ls) < labour s
      less =
          let h = build_opens e f ps ws p.ls c p.o p.does in
          let n = others_length i in
          let m = opens_now ((e ∷ (f ∷ ps)) ∷ ws) l in
          let w = all_open_shown p.ls in
          omega arith

      more : triangle_at e f c ∷ B ≡ onto (next_built s.mesh s.loops s.left) B
      more = sym (ap (λ (ts : List Triangle). onto ts B)
          (next_build s e f (reached ps (not (is_open f))) (shown_all ws) c found.number found.corner (looks e f ps ws l)
          found.found))

      apart : ((vertex e ≡ vertex f) → ⊥) × ((vertex f ≡ c) → ⊥) × ((c ≡ vertex e) → ⊥)
      apart = let d = corners s.left i fit.keeps.once in (λ h. d.0 (sym h), λ h. d.2 (sym h), λ h. d.1 (sym h))

      goes : (p.o ≡ New → (m n : ℕ) → In c m n B → ⊥) → (vs : List ℕ) → vs ≡ numbered_after p.o c s.numbered
          → (last : Packing) (M : List Triangle) (os : List Operation)
          → Runs (packing_after s (others i) vs (shown_all p.ls)) p.ls last M (triangle_at e f c ∷ B) rims os
          → Runs s fit.full last M B rims (p.o ∷ os)
      goes n vs q last M os r =
          runs_at s last M B rims (p.o ∷ os) fit.full ((e ∷ (f ∷ ps)) ∷ ws) (suc (length (others i))) l (others_length i)
          (record {
            order = triangle_at e f c ∷ r.order;
            count = ap suc r.count;
            run = r_build live p.does p.rule_a p.rule_b apart n r.run;
            most_places_lem = r.most_places_lem;
            most_loops_lem = r.most_loops_lem;
            numbers = r.numbers ∙ ap (λ (ns : List ℕ). numbering ns r.run) q;
            agrees = (next, subst (λ (ns : List ℕ). Agrees (λ (v : ℕ). index_of v last.numbered) ns r.run) q r.agrees);
          })
        where
          next : p.o ≡ New → index_of c last.numbered ≡ length s.numbered
          next h =
              let v : vs ≡ s.numbered ++ (c ∷ []) = q ∙ ap (λ (k : Operation). numbered_after k c s.numbered) h in
              let g = numbering_grows r.run vs in
              index_new c s.numbered last.numbered g.0 (r.numbers ∙ (g.1 ∙ ap (λ (l : List ℕ). l ++ g.0) v))
              (not_met s.numbered B fit.numbers c (n h))

      by : (((m n : ℕ) → In c m n B → ⊥) × (p.o ≡ New))
          ⊎ (((m : ℕ) × (n : ℕ) × In c m n B) × (choose_place (vertex e) (vertex f) c (others i) (shown_all ((e ∷ (f ∷ ps)) ∷ ws)) ≡ p.o))
          → GoesOn s fit.full B rims
      by (inl h) = record {
        o = p.o;
        after = packing_after s (others i) (s.numbered ++ (c ∷ [])) (shown_all p.ls);
        built_after_lem = triangle_at e f c ∷ B;
        rims_after = rims;
        chooses =
            choose_new s e f (reached ps (not (is_open f))) (shown_all ws) (shown_all p.ls) (others i) c found.number found.corner
            (looks e f ps ws l) found.found dropped (not_met s.numbered B fit.numbers c h.0)
            (subst (λ (k : Operation).
            at_edge k c (vertex e) (f ∷ reached ps (not (is_open f))) (shown_all ws) ≡ built k e f (shown_all p.ls) c) h.1 does)
            ∙ ap (λ (k : Operation). limited k (packing_after s (others i) (s.numbered ++ (c ∷ [])) (shown_all p.ls))) (sym h.1);
        mesh = refl;
        fits = record {
          full = p.ls;
          shows = refl;
          keeps = p.keeps;
          good = g;
          numbers =
              numbered_new s.numbered B (triangle_at e f c) fit.numbers met_f met_e;
          distinct =
              distinct_new s.numbered c fit.distinct (not_met s.numbered B fit.numbers c h.0);
        };
        adds = more;
        falls = less;
        runs = goes (λ q. h.0) (s.numbered ++ (c ∷ [])) (sym (ap (λ (k : Operation). numbered_after k c s.numbered) h.1));
      }
      by (inr h) = record {
        o = p.o;
        after = packing_after s (others i) s.numbered (shown_all p.ls);
        built_after_lem = triangle_at e f c ∷ B;
        rims_after = rims;
        chooses =
            choose_old s e f (reached ps (not (is_open f))) (shown_all ws) (shown_all p.ls) (others i) p.o c found.number
            found.corner (looks e f ps ws l) found.found dropped (fit.numbers.numbered c h.0)
            (ap (choose_place (vertex e) (vertex f) c (others i)) (sym first) ∙ h.1) does;
        mesh = refl;
        fits = record {
          full = p.ls;
          shows = refl;
          keeps = p.keeps;
          good = g;
          numbers =
              numbered_old s.numbered B (triangle_at e f c) fit.numbers met_f met_e h.0;
          distinct = fit.distinct;
        };
        adds = more;
        falls = less;
        runs = goes old s.numbered (sym (same_numbers p.o c s.numbered never));
      }
        where
          never : new_numbers p.o ≡ 0
          never = ap new_numbers (sym h.1) ∙ no_new (vertex e) (vertex f) c (others i) (shown_all ((e ∷ (f ∷ ps)) ∷ ws))

          old : p.o ≡ New → (m n : ℕ) → In c m n B → ⊥
          old q = let z = never in let y : new_numbers p.o ≡ 1 = ap new_numbers q in absurd (omega arith)

  -- the packer is done, or it goes on
  pub choose_step : ((s.loops ≡ []) × (s.left ≡ []) × (fit.full ≡ [])) ⊎ GoesOn s fit.full B rims
  choose_step = go (progress s.mesh s.left B fit.full rims fit.keeps fit.good fan)
    where
      go : ((fit.full ≡ []) × (s.left ≡ [])) ⊎ Goes s.mesh s.left B fit.full rims
          → ((s.loops ≡ []) × (s.left ≡ []) × (fit.full ≡ [])) ⊎ GoesOn s fit.full B rims
      go (inl h) = inl (fit.shows ∙ ap shown_all h.0, h.1, h.0)
      go (inr (by_start t R h l k g)) = inr (goes_start t R h l k g)
      go (inr (by_build e f ps ws c i l p w g)) = inr (goes_build e f ps ws c i l p w g)
      go (inr (by_border e f ps ws l u k g)) = inr (goes_border e f ps ws l u k g)
