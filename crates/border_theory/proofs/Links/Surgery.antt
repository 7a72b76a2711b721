-- The operations' surgery on links, each by the one lemma `relink`. The loops here are rings of place numbers; q is a free place.
-- Assumes nothing.
use Prim.Native.Nat.{ℕ, ◌+◌, ◌≤◌, ◌<◌}
use native.Mathlib.Omega.{arith}
use mathlib.Core.Bool.{Bool, true, false}
use mathlib.Core.List.{List, [], ◌∷◌, ◌++◌}
use mathlib.Core.Path.{◌≡◌, refl, ap}
use lib.Dec.{eqb}
use borrow.Author.Tests.{eqb-true, eqb-false}
use Rattle.rules.specs.Count.{same}
use Rattle.rules.specs.Ring.{Node, opened, marked, Ring, vertex, start_or, last_open, last_vertex}
use Rattle.rules.specs.Table.{in_order}
use Rattle.book.specs.Sums.{Weight, path_sum, ring_sum, loops_sum, placed}
use Rattle.book.proofs.Sums.{start_append, sum_append}
use Rattle.book.proofs.Effects.{sum_order}
use Rattle.border_theory.specs.Links.Held.{Memory, arc, arc_hit, Holds}
use Rattle.border_theory.proofs.Links.Relink.{Long, among, Apart, stored, arc_yes, relink}
use Rattle.counting.proofs.Counts.{same_yes, same_no, same_two}

-- one free place more, or no place more
apart_more : (ls new : List Ring) (q : ℕ) → Apart ls → placed q ls ≡ 0 → ((x : ℕ) → placed x new ≤ placed x ls + same x q) → Apart new
apart_more ls new q a f h x = go (eqb x q) refl
  where
    go : (t : Bool) → eqb x q ≡ t → placed x new ≤ 1
    go true e = let z : x ≡ q = eqb-true x q e in rw z (omega (arith, h q, same_yes q))
    go false e = omega (arith, h x, same_no x q (eqb-false x q e), a x)

apart_less : (ls new : List Ring) → Apart ls → ((x : ℕ) → placed x new ≤ placed x ls) → Apart new
apart_less ls new a h x = omega (arith, h x, a x)

-- the last edge of a run of places goes elsewhere
end_changed : (w : Weight) (p : Node) (ps : List Node) (b c : ℕ)
    → path_sum w (p ∷ ps) c ≤ path_sum w (p ∷ ps) b + w (last_vertex (p ∷ ps)) c (last_open (p ∷ ps))
unfolding path_sum last_vertex last_open
end_changed w p [] b c = omega arith
end_changed w p (q ∷ ps) b c = omega (arith, end_changed w q ps b c)

pub end_there : (w : Weight) (p : Node) (ps : List Node) (c : ℕ) → w (last_vertex (p ∷ ps)) c (last_open (p ∷ ps)) ≤ path_sum w (p ∷ ps) c
unfolding path_sum last_vertex last_open
end_there w p [] c = omega arith
end_there w p (q ∷ ps) c = omega (arith, end_there w q ps c)

-- the places of a run do not depend on where it ends
pub end_free : (g : ℕ → ℕ) (ps : List Node) (b c : ℕ) → path_sum (λ p q o. g p) ps b ≡ path_sum (λ p q o. g p) ps c
unfolding path_sum
end_free g [] b c = refl
end_free g (p ∷ ps) b c = omega (arith, end_free g ps b c)

-- after the surgery no two places are one, and the memory holds the loops
pub record Done (m : Memory) (ls : List Ring) : Type 0 where
  pub apart : Apart ls
  pub holds : Holds m ls

module _ (n : ℕ) (m : Memory) (long : Long n m) (ws : List Ring) where
  pub do_new : (e q : ℕ) (ps : List Node) → Apart ((opened e ∷ ps) ∷ ws) → placed q ((opened e ∷ ps) ∷ ws) ≡ 0
      → e < n → q < n → start_or e ps < n → Holds m ((opened e ∷ ps) ∷ ws)
      → Done (stored (arc e q true ∷ (arc q (start_or e ps) true ∷ [])) m) ((opened q ∷ (ps ++ (opened e ∷ []))) ∷ ws)
  unfolding among
  do_new e q ps a z be bq bf h =
      let new = (opened q ∷ (ps ++ (opened e ∷ []))) ∷ ws in
      let old = (opened e ∷ ps) ∷ ws in
      let f = start_or e ps in
      let after : (w : Weight) → loops_sum w new ≡ w q f true + (path_sum w ps e + w e q true) + loops_sum w ws =
      λ w. unfold loops_sum ring_sum path_sum in
      omega (arith, sum_append w ps (opened e ∷ []) q, ap (λ (x : ℕ). w q x true) (start_append q ps (opened e ∷ []))) in
      let before : (w : Weight) → loops_sum w old ≡ w e f true + path_sum w ps e + loops_sum w ws =
      λ w. unfold loops_sum ring_sum path_sum in refl in
      let a' : Apart new = apart_more old new q a z (λ x. omega (arith, after (λ p r o. same x p), before (λ p r o. same x p))) in
      record {
        apart = a';
        holds =
            relink new a' n m long old h (arc e q true ∷ (arc q f true ∷ [])) (
              omega (arith, after (arc_hit e q true), arc_yes e q true),
              be,
              bq,
              (omega (arith, after (arc_hit q f true), arc_yes q f true), bq, bf, tt),
            )
            (λ x y o. omega (arith, after (arc_hit x y o), before (arc_hit x y o)));
      }

  pub do_forward : (e : ℕ) (f : Node) (ps : List Node) → Apart ((opened e ∷ (f ∷ ps)) ∷ ws) → e < n → start_or e ps < n
      → Holds m ((opened e ∷ (f ∷ ps)) ∷ ws) → Done (stored (arc e (start_or e ps) true ∷ []) m) ((opened e ∷ ps) ∷ ws)
  unfolding loops_sum ring_sum path_sum among
  do_forward e f ps a be bg h =
      let new = (opened e ∷ ps) ∷ ws in
      let old = (opened e ∷ (f ∷ ps)) ∷ ws in
      let a' : Apart new = apart_less old new a (λ x. omega arith) in
      record {
        apart = a';
        holds =
            relink new a' n m long old h (arc e (start_or e ps) true ∷ []) (omega (arith, arc_yes e (start_or e ps) true), be, bg, tt)
            (λ x y o. omega arith);
      }

  pub do_backward : (e l : ℕ) (ps : List Node) → Apart ((opened e ∷ (ps ++ (opened l ∷ []))) ∷ ws) → l < n → start_or l ps < n
      → Holds m ((opened e ∷ (ps ++ (opened l ∷ []))) ∷ ws) → Done (stored (arc l (start_or l ps) true ∷ []) m) ((opened l ∷ ps) ∷ ws)
  unfolding loops_sum ring_sum path_sum among
  do_backward e l ps a bl bf h =
      let new = (opened l ∷ ps) ∷ ws in
      let old = (opened e ∷ (ps ++ (opened l ∷ []))) ∷ ws in
      let s : (w : Weight) → path_sum w (ps ++ (opened l ∷ [])) e ≡ path_sum w ps l + (w l e true + 0) = λ w.
      sum_append w ps (opened l ∷ []) e in
      let sources : (x : ℕ) → placed x new ≤ placed x old = λ x. omega (arith, s (λ p r o. same x p)) in
      let a' : Apart new = apart_less old new a sources in
      record {
        apart = a';
        holds =
            relink new a' n m long old h (arc l (start_or l ps) true ∷ []) (omega (arith, arc_yes l (start_or l ps) true), bl, bf, tt)
            (λ x y o. omega (arith, s (arc_hit x y o)));
      }

  -- the same where the last edge is marked: at a border the current place leaves
  pub do_cut : (e l : ℕ) (ps : List Node) → Apart ((opened e ∷ (ps ++ (marked l ∷ []))) ∷ ws) → l < n → start_or l ps < n
      → Holds m ((opened e ∷ (ps ++ (marked l ∷ []))) ∷ ws) → Done (stored (arc l (start_or l ps) true ∷ []) m) ((opened l ∷ ps) ∷ ws)
  unfolding loops_sum ring_sum path_sum among
  do_cut e l ps a bl bf h =
      let new = (opened l ∷ ps) ∷ ws in
      let old = (opened e ∷ (ps ++ (marked l ∷ []))) ∷ ws in
      let s : (w : Weight) → path_sum w (ps ++ (marked l ∷ [])) e ≡ path_sum w ps l + (w l e false + 0) = λ w.
      sum_append w ps (marked l ∷ []) e in
      let sources : (x : ℕ) → placed x new ≤ placed x old = λ x. omega (arith, s (λ p r o. same x p)) in
      let a' : Apart new = apart_less old new a sources in
      record {
        apart = a';
        holds =
            relink new a' n m long old h (arc l (start_or l ps) true ∷ []) (omega (arith, arc_yes l (start_or l ps) true), bl, bf, tt)
            (λ x y o. omega (arith, s (arc_hit x y o)));
      }

  -- i places after f is the place c, l is before it, and q becomes c's second place
  pub do_split : (e q : ℕ) (f : Node) (gs : List Node) (c : Node) (cs : List Node) (t : Bool)
      → Apart ((opened e ∷ (f ∷ (gs ++ (c ∷ cs)))) ∷ ws)
      → placed q ((opened e ∷ (f ∷ (gs ++ (c ∷ cs)))) ∷ ws) ≡ 0
      → e < n → q < n → vertex f < n → vertex c < n → last_vertex (f ∷ gs) < n → Holds m ((opened e ∷ (f ∷ (gs ++ (c ∷ cs)))) ∷ ws)
      → Done (stored (arc q (vertex f) true ∷ (arc (last_vertex (f ∷ gs)) q (last_open (f ∷ gs)) ∷ (arc e (vertex c) true ∷ []))) m)
      (in_order t (opened q ∷ (f ∷ gs)) (opened e ∷ (c ∷ cs)) ws)
  unfolding among
  do_split e q f gs c cs t a z be bq bf bc bl h =
      let new = in_order t (opened q ∷ (f ∷ gs)) (opened e ∷ (c ∷ cs)) ws in
      let old = (opened e ∷ (f ∷ (gs ++ (c ∷ cs)))) ∷ ws in
      let l = last_vertex (f ∷ gs) in
      let o = last_open (f ∷ gs) in
      let after : (w : Weight)
      → loops_sum w new ≡ w q (vertex f) true + path_sum w (f ∷ gs) q + (w e (vertex c) true + path_sum w (c ∷ cs) e + loops_sum w ws) =
      λ w. unfold loops_sum ring_sum path_sum in omega (arith, sum_order w t (opened q ∷ (f ∷ gs)) (opened e ∷ (c ∷ cs)) ws) in
      let before : (w : Weight)
      → loops_sum w old ≡ w e (vertex f) true + (path_sum w (f ∷ gs) (vertex c) + path_sum w (c ∷ cs) e) + loops_sum w ws =
      λ w. unfold loops_sum ring_sum path_sum in omega (arith, sum_append w (f ∷ gs) (c ∷ cs) e) in
      let a' : Apart new =
      apart_more old new q a z
      (λ x. omega (arith, after (λ p r o. same x p), before (λ p r o. same x p), end_free (same x) (f ∷ gs) q (vertex c))) in
      record {
        apart = a';
        holds =
            relink new a' n m long old h (arc q (vertex f) true ∷ (arc l q o ∷ (arc e (vertex c) true ∷ []))) (
              omega (arith, after (arc_hit q (vertex f) true), arc_yes q (vertex f) true),
              bq,
              bf,
              (
                omega (arith, after (arc_hit l q o), arc_yes l q o, end_there (arc_hit l q o) f gs q),
                bl,
                bq,
                (omega (arith, after (arc_hit e (vertex c) true), arc_yes e (vertex c) true), be, bc, tt),
              ),
            )
            (λ x y r. omega (arith, after (arc_hit x y r), before (arc_hit x y r), end_changed (arc_hit x y r) f gs (vertex c) q));
      }

  -- the waiting loop is c ∷ cs from the place c on; l is before c, and q becomes c's second place
  pub do_union : (e q : ℕ) (ps : List Node) (c : Node) (cs : List Node)
      → Apart ((opened e ∷ ps) ∷ ((c ∷ cs) ∷ ws)) → placed q ((opened e ∷ ps) ∷ ((c ∷ cs) ∷ ws)) ≡ 0
      → e < n → q < n → start_or e ps < n → vertex c < n → last_vertex (c ∷ cs) < n → Holds m ((opened e ∷ ps) ∷ ((c ∷ cs) ∷ ws))
      → Done (stored (arc q (start_or e ps) true ∷ (arc (last_vertex (c ∷ cs)) q (last_open (c ∷ cs)) ∷ (arc e (vertex c) true ∷ []))) m)
      ((opened q ∷ (ps ++ (opened e ∷ (c ∷ cs)))) ∷ ws)
  unfolding among
  do_union e q ps c cs a z be bq bf bc bl h =
      let new = (opened q ∷ (ps ++ (opened e ∷ (c ∷ cs)))) ∷ ws in
      let old = (opened e ∷ ps) ∷ ((c ∷ cs) ∷ ws) in
      let f = start_or e ps in
      let l = last_vertex (c ∷ cs) in
      let o = last_open (c ∷ cs) in
      let after : (w : Weight)
      → loops_sum w new ≡ w q f true + (path_sum w ps e + (w e (vertex c) true + path_sum w (c ∷ cs) q)) + loops_sum w ws =
      λ w. unfold loops_sum ring_sum path_sum in
      omega (arith, sum_append w ps (opened e ∷ (c ∷ cs)) q, ap (λ (x : ℕ). w q x true) (start_append q ps (opened e ∷ (c ∷ cs)))) in
      let before : (w : Weight) → loops_sum w old ≡ w e f true + path_sum w ps e + (path_sum w (c ∷ cs) (vertex c) + loops_sum w ws) =
      λ w. unfold loops_sum ring_sum path_sum in refl in
      let a' : Apart new =
      apart_more old new q a z
      (λ x. omega (arith, after (λ p r o. same x p), before (λ p r o. same x p), end_free (same x) (c ∷ cs) q (vertex c))) in
      record {
        apart = a';
        holds =
            relink new a' n m long old h (arc q f true ∷ (arc l q o ∷ (arc e (vertex c) true ∷ []))) (
              omega (arith, after (arc_hit q f true), arc_yes q f true),
              bq,
              bf,
              (
                omega (arith, after (arc_hit l q o), arc_yes l q o, end_there (arc_hit l q o) c cs q),
                bl,
                bq,
                (omega (arith, after (arc_hit e (vertex c) true), arc_yes e (vertex c) true), be, bc, tt),
              ),
            )
            (λ x y r. omega (arith, after (arc_hit x y r), before (arc_hit x y r), end_changed (arc_hit x y r) c cs (vertex c) q));
      }

  -- the edge is marked, before the ring is turned to its next open edge
  pub do_mark : (e : ℕ) (ps : List Node) → Apart ((opened e ∷ ps) ∷ ws) → e < n → start_or e ps < n
      → Holds m ((opened e ∷ ps) ∷ ws) → Done (stored (arc e (start_or e ps) false ∷ []) m) ((ps ++ (marked e ∷ [])) ∷ ws)
  unfolding among
  do_mark e ps a be bf h =
      let new = (ps ++ (marked e ∷ [])) ∷ ws in
      let old = (opened e ∷ ps) ∷ ws in
      let f = start_or e ps in
      let after : (w : Weight) → loops_sum w new ≡ path_sum w ps e + w e f false + loops_sum w ws =
      λ w. unfold loops_sum ring_sum path_sum in
      omega (
        arith,
        sum_append w ps (marked e ∷ []) (start_or 0 (ps ++ (marked e ∷ []))),
        ap (λ (x : ℕ). w e x false) (start_append 0 ps (marked e ∷ [])),
      ) in
      let before : (w : Weight) → loops_sum w old ≡ w e f true + path_sum w ps e + loops_sum w ws =
      λ w. unfold loops_sum ring_sum path_sum in refl in
      let a' : Apart new = apart_less old new a (λ x. omega (arith, after (λ p r o. same x p), before (λ p r o. same x p))) in
      record {
        apart = a';
        holds =
            relink new a' n m long old h (arc e f false ∷ [])
            (omega (arith, after (arc_hit e f false), arc_yes e f false), be, bf, tt)
            (λ x y r. omega (arith, after (arc_hit x y r), before (arc_hit x y r)));
      }

  -- loops with no other edges: a ring that is turned, or that ends
  pub do_fewer : (old new : List Ring) → ((w : Weight) → loops_sum w new ≤ loops_sum w old) → Done m old → Done m new
  do_fewer old new c d = record {
    apart = λ x. omega (arith, c (λ p r o. same x p), d.apart x);
    holds = λ x y o k. d.holds x y o (omega (arith, c (arc_hit x y o)));
  }

  -- a triangle of three free places
  pub do_start : (a b c : ℕ) → (a ≡ b → ⊥) → (b ≡ c → ⊥) → (c ≡ a → ⊥) → a < n → b < n → c < n
      → Done (stored (arc a b true ∷ (arc b c true ∷ (arc c a true ∷ []))) m) ((opened a ∷ (opened b ∷ (opened c ∷ []))) ∷ [])
  unfolding loops_sum ring_sum path_sum among
  do_start a b c ab bc ca la lb lc =
      let new = (opened a ∷ (opened b ∷ (opened c ∷ []))) ∷ [] in
      let a' : Apart new = λ x. omega (arith, same_two x a b ab, same_two x b c bc, same_two x c a ca) in
      record {
        apart = a';
        holds =
            relink new a' n m long [] (λ x y o k. absurd (omega arith)) (arc a b true ∷ (arc b c true ∷ (arc c a true ∷ []))) (
              omega (arith, arc_yes a b true),
              la,
              lb,
              (omega (arith, arc_yes b c true), lb, lc, (omega (arith, arc_yes c a true), lc, la, tt)),
            )
            (λ x y r. omega arith);
      }
