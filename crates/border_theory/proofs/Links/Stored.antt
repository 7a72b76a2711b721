-- After the stores of an operation the memory holds the rings of places of the table.
-- Assumes nothing.
use Prim.Native.Nat.{ℕ, zero, suc, ◌+◌, ◌-◌, ◌≤◌, ◌<◌}
use native.Mathlib.Omega.{arith}
use mathlib.Core.Bool.{true, false}
use mathlib.Core.List.{List, [], ◌∷◌, ◌++◌}
use mathlib.Core.Path.{◌≡◌, refl, sym, ap, ◌∙◌, subst}
use lib.ListN.{length, take, drop, take-append-drop}
use Rattle.rules.specs.declared.Operation.{Operation}
use Rattle.rules.specs.declared.Operation.TheVariants.{New, Forward, Backward, Border, Split, Close, Union, Start}
use Rattle.rules.specs.Count.{same}
use Rattle.rules.specs.Ring.{Node, opened, marked, Ring, vertex, is_open, start_or, vertex_at, last_open, last_vertex, front, onward}
use Rattle.rules.specs.Ring.{loop_at}
use Rattle.rules.specs.Ring.{without}
use Rattle.book.specs.Sums.{Weight, path_sum, ring_sum, loops_sum, placed}
use Rattle.book.proofs.Sums.{start_append, sum_append, sum_turn, front_last, start_drop, sum_without, turned}
use Rattle.book.proofs.Effects.{at_path}
use Rattle.border_theory.specs.Links.Held.{Memory, arc, Holds}
use Rattle.rules.specs.Places.{alive}
use Rattle.border_theory.proofs.Links.Stores.{places_after, stores, Takes, Fits}
use Rattle.border_theory.proofs.Links.Relink.{Long, Apart, stored, long_stored}
use Rattle.border_theory.proofs.Links.Surgery.{end_there, Done, do_new, do_forward, do_backward, do_split, do_union, do_mark}
use Rattle.border_theory.proofs.Links.Surgery.{do_fewer}
use Rattle.counting.proofs.Counts.{same_yes}

-- the ring from its place i on, which has a place
record Shape (i : ℕ) (ps : List Node) : Type 0 where
  c : Node
  cs : List Node
  rest : drop i ps ≡ c ∷ cs
  third : vertex_at ps i ≡ vertex c

shape : (i : ℕ) (ps : List Node) → i < length ps → Shape i ps
unfolding vertex_at
shape i [] h = absurd (omega arith)
shape zero (p ∷ ps) h = record { c = p; cs = ps; rest = refl; third = refl }
shape (suc i) (p ∷ ps) h = let r = shape i ps (omega arith) in record { c = r.c; cs = r.cs; rest = r.rest; third = r.third }

pub alive_sum : (w : Weight) (r : Ring) (ws : List Ring) → loops_sum w (alive r ws) ≤ ring_sum w r + loops_sum w ws
unfolding loops_sum
alive_sum w [] ws = omega arith
alive_sum w (p ∷ ps) ws = omega arith

waiting_first : (v : Weight) (l r : Ring) (ws : List Ring) (k : ℕ) → k < length ws → ring_sum v r ≡ ring_sum v (loop_at ws k)
    → loops_sum v (l ∷ (r ∷ without ws k)) ≡ loops_sum v (l ∷ ws)
unfolding loops_sum
waiting_first v l r ws k h e = omega (arith, sum_without v ws k h)

first_le : (v : Weight) (p : Node) (ps : List Node) (b : ℕ) → v (vertex p) (start_or b ps) (is_open p) ≤ path_sum v (p ∷ ps) b
unfolding path_sum
first_le v p ps b = omega arith

second_le : (v : Weight) (l r : Ring) (ws : List Ring) → ring_sum v r ≤ loops_sum v (l ∷ (r ∷ ws))
unfolding loops_sum
second_le v l r ws = omega arith

module _ (n : ℕ) (m : Memory) (long : Long n m) (e : ℕ) (ps : List Node) (ws : List Ring) (a : Apart ((opened e ∷ ps) ∷ ws))
    (below : (x : ℕ) → 1 ≤ placed x ((opened e ∷ ps) ∷ ws) → x < n) (h : Holds m ((opened e ∷ ps) ∷ ws)) where
  be : e < n
  unfolding loops_sum ring_sum path_sum
  be = below e (omega (arith, same_yes e))

  in_ring : (x : ℕ) → 1 ≤ path_sum (λ p r o. same x p) ps e → x < n
  unfolding loops_sum ring_sum path_sum
  in_ring x k = below x (omega arith)

  bi : (i : ℕ) → i < length ps → vertex_at ps i < n
  bi i k = in_ring (vertex_at ps i) (omega (arith, at_path (same (vertex_at ps i)) ps i e k, same_yes (vertex_at ps i)))

  bf : start_or e ps < n
  bf = go ps in_ring
    where
      go : (qs : List Node) → ((x : ℕ) → 1 ≤ path_sum (λ p r o. same x p) qs e → x < n) → start_or e qs < n
      go [] k = be
      go (p ∷ qs) k = k (vertex p) (omega (arith, same_yes (vertex p), first_le (λ x r o. same (vertex p) x) p qs e))

  held_forward : (q : ℕ) → 2 ≤ length ps → Done (stored (stores Forward q e ps ws) m) (places_after Forward q e ps ws)
  unfolding stores places_after
  held_forward q k =
      let r = shape 0 ps (omega (arith, k)) in
      let e₁ : start_or e (drop 1 ps) ≡ vertex_at ps 1 = start_drop e ps 1 (omega (arith, k)) in
      let e₂ : drop 1 ps ≡ r.cs = ap (drop 1) r.rest in
      subst (λ (x : ℕ). Done (stored (arc e x true ∷ []) m) ((opened e ∷ drop 1 ps) ∷ ws)) e₁
      (subst (λ (x : List Node). Done (stored (arc e (start_or e x) true ∷ []) m) ((opened e ∷ x) ∷ ws)) (sym e₂)
      (do_forward n m long ws e r.c r.cs (subst (λ (x : List Node). Apart ((opened e ∷ x) ∷ ws)) r.rest a) be
      (subst (λ (x : ℕ). x < n) (sym (ap (start_or e) (sym e₂) ∙ e₁)) (bi 1 (omega (arith, k))))
      (subst (λ (x : List Node). Holds m ((opened e ∷ x) ∷ ws)) r.rest h)))

  held_backward : (q : ℕ) → last_open ps ≡ true → Done (stored (stores Backward q e ps ws) m) (places_after Backward q e ps ws)
  unfolding stores places_after
  held_backward q o =
      let l : ℕ = last_vertex ps in
      let eq = front_last ps o in
      let start : start_or l (front ps) ≡ start_or e ps = sym (start_append e (front ps) (opened l ∷ [])) ∙ ap (start_or e) eq in
      let bl : l < n =
      in_ring l
      (omega (
        arith,
        same_yes l,
        first_le (λ p t o. same l p) (opened l) [] e,
        sum_append (λ p t o. same l p) (front ps) (opened l ∷ []) e,
        ap (λ (x : List Node). path_sum (λ p t o. same l p) x e) eq,
      )) in
      subst (λ (x : ℕ). Done (stored (arc l x true ∷ []) m) ((opened l ∷ front ps) ∷ ws)) start
      (do_backward n m long ws e l (front ps) (subst (λ (x : List Node). Apart ((opened e ∷ x) ∷ ws)) (sym eq) a) bl
      (subst (λ (x : ℕ). x < n) (sym start) bf) (subst (λ (x : List Node). Holds m ((opened e ∷ x) ∷ ws)) (sym eq) h))

  held_border : (q : ℕ) → Done (stored (stores Border q e ps ws) m) (places_after Border q e ps ws)
  unfolding stores places_after loops_sum
  held_border q =
      do_fewer n (stored (arc e (start_or e ps) false ∷ []) m) (long_stored n (arc e (start_or e ps) false ∷ []) m long) ws
      ((ps ++ (marked e ∷ [])) ∷ ws)
      (alive (onward [] (ps ++ (marked e ∷ []))) ws)
      (λ w. omega (arith, alive_sum w (onward [] (ps ++ (marked e ∷ []))) ws, (turned w [] (ps ++ (marked e ∷ []))).total))
      (do_mark n m long ws e ps a be bf h)

  held_close : (q : ℕ) → Done (stored (stores Close q e ps ws) m) (places_after Close q e ps ws)
  unfolding stores places_after stored loops_sum
  held_close q = do_fewer n m long ws ((opened e ∷ ps) ∷ ws) ws (λ w. omega arith) (record { apart = a; holds = h })

  -- with a free place q
  module _ (q : ℕ) (z : placed q ((opened e ∷ ps) ∷ ws) ≡ 0) (bq : q < n) where
    held_new : Done (stored (stores New q e ps ws) m) (places_after New q e ps ws)
    unfolding stores places_after
    held_new = do_new n m long ws e q ps a z be bq bf h

    held_union : (k j : ℕ) → k < length ws → j < length (loop_at ws k)
        → Done (stored (arc q (start_or e ps) true
        ∷ (arc (last_vertex (drop j (loop_at ws k) ++ take j (loop_at ws k))) q (last_open (drop j (loop_at ws k) ++ take j (loop_at ws k)))
        ∷ (arc e (vertex_at (loop_at ws k) j) true ∷ []))) m)
        ((opened q ∷ (ps ++ (opened e ∷ (drop j (loop_at ws k) ++ take j (loop_at ws k))))) ∷ without ws k)
    unfolding ring_sum
    held_union k j lk lj =
        let w : Ring = loop_at ws k in
        let r : Shape j w = shape j w lj in
        let c : Node = r.c in
        let cs : List Node = r.cs ++ take j w in
        let old : List Ring = (opened e ∷ ps) ∷ ws in
        let mid : List Ring = (opened e ∷ ps) ∷ ((c ∷ cs) ∷ without ws k) in
        let turn : (v : Weight) → ring_sum v (c ∷ cs) ≡ ring_sum v w =
        λ v. ap (λ (x : List Node). ring_sum v (x ++ take j w)) (sym r.rest) ∙ sum_turn v (drop j w) (take j w)
        ∙ ap (ring_sum v) (take-append-drop j w) in
        let sums : (v : Weight) → loops_sum v mid ≡ loops_sum v old = λ v. waiting_first v (opened e ∷ ps) (c ∷ cs) ws k lk (turn v) in
        let d : Done m mid =
        do_fewer n m long ws old mid (λ v. omega (arith, sums v)) (record { apart = a; holds = h }) in
        let waits : (x : ℕ) → 1 ≤ ring_sum (λ p t o. same x p) (c ∷ cs) → x < n =
        λ x g. below x (omega (arith, sums (λ p t o. same x p), second_le (λ p t o. same x p) (opened e ∷ ps) (c ∷ cs) (without ws k))) in
        let bc : vertex c < n = waits (vertex c) (omega (arith, same_yes (vertex c), first_le (λ p t o. same (vertex c) p) c cs (vertex c)))
        in
        let bl : last_vertex (c ∷ cs) < n =
        waits (last_vertex (c ∷ cs))
        (omega (arith, same_yes (last_vertex (c ∷ cs)), end_there (λ p t o. same (last_vertex (c ∷ cs)) p) c cs (vertex c))) in
        rw (r.rest, r.third)
        (do_union n m long (without ws k) e q ps c cs d.apart (sums (λ p t o. same q p) ∙ z) be bq bf bc bl d.holds)

held_split : (n : ℕ) (m : Memory) → Long n m → (e : ℕ) (ps : List Node) (ws : List Ring) → Apart ((opened e ∷ ps) ∷ ws)
    → ((x : ℕ) → 1 ≤ placed x ((opened e ∷ ps) ∷ ws) → x < n) → Holds m ((opened e ∷ ps) ∷ ws) → (q : ℕ)
    → placed q ((opened e ∷ ps) ∷ ws) ≡ 0 → q < n
    → (i : ℕ) → 1 ≤ i → i < length ps → Done (stored (stores (Split i) q e ps ws) m) (places_after (Split i) q e ps ws)
unfolding stores places_after vertex_at
held_split n m long e ps ws a below h q z bq zero k l = absurd (omega arith)
held_split n m long e [] ws a below h q z bq (suc i) k l = absurd (omega arith)
held_split n m long e (f ∷ ps) ws a below h q z bq (suc i) k l =
    let r = shape i ps (omega arith) in
    let whole : take i ps ++ (r.c ∷ r.cs) ≡ ps = ap (λ (x : List Node). take i ps ++ x) (sym r.rest) ∙ take-append-drop i ps in
    let old : (x : List Node) → List Ring = λ x. (opened e ∷ (f ∷ x)) ∷ ws in
    let last : last_vertex (f ∷ take i ps) < n =
    in_ring n m long e (f ∷ ps) ws a below h (last_vertex (f ∷ take i ps))
    (omega (
      arith,
      same_yes (last_vertex (f ∷ take i ps)),
      end_there (λ p t o. same (last_vertex (f ∷ take i ps)) p) f (take i ps) (vertex r.c),
      sum_append (λ p t o. same (last_vertex (f ∷ take i ps)) p) (f ∷ take i ps) (r.c ∷ r.cs) e,
      ap (λ (x : List Node). path_sum (λ p t o. same (last_vertex (f ∷ take i ps)) p) (f ∷ x) e) whole,
    )) in
    rw (r.rest, r.third)
    (do_split n m long ws e q f (take i ps) r.c r.cs _ (subst (λ (x : List Node). Apart (old x)) (sym whole) a)
    (subst (λ (x : List Node). placed q (old x) ≡ 0) (sym whole) z) (be n m long e (f ∷ ps) ws a below h) bq
    (bf n m long e (f ∷ ps) ws a below h)
    (subst (λ (x : ℕ). x < n) r.third (bi n m long e (f ∷ ps) ws a below h (suc i) l)) last
    (subst (λ (x : List Node). Holds m (old x)) (sym whole) h))

-- after the stores of an operation the memory holds the rings of the table
pub held : (o : Operation) (n : ℕ) (m : Memory) → Long n m → (q e : ℕ) (ps : List Node) (ws : List Ring)
    → Apart ((opened e ∷ ps) ∷ ws) → (Takes o → (placed q ((opened e ∷ ps) ∷ ws) ≡ 0) × (q < n))
    → ((x : ℕ) → 1 ≤ placed x ((opened e ∷ ps) ∷ ws) → x < n) → Holds m ((opened e ∷ ps) ∷ ws)
    → Fits o ps ws → Done (stored (stores o q e ps ws) m) (places_after o q e ps ws)
unfolding stores places_after
held New n m long q e ps ws a z below h k = held_new n m long e ps ws a below h q (z tt).0 (z tt).1
held Forward n m long q e ps ws a z below h k = held_forward n m long e ps ws a below h q k
held Backward n m long q e ps ws a z below h k = held_backward n m long e ps ws a below h q k
held Border n m long q e ps ws a z below h k = held_border n m long e ps ws a below h q
held (Split i) n m long q e ps ws a z below h k = held_split n m long e ps ws a below h q (z tt).0 (z tt).1 i k.0 k.1
held Close n m long q e ps ws a z below h k = held_close n m long e ps ws a below h q
held (Union i j) n m long q e ps ws a z below h k = held_union n m long e ps ws a below h q (z tt).0 (z tt).1 (i - 1) j k.0 k.1
held Start n m long q e ps ws a z below h k = absurd k
