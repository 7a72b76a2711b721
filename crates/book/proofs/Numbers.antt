-- The vertices of the loops stay below the next unused number.
-- Assumes nothing.
use Prim.Native.Nat.{ℕ, zero, suc, ◌+◌, ◌-◌, ◌≤◌, ◌<◌}
use native.Mathlib.Omega.{arith}
use mathlib.Core.Bool.{Bool, true, false, ◌&&◌}
use mathlib.Core.List.{List, [], ◌∷◌, ◌++◌}
use mathlib.Core.Path.{◌≡◌, refl, subst}
use lib.ListN.{length, take, drop}
use lib.Dec.{eqb, leb}
use borrow.Author.Tests.{leb-true, ltb-true, eqb-true}
use Rattle.rules.specs.declared.Triangle.{Triangle}
use Rattle.rules.specs.declared.Operation.{Operation}
use Rattle.rules.specs.declared.Operation.TheVariants.{New, Forward, Backward, Border, Split, Close, Union, Start}
use Rattle.rules.specs.Triangle.{Edge, edge}
use Rattle.rules.specs.Ring.{Node, opened, marked, Ring, vertex, start_or, vertex_at, last_vertex, front, onward, reached, shown, loop_at}
use Rattle.rules.specs.Ring.{without}
use Rattle.rules.specs.Table.{Side, Effect, not_allowed, builds, marks, allowed, in_order, marking, at_edge, at_rest, effect}
use Rattle.book.proofs.Parts.{building_of, marking_of}
use Rattle.book.specs.Consistent.{AllCurrent}
use Rattle.book.specs.Numbers.{NodesBelow, LoopsBelow}
use Rattle.book.proofs.Effects.{split_high}
use Rattle.counting.proofs.Bools.{and_left, and_right}

-- runs of nodes
pub below_append : (u : ℕ) (ps qs : List Node) → NodesBelow u ps → NodesBelow u qs → NodesBelow u (ps ++ qs)
below_append u [] qs h k = k
below_append u (p ∷ ps) qs h k = (h.0, below_append u ps qs h.1 k)

below_more : (u v : ℕ) → u ≤ v → (ps : List Node) → NodesBelow u ps → NodesBelow v ps
below_more u v l [] h = tt
below_more u v l (p ∷ ps) h = (omega (arith, l, h.0), below_more u v l ps h.1)

below_take : (u i : ℕ) (ps : List Node) → NodesBelow u ps → NodesBelow u (take i ps)
below_take u zero ps h = tt
below_take u (suc i) [] h = tt
below_take u (suc i) (p ∷ ps) h = (h.0, below_take u i ps h.1)

below_drop : (u i : ℕ) (ps : List Node) → NodesBelow u ps → NodesBelow u (drop i ps)
below_drop u zero ps h = h
below_drop u (suc i) [] h = tt
below_drop u (suc i) (p ∷ ps) h = below_drop u i ps h.1

below_start : (u b : ℕ) (ps : List Node) → b < u → NodesBelow u ps → start_or b ps < u
below_start u b [] l h = l
below_start u b (p ∷ ps) l h = h.0

below_at : (u : ℕ) (ps : List Node) (i : ℕ) → i < length ps → NodesBelow u ps → vertex_at ps i < u
unfolding vertex_at
below_at u [] i l h = absurd (omega arith)
below_at u (p ∷ ps) zero l h = h.0
below_at u (p ∷ ps) (suc i) l h = below_at u ps i (omega arith) h.1

below_last : (u : ℕ) (p : Node) (ps : List Node) → NodesBelow u (p ∷ ps) → last_vertex (p ∷ ps) < u
unfolding last_vertex
below_last u p [] h = h.0
below_last u p (q ∷ ps) h = below_last u q ps h.1

below_front : (u : ℕ) (ps : List Node) → NodesBelow u ps → NodesBelow u (front ps)
unfolding front
below_front u [] h = tt
below_front u (p ∷ []) h = tt
below_front u (p ∷ (q ∷ ps)) h = (h.0, below_front u (q ∷ ps) h.1)

pub below_onward : (u : ℕ) (back ps : List Node) → NodesBelow u back → NodesBelow u ps → NodesBelow u (onward back ps)
unfolding onward
below_onward u back [] k h = tt
below_onward u back (opened v ∷ ps) k h = (h.0, below_append u ps back h.1 k)
below_onward u back (marked v ∷ ps) k h =
    below_onward u (back ++ (marked v ∷ [])) ps (below_append u back (marked v ∷ []) k (h.0, tt)) h.1

below_reached : (u : ℕ) (ps : List Node) (m : Bool) → NodesBelow u ps → NodesBelow u (reached ps m)
unfolding reached
below_reached u [] m h = tt
below_reached u (opened v ∷ ps) m h = (h.0, below_reached u ps false h.1)
below_reached u (marked v ∷ ps) true h = below_reached u ps true h.1
below_reached u (marked v ∷ ps) false h = (h.0, below_reached u ps true h.1)

below_shown : (u : ℕ) (ps : List Node) → NodesBelow u ps → NodesBelow u (shown ps)
below_shown u [] h = tt
below_shown u (p ∷ ps) h = (h.0, below_reached u ps false h.1)

-- loops
pub below_wider : (u v : ℕ) → u ≤ v → (ls : List Ring) → LoopsBelow u ls → LoopsBelow v ls
below_wider u v l [] h = tt
below_wider u v l (p ∷ ls) h = (below_more u v l p h.0, below_wider u v l ls h.1)

below_loop : (u : ℕ) (ws : List Ring) (n : ℕ) → LoopsBelow u ws → NodesBelow u (loop_at ws n)
unfolding loop_at
below_loop u [] n h = tt
below_loop u (w ∷ ws) zero h = h.0
below_loop u (w ∷ ws) (suc n) h = below_loop u ws n h.1

below_without : (u : ℕ) (ws : List Ring) (n : ℕ) → LoopsBelow u ws → LoopsBelow u (without ws n)
unfolding without
below_without u [] n h = tt
below_without u (w ∷ ws) zero h = h.1
below_without u (w ∷ ws) (suc n) h = (h.0, below_without u ws n h.1)

pub below_order : (u : ℕ) (t : Bool) (l m : Ring) (ws : List Ring) → NodesBelow u l → NodesBelow u m → LoopsBelow u ws
    → LoopsBelow u (in_order t l m ws)
unfolding in_order
below_order u true l m ws x y z = (x, (y, z))
below_order u false l m ws x y z = (y, (x, z))

-- an effect's loops and corners are below the next unused number after it
abbrev pub Below : ℕ → Effect → Type 0
Below u not_allowed = Unit {0}
Below u (builds x) =
    let n = u + x.added.vertices in
    LoopsBelow n x.loops × ((x.triangle.p < n) × (x.triangle.q < n) × (x.triangle.r < n))
Below u (marks x) = LoopsBelow u x.loops

allowed_below : (u : ℕ) (t : Bool) (c : Effect) → (t ≡ true → Below u c) → Below u (allowed t c)
unfolding allowed
allowed_below u true c h = h refl
allowed_below u false c h = tt

marking_below : (u : ℕ) (r : Ring) (ws : List Ring) (d : Edge) → NodesBelow u r → LoopsBelow u ws → Below u (marking r ws d)
marking_below u [] ws d h k = k
marking_below u (p ∷ r) ws d h k = (h, k)

module _ (u a : ℕ) (ps : List Node) (ws : List Ring) (ha : a < u) (hp : NodesBelow u ps) (hw : LoopsBelow u ws) where
  -- the same bounds for an operation that uses no new number
  plain : (ls : List Ring) (c : ℕ) → LoopsBelow u ls → c < u
      → LoopsBelow (u + 0) ls × ((start_or a ps < u + 0) × (a < u + 0) × (c < u + 0))
  plain ls c h k =
      (below_wider u (u + 0) (omega arith) ls h, (omega (arith, below_start u a ps ha hp), omega (arith, ha), omega (arith, k)))

  below_new : Below u (at_edge New u a ps ws)
  unfolding at_edge
  below_new = (
    (
      (omega arith, below_append (u + 1) ps (opened a ∷ []) (below_more u (u + 1) (omega arith) ps hp) (omega (arith, ha), tt)),
      below_wider u (u + 1) (omega arith) ws hw,
    ),
    (omega (arith, below_start u a ps ha hp), omega (arith, ha), omega arith),
  )

  below_forward : Below u (at_edge Forward u a ps ws)
  unfolding at_edge
  below_forward =
      allowed_below u _ _
      (λ t.
      let k = leb-true 3 (suc (length ps)) (and_left (leb 3 (suc (length ps))) _ (and_left (leb 3 (suc (length ps)) && _) _ t)) in
      plain ((opened a ∷ drop 1 ps) ∷ ws) (vertex_at ps 1) ((ha, below_drop u 1 ps hp), hw) (below_at u ps 1 (omega (arith, k)) hp))

  below_backward : (c : ℕ) → last_vertex ps ≡ c → c < u → Below u (at_edge Backward u a ps ws)
  unfolding at_edge
  below_backward c e k =
      allowed_below u _ _
      (λ t. plain ((opened (last_vertex ps) ∷ front ps) ∷ ws) (last_vertex ps) ((omega (arith, e, k), below_front u ps hp), hw)
      (omega (arith, e, k)))

  below_border : Below u (at_edge Border u a ps ws)
  unfolding at_edge
  below_border =
      marking_below u (shown (onward [] (ps ++ (marked a ∷ [])))) ws (edge a (start_or a ps))
      (below_shown u (onward [] (ps ++ (marked a ∷ [])))
      (below_onward u [] (ps ++ (marked a ∷ [])) tt (below_append u ps (marked a ∷ []) hp (ha, tt)))) hw

  below_split : (i : ℕ) → Below u (at_edge (Split i) u a ps ws)
  unfolding at_edge
  below_split i =
      allowed_below u _ _
      (λ t.
      let k = split_high i (suc (length ps)) _ _ t in
      let h = below_at u ps i (omega (arith, k)) hp in
      plain (in_order (leb (length (opened (vertex_at ps i) ∷ take i ps)) (length (opened a ∷ drop i ps)))
      (opened (vertex_at ps i) ∷ take i ps) (opened a ∷ drop i ps) ws)
      (vertex_at ps i)
      (below_order u _ (opened (vertex_at ps i) ∷ take i ps) (opened a ∷ drop i ps) ws (h, below_take u i ps hp) (ha, below_drop u i ps hp)
      hw) h)

  below_close : Below u (at_edge Close u a ps ws)
  unfolding at_edge
  below_close =
      allowed_below u _ _
      (λ t.
      let k = eqb-true (suc (length ps)) 3 (and_left (eqb (suc (length ps)) 3) _ t) in
      plain ws (vertex_at ps 1) hw (below_at u ps 1 (omega (arith, k)) hp))

  below_union : (n j : ℕ) → Below u (at_edge (Union n j) u a ps ws)
  unfolding at_edge
  below_union n j =
      let l = loop_at ws (n - 1) in
      let hl = below_loop u ws (n - 1) hw in
      allowed_below u _ _
      (λ t.
      let k = ltb-true j (length l) (and_right (leb 1 n && leb n (length ws)) _ t) in
      let h = below_at u l j k hl in
      plain ((opened (vertex_at l j) ∷ (ps ++ (opened a ∷ (drop j l ++ take j l)))) ∷ without ws (n - 1)) (vertex_at l j) (
        (
          h,
          below_append u ps (opened a ∷ (drop j l ++ take j l)) hp
              (ha, below_append u (drop j l) (take j l) (below_drop u j l hl) (below_take u j l hl)),
        ),
        below_without u ws (n - 1) hw,
      )
      h)

below_at_edge : (o : Operation) (u a : ℕ) (ps : List Node) (ws : List Ring) → a < u → NodesBelow u ps → LoopsBelow u ws
    → Below u (at_edge o u a ps ws)
unfolding at_edge allowed
below_at_edge New u a ps ws ha hp hw = below_new u a ps ws ha hp hw
below_at_edge Forward u a ps ws ha hp hw = below_forward u a ps ws ha hp hw
below_at_edge Backward u a [] ws ha hp hw = tt
below_at_edge Backward u a (p ∷ ps) ws ha hp hw =
    below_backward u a (p ∷ ps) ws ha hp hw (last_vertex (p ∷ ps)) refl (below_last u p ps hp)
below_at_edge Border u a ps ws ha hp hw = below_border u a ps ws ha hp hw
below_at_edge (Split i) u a ps ws ha hp hw = below_split u a ps ws ha hp hw i
below_at_edge Close u a ps ws ha hp hw = below_close u a ps ws ha hp hw
below_at_edge (Union n j) u a ps ws ha hp hw = below_union u a ps ws ha hp hw n j
below_at_edge Start u a ps ws ha hp hw = tt

below_at_rest : (o : Operation) (u : ℕ) → Below u (at_rest o u)
unfolding at_rest
below_at_rest New u = tt
below_at_rest Forward u = tt
below_at_rest Backward u = tt
below_at_rest Border u = tt
below_at_rest (Split i) u = tt
below_at_rest Close u = tt
below_at_rest (Union n j) u = tt
below_at_rest Start u = (((omega arith, (omega arith, (omega arith, tt))), tt), (omega arith, omega arith, omega arith))

pub below_effect : (o : Operation) (u : ℕ) (ls : List Ring) → LoopsBelow u ls → Below u (effect o u ls)
unfolding effect
below_effect o u [] h = below_at_rest o u
below_effect o u ([] ∷ ws) h = tt
below_effect o u ((e ∷ ps) ∷ ws) h = below_at_edge o u (vertex e) ps ws h.0.0 h.0.1 h.1

-- a triangle is built
pub below_built : (o : Operation) (u : ℕ) (ls ls' : List Ring) (t : Triangle) (pq qr rp : Side) (n s k : ℕ) → AllCurrent ls
    → LoopsBelow u ls
    → effect o u ls ≡ builds (building_of ls' t pq qr rp n s k) → LoopsBelow (u + n) ls' × ((t.p < u + n) × (t.q < u + n) × (t.r < u + n))
below_built o u ls ls' t pq qr rp n s k c h e = subst (Below u) e (below_effect o u ls h)

-- an edge is marked
pub below_marked : (o : Operation) (u : ℕ) (ls ls' : List Ring) (d : Edge) (rim : ℕ) → LoopsBelow u ls
    → effect o u ls ≡ marks (marking_of ls' d rim)
    → LoopsBelow u ls'
below_marked o u ls ls' d rim h e = subst (Below u) e (below_effect o u ls h)
