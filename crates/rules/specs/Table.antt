-- The table of the eight operations: when one is allowed, and what it does to the loops.
-- Assumes nothing.
use Rattle.std.specs.Prelude.{ℕ, suc, ◌+◌, ◌-◌, Bool, true, false, ◌&&◌, not, List, [], ◌∷◌, ◌++◌, length, take, drop, eqb, ltb, leb}
use Rattle.rules.specs.declared.Triangle.{Triangle}
use Rattle.rules.specs.declared.Operation.{Operation}
use Rattle.rules.specs.declared.Operation.TheVariants.{New, Forward, Backward, Border, Split, Close, Union, Start}
use Rattle.rules.specs.Triangle.{tri, distinct, Edge, edge, edges_of}
use Rattle.rules.specs.Count.{unjoined}
use Rattle.rules.specs.Ring.{Node, opened, marked, Ring, vertex, first_open, all_open, start_or, vertex_at, last_open, last_vertex, front}
use Rattle.rules.specs.Ring.{onward, shown, loop_at, without}

-- an edge of a new triangle glues an open edge, or it is a new open edge
pub data Side : Type 0 where
  glued fresh : Side

-- the edges p→q, q→r and r→p of a triangle p q r
pub record Sides : Type 0 where
  pub pq : Side
  pub qr : Side
  pub rp : Side

-- how many vertex numbers are new, and what is counted as a start or a union
pub record Added : Type 0 where
  pub vertices : ℕ
  pub starts : ℕ
  pub unions : ℕ

-- an operation that builds a triangle: the loops after it, the triangle
pub record Building : Type 0 where
  pub loops : List Ring
  pub triangle : Triangle
  pub sides : Sides
  pub added : Added

-- an operation that marks an edge as border: the loops after it, the edge, and 1 if the loop ends as a rim
pub record Marking : Type 0 where
  pub loops : List Ring
  pub edge : Edge
  pub rims : ℕ

-- what an operation would do
pub data Effect : Type 0 where
  not_allowed : Effect
  builds : Building → Effect
  marks : Marking → Effect

unfoldable pub allowed : Bool → Effect → Effect
allowed true c = c
allowed false c = not_allowed

unfoldable pub in_order : Bool → Ring → Ring → List Ring → List Ring
in_order true l m ws = l ∷ (m ∷ ws)
in_order false l m ws = m ∷ (l ∷ ws)

-- of the two loops of a split the one with fewer places goes on; if equal, the first. The other waits, as the latest
abbrev pub shorter_first : Ring → Ring → List Ring → List Ring
shorter_first l m ws = in_order (leb (length l) (length m)) l m ws

-- a loop whose last open edge is marked ends as a rim, and the latest waiting loop goes on
abbrev pub marking : Ring → List Ring → Edge → Effect
marking [] ws d = marks (record { loops = ws; edge = d; rims = 1 })
marking (p ∷ ps) ws d = marks (record { loops = (p ∷ ps) ∷ ws; edge = d; rims = 0 })

-- Of the current loop, ps are the places after e, f first. Three places, all edges open: close builds then, and neither forward nor
-- backward.
abbrev pub closes : List Node → Bool
closes ps = eqb (suc (length ps)) 3 && all_open ps

-- place i after f is beyond an open edge next to the current one, the edge after f or the edge into e
abbrev pub beside_next : List Node → ℕ → Bool
beside_next ps i = eqb i 1 && first_open ps

abbrev pub beside_last : List Node → ℕ → Bool
beside_last ps i = eqb (i + 2) (suc (length ps)) && last_open ps

-- The current edge goes from a (place e) to b (place f); ps are the places after e, f first, round to it; ws wait; u is the next unused
-- number. Every operation but border and start builds the triangle b a c, whose first side glues the current edge. That edge itself is
-- open: 21 refuses a state in which it is not.
unfoldable pub at_edge : Operation → ℕ → ℕ → List Node → List Ring → Effect
-- c is the next unused number, placed between e and f; c→b is current
at_edge New u a ps ws =
    let b = start_or a ps in
    builds (record {
      loops = (opened u ∷ (ps ++ (opened a ∷ []))) ∷ ws;
      triangle = tri b a u;
      sides = record { pq = glued; qr = fresh; rp = fresh };
      added = record { vertices = 1; starts = 0; unions = 0 };
    })
-- c is after f; f leaves; a→c is current
at_edge Forward u a ps ws =
    let k = suc (length ps) in
    let b = start_or a ps in
    let c = vertex_at ps 1 in
    allowed (leb 3 k && first_open ps && not (closes ps))
    (builds (record {
      loops = (opened a ∷ drop 1 ps) ∷ ws;
      triangle = tri b a c;
      sides = record { pq = glued; qr = fresh; rp = glued };
      added = record { vertices = 0; starts = 0; unions = 0 };
    }))
-- c is before e; e leaves; c→b is current
at_edge Backward u a ps ws =
    let k = suc (length ps) in
    let b = start_or a ps in
    let c = last_vertex ps in
    allowed (leb 3 k && last_open ps && not (closes ps))
    (builds (record {
      loops = (opened c ∷ front ps) ∷ ws;
      triangle = tri b a c;
      sides = record { pq = glued; qr = glued; rp = fresh };
      added = record { vertices = 0; starts = 0; unions = 0 };
    }))
-- no triangle; the edge is marked; the next open edge along the loop is current
at_edge Border u a ps ws = marking (shown (onward [] (ps ++ (marked a ∷ [])))) ws (edge a (start_or a ps))
-- c is i places after f; one loop from f to c, closed by c→b, one from c to e, closed by a→c; each has its closing edge as current
at_edge (Split i) u a ps ws =
    let k = suc (length ps) in
    let b = start_or a ps in
    let c = vertex_at ps i in
    allowed (leb 1 i && leb (i + 2) k && not (beside_next ps i) && not (beside_last ps i))
    (builds (record {
      loops = shorter_first (opened c ∷ take i ps) (opened a ∷ drop i ps) ws;
      triangle = tri b a c;
      sides = record { pq = glued; qr = fresh; rp = fresh };
      added = record { vertices = 0; starts = 0; unions = 0 };
    }))
-- c is the third place; the loop ends
at_edge Close u a ps ws =
    let b = start_or a ps in
    let c = vertex_at ps 1 in
    allowed (closes ps)
    (builds (record {
      loops = ws;
      triangle = tri b a c;
      sides = record { pq = glued; qr = glued; rp = glued };
      added = record { vertices = 0; starts = 0; unions = 0 };
    }))
-- c is j places after the start of loop n's current edge; a→c, round that loop back to a second place of c, then c→b, which is current
at_edge (Union n j) u a ps ws =
    let w = loop_at ws (n - 1) in
    let b = start_or a ps in
    let c = vertex_at w j in
    allowed (leb 1 n && leb n (length ws) && ltb j (length w))
    (builds (record {
      loops = (opened c ∷ (ps ++ (opened a ∷ (drop j w ++ take j w)))) ∷ without ws (n - 1);
      triangle = tri b a c;
      sides = record { pq = glued; qr = fresh; rp = fresh };
      added = record { vertices = 0; starts = 0; unions = 1 };
    }))
at_edge Start u a ps ws = not_allowed

-- no loop is live: a start builds the triangle of the next three unused numbers, and its first edge is current
unfoldable pub at_rest : Operation → ℕ → Effect
at_rest New u = not_allowed
at_rest Forward u = not_allowed
at_rest Backward u = not_allowed
at_rest Border u = not_allowed
at_rest (Split i) u = not_allowed
at_rest Close u = not_allowed
at_rest (Union n j) u = not_allowed
at_rest Start u =
    builds (record {
      loops = (opened u ∷ (opened (suc u) ∷ (opened (suc (suc u)) ∷ []))) ∷ [];
      triangle = tri u (suc u) (suc (suc u));
      sides = record { pq = fresh; qr = fresh; rp = fresh };
      added = record { vertices = 3; starts = 1; unions = 0 };
    })

unfoldable pub effect : Operation → ℕ → List Ring → Effect
effect o u [] = at_rest o u
-- 21 refuses a live loop with no place
effect o u ([] ∷ ws) = not_allowed
effect o u ((e ∷ ps) ∷ ws) = at_edge o u (vertex e) ps ws

-- the edge rule: a side that glues nothing joins two vertices that no triangle joins yet, either way round
abbrev pub side_rule : Side → ℕ → ℕ → List Triangle → Bool
side_rule glued x y ts = true
side_rule fresh x y ts = unjoined x y (edges_of ts)

abbrev pub edge_rule : Triangle → Side → Side → Side → List Triangle → Bool
edge_rule t pq qr rp ts =
    distinct t && side_rule pq t.p t.q ts && side_rule qr t.q t.r ts && side_rule rp t.r t.p ts
