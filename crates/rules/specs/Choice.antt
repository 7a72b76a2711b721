-- How the packer chooses the next operation. It works on the list's own vertex numbers.
-- Assumes nothing.
use Rattle.std.specs.Prelude.{ℕ, zero, suc, ◌+◌, ◌-◌, max, Bool, true, false, ◌&&◌, List, [], ◌∷◌, ◌++◌, length, drop, eqb, leb}
use Rattle.rules.specs.declared.Triangle.{Triangle}
use Rattle.rules.specs.Across.{Found, Nothing}
use Rattle.rules.specs.declared.Operation.{Operation}
use Rattle.rules.specs.declared.Operation.TheVariants.{New, Forward, Backward, Border, Split, Close, Union, Start}
use Rattle.rules.specs.Across.{in_triangle, across}
use Rattle.rules.specs.Ring.{Node, opened, Ring, vertex, is_open, first_open, last_open, start_or, places, loop_at}
use Rattle.rules.specs.Table.{Effect, not_allowed, builds, marks, closes, at_edge}

pub record Packing : Type 0 where
  pub mesh : List Triangle
  -- the triangles not yet built, as listed
  pub left : List Triangle
  -- the vertices that have a new number, in the order of these numbers
  pub numbered : List ℕ
  -- the current loop, then the waiting ones, the latest first
  pub loops : List Ring
  pub most_places : ℕ
  pub most_loops : ℕ
  -- 9, 10: what may not be exceeded
  pub limit_places : ℕ
  pub limit_loops : ℕ

unfoldable pub has : ℕ → List ℕ → Bool
has c [] = false
has c (v ∷ vs) = elim (eqb c v) [ true ↦ true | false ↦ has c vs ]

-- the list without the triangle that has x→y
unfoldable pub drop_triangle : ℕ → ℕ → List Triangle → List Triangle
drop_triangle x y [] = []
drop_triangle x y (t ∷ ts) = elim (in_triangle x y t) [ Found n k z ↦ ts | Nothing ↦ t ∷ drop_triangle x y ts ]

-- Turning about c from a triangle that has c→x, through the triangles ts, as far as it goes, by at most n of them: the edge
-- at which it ends comes into c from the vertex that is told.
unfoldable pub turn_in : ℕ → ℕ → ℕ → List Triangle → ℕ
turn_in zero c x ts = x
turn_in (suc n) c x ts = elim (across x c ts) [ Nothing ↦ x | Found m k z ↦ turn_in n c z ts ]

-- the other way, from a triangle that has y→c: the edge at which it ends leads from c to the vertex that is told
unfoldable pub turn_out : ℕ → ℕ → ℕ → List Triangle → ℕ
turn_out zero c y ts = y
turn_out (suc n) c y ts = elim (across c y ts) [ Nothing ↦ y | Found m k z ↦ turn_out n c z ts ]

-- a number or none
pub data Position : Type 0 where
  absent : Position
  at : ℕ → Position

-- how many places after the first of a ring the open edge x→y starts; i counts the places gone by
unfoldable pub edge_in : ℕ → ℕ → ℕ → ℕ → List Node → Position
edge_in first i x y [] = absent
edge_in first i x y (p ∷ ps) =
    elim (is_open p && eqb (vertex p) x && eqb (start_or first ps) y) [ true ↦ at i | false ↦ edge_in first (suc i) x y ps ]

-- a place: the loop's number, 0 the current one, and how many places after its first
pub data Spot : Type 0 where
  nowhere : Spot
  spot : ℕ → ℕ → Spot

-- where the open edge x→y starts
unfoldable pub spot_of : ℕ → ℕ → ℕ → List Ring → Spot
spot_of l x y [] = nowhere
spot_of l x y (w ∷ ws) = elim (edge_in (start_or 0 w) 0 x y w) [ absent ↦ spot_of (suc l) x y ws | at i ↦ spot l i ]

-- the operation for place i of loop l, where ps are the current loop's places after e; i counts from e, a split's index from f
abbrev pub operation_for : List Node → ℕ → ℕ → Operation
operation_for ps zero i =
    let k = suc (length ps) in
    elim (closes ps) [
      | true ↦ Close
      | false ↦ elim (eqb i 2 && first_open ps) [
        | true ↦ Forward
        | false ↦ elim (eqb (i + 1) k && last_open ps) [ true ↦ Backward | false ↦ Split (i - 1) ]
      ]
    ]
operation_for ps (suc l) i = Union (suc l) i

-- the current loop's places after e
abbrev pub after_current : List Ring → List Node
after_current ls = drop 1 (loop_at ls 0)

abbrev pub size_of : List Ring → ℕ → ℕ
size_of ls n = length (loop_at ls n)

-- the place after place i, in a ring of k places
abbrev pub following : ℕ → ℕ → ℕ
following k i = elim (eqb (i + 1) k) [ true ↦ 0 | false ↦ i + 1 ]

-- The place of c from whose open edges the triangle b a c is reached by turning about c, through the triangles ts (`RightPlace`): turning
-- back from the triangle ends at that edge. An edge that comes into c ends at its place, one that leaves c starts there. In an
-- accepted list one of the two is found, so that the last branch is never met (`one_place_is_right`, crate roundtrip).
unfoldable pub choose_place : ℕ → ℕ → ℕ → List Triangle → List Ring → Operation
choose_place a b c ts ls =
    let ps = after_current ls in
    elim (spot_of 0 (turn_in (length ts) c b ts) c ls) [
      | spot l i ↦ operation_for ps l (following (size_of ls l) i)
      | nowhere ↦ elim (spot_of 0 c (turn_out (length ts) c a ts) ls) [ spot l i ↦ operation_for ps l i | nowhere ↦ Border ]
    ]

-- what the packer does next: nothing is left to do (or, never met, nothing can be done), it is refused, or it takes an operation
pub data Next : Type 0 where
  ended : Next
  refuses : ℕ → Next
  takes : Operation → Packing → Next

-- both peaks are taken after the operation
abbrev pub packing_after : Packing → List Triangle → List ℕ → List Ring → Packing
packing_after s ts vs ls = record {
  mesh = s.mesh;
  left = ts;
  numbered = vs;
  loops = ls;
  most_places = max s.most_places (places ls);
  most_loops = max s.most_loops (length ls);
  limit_places = s.limit_places;
  limit_loops = s.limit_loops;
}

-- 9, 10
unfoldable pub limited : Operation → Packing → Next
limited o s =
    elim (leb (places s.loops) s.limit_places) [
      | true ↦ elim (leb (length s.loops) s.limit_loops) [ true ↦ takes o s | false ↦ refuses 10 ]
      | false ↦ refuses 9
    ]

-- the table allows every operation that is chosen, so that the first line is never met (`one_place_is_right`, crate roundtrip)
unfoldable pub taking : Operation → Packing → List Triangle → List ℕ → Effect → Next
taking o s ts vs not_allowed = ended
taking o s ts vs (builds x) = limited o (packing_after s ts vs x.loops)
taking o s ts vs (marks y) = limited o (packing_after s ts vs y.loops)

-- at the current edge from a to b, with the places ps after its own
unfoldable pub choose_at : Packing → ℕ → ℕ → List Node → List Ring → Next
choose_at s a b ps ws =
    elim (across b a s.mesh) [
      | Nothing ↦ taking Border s s.left s.numbered (at_edge Border 0 a ps ws)
      | Found n k c ↦
          let ts = drop_triangle b a s.left in
          elim (has c s.numbered) [
            | false ↦ taking New s ts (s.numbered ++ (c ∷ [])) (at_edge New c a ps ws)
            | true ↦ let o = choose_place a b c ts s.loops in taking o s ts s.numbered (at_edge o c a ps ws)
          ]
    ]

unfoldable pub choose_in : Packing → List Ring → List Triangle → Next
choose_in s [] [] = ended
choose_in s [] (t ∷ ts) =
    limited Start
    (packing_after s ts (s.numbered ++ (t.p ∷ (t.q ∷ (t.r ∷ [])))) ((opened t.p ∷ (opened t.q ∷ (opened t.r ∷ []))) ∷ []))
choose_in s ([] ∷ ws) ts = ended
choose_in s ((e ∷ ps) ∷ ws) ts = choose_at s (vertex e) (start_or (vertex e) ps) ps ws

abbrev pub choose : Packing → Next
choose s = choose_in s s.loops s.left
