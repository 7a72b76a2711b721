-- Loops of places, kept in three lists: for each place the place after it, the place before it, and whether its edge is open. A loop
-- of places is a ring whose vertices are place numbers.
-- Assumes nothing.
use Rattle.std.specs.Prelude.{ℕ, zero, suc, ◌≤◌, Bool, true, false, List, [], ◌∷◌, ◌≡◌, get_or}
use Rattle.rules.specs.Count.{num}
use Rattle.rules.specs.Ring.{Node, opened, marked, Ring}
use Rattle.book.specs.Sums.{Weight, loops_sum, open_hit, mark_hit}

pub record Memory : Type 0 where
  pub afters : List ℕ
  pub befores : List ℕ
  -- 1 for an open edge, 0 for a marked one
  pub opens : List ℕ

-- the edge from place x to place y is recorded, open or marked
pub record Link (m : Memory) (x y : ℕ) (o : Bool) : Type 0 where
  pub fore : get_or m.afters x 0 ≡ y
  pub back : get_or m.befores y 0 ≡ x
  pub mark : get_or m.opens x 0 ≡ num o

-- an edge between two places, open or marked
pub record Arc : Type 0 where
  pub from : ℕ
  pub to : ℕ
  pub live : Bool

abbrev pub arc : ℕ → ℕ → Bool → Arc
arc x y o = record { from = x; to = y; live = o }

-- how often an edge is in the loops
abbrev pub arc_hit : ℕ → ℕ → Bool → Weight
arc_hit x y true = open_hit x y
arc_hit x y false = mark_hit x y

abbrev pub arcs : ℕ → ℕ → Bool → List Ring → ℕ
arcs x y o ls = loops_sum (arc_hit x y o) ls

-- the memory holds the loops: each of their edges is recorded
abbrev pub Holds : Memory → List Ring → Type 0
Holds m ls = (x y : ℕ) (o : Bool) → 1 ≤ arcs x y o ls → Link m x y o

-- k places read off from place x on, by following the links
abbrev pub node_from : ℕ → ℕ → Node
node_from zero x = marked x
node_from (suc f) x = opened x

unfoldable pub read : Memory → ℕ → ℕ → Ring
read m zero x = []
read m (suc k) x = node_from (get_or m.opens x 0) x ∷ read m k (get_or m.afters x 0)

-- rings of vertices, from rings of places: vs has each place's vertex
abbrev pub named : List ℕ → Node → Node
named vs (opened x) = opened (get_or vs x 0)
named vs (marked x) = marked (get_or vs x 0)

unfoldable pub named_ring : List ℕ → Ring → Ring
named_ring vs [] = []
named_ring vs (p ∷ ps) = named vs p ∷ named_ring vs ps

unfoldable pub named_loops : List ℕ → List Ring → List Ring
named_loops vs [] = []
named_loops vs (l ∷ ls) = named_ring vs l ∷ named_loops vs ls
