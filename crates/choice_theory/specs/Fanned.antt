-- What holds of a vertex that is not met, while a model is built: the triangles about it are one chain, and the open edges at it are
-- where the chain can grow: one at most comes to it from the chain's end, one at most leads to the chain's start.
-- Assumes nothing.
use Rattle.std.specs.Prelude.{ℕ, ◌≤◌, Bool, true, false, List, [], ◌≡◌}
use Rattle.rules.specs.declared.Triangle.{Triangle}
use Rattle.rules.specs.Count.{same}
use Rattle.rules.specs.Fan.{about}
use Rattle.rules.specs.Ring.{Ring}
use Rattle.rules.specs.Machine.{Machine}
use Rattle.mesh_theory.specs.Fans.Ways.{Chained}
use Rattle.book.specs.Sums.{Weight, loops_sum, open_edges, placed}
use Rattle.book.specs.Consistent.{AllCurrent}

-- 1 for an open edge that comes to v, 1 for one that leaves it, else 0
abbrev pub in_hit : ℕ → Weight
in_hit v x y true = same v y
in_hit v x y false = 0

abbrev pub out_hit : ℕ → Weight
out_hit v x y true = same v x
out_hit v x y false = 0

-- how many open edges come to v, and how many leave it
abbrev pub comes_to : ℕ → List Ring → ℕ
comes_to v ls = loops_sum (in_hit v) ls

abbrev pub leaves_from : ℕ → List Ring → ℕ
leaves_from v ls = loops_sum (out_hit v) ls

-- the vertex v is such a one; of marked edges nothing is said, for they may be links
pub record OneChain (v : ℕ) (ls : List Ring) (ts : List Triangle) : Type 0 where
  pub one_in : comes_to v ls ≤ 1
  pub one_out : leaves_from v ls ≤ 1
  pub chained : Chained (about v ts)
  -- an open edge that comes to v comes from where the chain ends, one that leaves it leads to where the chain starts
  pub finish : (x : ℕ) → 1 ≤ open_edges x v ls → x ≡ chained.finish
  pub start : (y : ℕ) → 1 ≤ open_edges v y ls → y ≡ chained.start

-- v has no number yet: it is in no loop and in no triangle
pub record Unnumbered (v : ℕ) (ls : List Ring) (ts : List Triangle) : Type 0 where
  pub no_place : placed v ls ≡ 0
  pub no_triangle : about v ts ≡ []

-- each vertex of the machine is, but for those that `met` says are met
pub record Fanned (met : ℕ → Bool) (M : Machine) : Type 0 where
  pub current : AllCurrent M.loops
  pub unnumbered : (v : ℕ) → M.used ≤ v → Unnumbered v M.loops M.triangles
  pub unmet : (v : ℕ) → met v ≡ false → OneChain v M.loops M.triangles
