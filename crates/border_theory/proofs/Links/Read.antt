-- What is read off the links is what the memory holds.
-- Assumes nothing.
use Prim.Native.Nat.{ℕ, ◌≤◌}
use native.Mathlib.Omega.{arith}
use mathlib.Core.Bool.{Bool}
use mathlib.Core.List.{List, [], ◌∷◌}
use mathlib.Core.Path.{◌≡◌, refl, ap, ap₂, ◌∙◌}
use lib.ListN.{length}
use Rattle.rules.specs.Count.{num}
use Rattle.rules.specs.Ring.{Node, opened, marked, Ring, vertex, is_open, start_or}
use Rattle.book.specs.Sums.{path_sum, ring_sum, loops_sum}
use Rattle.border_theory.specs.Links.Held.{Memory, Link, arc_hit, Holds, read, node_from}
use Rattle.border_theory.proofs.Links.Relink.{arc_yes}

pub node_same : (p : Node) → node_from (num (is_open p)) (vertex p) ≡ p
node_same (opened v) = refl
node_same (marked v) = refl

read_path : (m : Memory) (b : ℕ) (ps : List Node) → ((x y : ℕ) (o : Bool) → 1 ≤ path_sum (arc_hit x y o) ps b → Link m x y o)
    → read m (length ps) (start_or b ps) ≡ ps
unfolding read path_sum
read_path m b [] h = refl
read_path m b (p ∷ ps) h =
    let l = h (vertex p) (start_or b ps) (is_open p) (omega (arith, arc_yes (vertex p) (start_or b ps) (is_open p))) in
    ap₂ (λ (q : Node) (qs : List Node). q ∷ qs) (ap (λ (f : ℕ). node_from f (vertex p)) l.mark ∙ node_same p)
    (ap (read m (length ps)) l.fore ∙ read_path m b ps (λ x y o k. h x y o (omega arith)))

-- each loop that the memory holds is read off from its first place
pub read_loop : (m : Memory) (p : Node) (ps : List Node) (ls : List Ring) → Holds m ((p ∷ ps) ∷ ls)
    → read m (length (p ∷ ps)) (vertex p) ≡ p ∷ ps
unfolding loops_sum ring_sum
read_loop m p ps ls h = read_path m (vertex p) (p ∷ ps) (λ x y o k. h x y o (omega arith))

pub holds_rest : (m : Memory) (l : Ring) (ls : List Ring) → Holds m (l ∷ ls) → Holds m ls
unfolding loops_sum
holds_rest m l ls h x y o k = h x y o (omega arith)
