-- How many places and loops an operation leaves.
-- Assumes nothing.
use Prim.Native.Nat.{ℕ, ◌+◌, ◌*◌, ◌≤◌}
use native.Mathlib.Omega.{arith}
use mathlib.Core.Bool.{Bool, true, false}
use mathlib.Core.List.{List, [], ◌∷◌}
use mathlib.Core.Path.{◌≡◌, refl}
use lib.ListN.{length}
use lib.Dec.{leb}
use borrow.Author.Tests.{leb-true, leb-false}
use Rattle.rules.specs.declared.Triangle.{Triangle}
use Rattle.rules.specs.Ring.{Node, Ring, start_or, places}
use Rattle.rules.specs.Table.{Side, glued, fresh}
use Rattle.rules.specs.Machine.{fresh_sides}
use Rattle.book.specs.Sums.{path_sum, ring_sum, loops_sum}
use Rattle.book.proofs.Counting.{if_glued}
use Rattle.book.proofs.Effects as effects
use Rattle.border_theory.specs.Links.Held.{named_loops}
use Rattle.border_theory.proofs.Links.Named.{named_length}
use Rattle.book.proofs.Bounds.{sides}

path_ones : (ps : List Node) (b : ℕ) → path_sum (λ x y o. 1) ps b ≡ length ps
unfolding path_sum
path_ones [] b = refl
path_ones (p ∷ ps) b = omega (arith, path_ones ps b)

pub places_sum : (ls : List Ring) → places ls ≡ loops_sum (λ x y o. 1) ls
unfolding places loops_sum ring_sum
places_sum [] = refl
places_sum (l ∷ ls) = omega (arith, places_sum ls, path_ones l (start_or 0 l))

pub places_named : (vs : List ℕ) (ls : List Ring) → places (named_loops vs ls) ≡ places ls
unfolding places named_loops
places_named vs [] = refl
places_named vs (l ∷ ls) = omega (arith, named_length vs l, places_named vs ls)

side_one : (s : Side) → if_glued s 1 + fresh_sides s ≡ 1
side_one glued = refl
side_one fresh = refl

-- each side that glues takes a place away, each new one adds one
pub places_after_lem : (u : ℕ) (before ls : List Ring) (t : Triangle) (pq qr rp : Side) (n s k : ℕ)
    → effects.Builds u before ls t pq qr rp n s k
    → places ls + 3 ≡ places before + 2 * (fresh_sides pq + fresh_sides qr + fresh_sides rp)
places_after_lem u before ls t pq qr rp n s k l =
    omega (
      arith,
      l.sums (λ x y o. 1),
      places_sum ls,
      places_sum before,
      side_one pq,
      side_one qr,
      side_one rp,
      sides pq,
      sides qr,
      sides rp,
    )

-- two tests that hold together
pub leb_same : (a b c d : ℕ) → (a ≤ b → c ≤ d) → (c ≤ d → a ≤ b) → leb a b ≡ leb c d
leb_same a b c d f g = go (leb a b) (leb c d) refl refl
  where
    go : (s t : Bool) → leb a b ≡ s → leb c d ≡ t → s ≡ t
    go true true x y = refl
    go false false x y = refl
    go true false x y = absurd (omega (arith, f (leb-true a b x), leb-false c d y))
    go false true x y = absurd (omega (arith, g (leb-true c d y), leb-false a b x))
