-- Sums over the ring shown: one of open edges is the same, one over places is no more.
-- Assumes nothing.
use Prim.Native.Nat.{ℕ, ◌+◌, ◌≤◌}
use native.Mathlib.Omega.{arith}
use mathlib.Core.Bool.{Bool, true, false}
use mathlib.Core.List.{List, [], ◌∷◌}
use mathlib.Core.Path.{◌≡◌, refl, ap, ap₂}
use Rattle.rules.specs.Ring.{Node, opened, marked, start_or, reached, shown}
use Rattle.book.specs.Sums.{Weight, path_sum, ring_sum}

reached_start : (ps : List Node) (b : ℕ) → start_or b (reached ps false) ≡ start_or b ps
unfolding reached
reached_start [] b = refl
reached_start (opened v ∷ ps) b = refl
reached_start (marked v ∷ ps) b = refl

open_sum : (w : Weight) → ((x y : ℕ) → w x y false ≡ 0) → (ps : List Node) (m : Bool) (b : ℕ)
    → path_sum w (reached ps m) b ≡ path_sum w ps b
unfolding path_sum reached
open_sum w z [] m b = refl
open_sum w z (opened v ∷ ps) m b = ap₂ ◌+◌ (ap (λ (y : ℕ). w v y true) (reached_start ps b)) (open_sum w z ps false b)
open_sum w z (marked v ∷ ps) true b = omega (arith, open_sum w z ps true b, z v (start_or b ps))
open_sum w z (marked v ∷ ps) false b = omega (arith, open_sum w z ps true b, z v (start_or b ps), z v (start_or b (reached ps true)))

pub open_ring_sum : (w : Weight) → ((x y : ℕ) → w x y false ≡ 0) → (v : ℕ) (ps : List Node)
    → ring_sum w (shown (opened v ∷ ps)) ≡ ring_sum w (opened v ∷ ps)
unfolding ring_sum reached
open_ring_sum w z v ps = open_sum w z (opened v ∷ ps) false v

pub fewer_places : (g : ℕ → ℕ) (ps : List Node) (m : Bool) (b : ℕ) → path_sum (λ x y o. g x) (reached ps m) b ≤ path_sum (λ x y o. g x) ps b
unfolding path_sum reached
fewer_places g [] m b = omega arith
fewer_places g (opened v ∷ ps) m b = omega (arith, fewer_places g ps false b)
fewer_places g (marked v ∷ ps) true b = omega (arith, fewer_places g ps true b)
fewer_places g (marked v ∷ ps) false b = omega (arith, fewer_places g ps true b)
