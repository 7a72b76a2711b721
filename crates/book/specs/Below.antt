-- Sums over all numbers below a bound, and with them how many numbers and how many pairs occur: `different` and `pairs` of the
-- rules said another way, as proofs/Below.antt shows.
-- Assumes nothing.
use Rattle.std.specs.Prelude.{ℕ, zero, suc, ◌+◌, not, List, eqb}
use Rattle.rules.specs.Triangle.{Edge}
use Rattle.rules.specs.Count.{num, occurs, unjoined}

unfoldable pub sum_below : ℕ → (ℕ → ℕ) → ℕ
sum_below zero g = 0
sum_below (suc n) g = g n + sum_below n g

-- the numbers x < n that occur
abbrev pub numbers_below : ℕ → List ℕ → ℕ
numbers_below n xs = sum_below n (λ x. num (not (eqb (occurs x xs) 0)))

-- the pairs x, y with y < x < n that an edge joins, either way round
abbrev pub pairs_below : ℕ → List Edge → ℕ
pairs_below n ds = sum_below n (λ x. sum_below x (λ y. num (not (unjoined x y ds))))
