-- A walk of one place more.
use Rattle.std.proofs.Common.{◌≡◌, ℕ, zero, suc, ◌+◌, List, refl}
use native.Mathlib.Numerals.{add-one}
use Rattle.border_theory.specs.Memory.Layout.{after_of, walked}

walked-suc : (m : List ℕ) (k p : ℕ) → walked m (suc k) p ≡ after_of m (walked m k p)
unfolding walked
walked-suc m zero p = refl
walked-suc m (suc k) p = walked-suc m k (after_of m p)

pub walked-more : (m : List ℕ) (k p : ℕ) → walked m (k + 1) p ≡ after_of m (walked m k p)
walked-more m k p = rw (add-one k) (walked-suc m k p)
