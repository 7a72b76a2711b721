-- A list of one number has it at every place; past its end it is the number asked for instead.
-- Assumes nothing.
use Prim.Native.Nat.{ℕ, zero, suc}
use mathlib.Core.Path.{◌≡◌, refl}
use lib.ListN.{get_or, replicate}

pub same_all : (n i z : ℕ) → get_or (replicate n z) i z ≡ z
same_all zero i z = refl
same_all (suc n) zero z = refl
same_all (suc n) (suc i) z = same_all n i z
