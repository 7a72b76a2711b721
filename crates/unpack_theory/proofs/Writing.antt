-- A triangle written into the buffer after those that are built.
-- Assumes nothing.
use Prim.Native.Nat.{ℕ, ◌+◌, ◌*◌, ◌≤◌, ◌<◌}
use native.Mathlib.Omega.{arith}
use mathlib.Core.List.{List, [], ◌∷◌, ◌++◌}
use mathlib.Core.Path.{◌≡◌, ap, ◌∙◌}
use lib.ListN.{length, take}
use Rattle.rules.specs.declared.Triangle.{Triangle}
use Rattle.rules.specs.declared.Counts.{Counts}
use Rattle.rules.specs.Unpack.{numbers_of}
use Rattle.rules.specs.Build.{with_triangle}
use Rattle.counting.proofs.Triangles.{written_front, written_past}
use Rattle.unpack_theory.specs.Runs.{Beyond}

module _ (ts : List ℕ) (n : ℕ) (t : Triangle) (h : 3 * n + 3 ≤ length ts) where
  pub numbers_more : (us : List Triangle) → take (3 * n) ts ≡ numbers_of us
      → take (3 * (n + 1)) (with_triangle n t ts) ≡ numbers_of (t ∷ us)
  unfolding numbers_of
  numbers_more us e =
      let i : 3 * (n + 1) ≡ 3 * n + 3 = omega arith in
      ap (λ (k : ℕ). take k (with_triangle n t ts)) i ∙ written_front ts n t h ∙ ap (λ (l : List ℕ). l ++ (t.p ∷ (t.q ∷ (t.r ∷ [])))) e

  pub beyond_written : (c : Counts) → n < c.triangles → Beyond c ts (with_triangle n t ts)
  beyond_written c l = written_past ts n t h (3 * c.triangles) (omega (arith, l))
