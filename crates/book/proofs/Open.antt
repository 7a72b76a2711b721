-- The loops' open edges are the model's.
-- Assumes nothing.
use Prim.Native.Nat.{ℕ, zero, suc, ◌+◌, ◌*◌, ◌≤◌}
use native.Mathlib.Omega.{arith}
use mathlib.Core.Path.{◌≡◌}
use lib.Dec.{eqb-suc-zero}
use Rattle.rules.specs.Count.{count, uses}
use Rattle.rules.specs.Book.{Book, open_if, model_open}
use Rattle.book.specs.Sums.{open_edges}
use Rattle.book.specs.Consistent.{Consistent}

-- the edge equation for one edge, solved for the places where it is open
open_number : (o c u v : ℕ) → u ≤ 1 → v ≤ 1 → o + c + u * v ≡ u → o ≡ open_if u v c
open_number o c zero v h k e = omega arith
open_number o zero (suc zero) zero h k e = omega arith
open_number o (suc c) (suc zero) zero h k e = rw (eqb-suc-zero c) (omega arith)
open_number o c (suc zero) (suc zero) h k e = omega arith
open_number o c (suc zero) (suc (suc v)) h k e = absurd (omega arith)
open_number o c (suc (suc u)) v h k e = absurd (omega arith)

pub open_edges_exact : (b : Book) → Consistent b → (x y : ℕ)
    → open_edges x y b.machine.loops ≡ model_open x y b.machine.triangles b.borders
open_edges_exact b k x y =
    open_number (open_edges x y b.machine.loops) (count x y b.borders) (uses x y b.machine.triangles)
    (uses y x b.machine.triangles)
    (k.once x y) (k.once y x) (k.all x y)
