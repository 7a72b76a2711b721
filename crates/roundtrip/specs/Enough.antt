-- The count that `unpack` gives its run is enough: the run never ends because it runs out. proofs/Enough.antt proves it.
-- Assumes nothing.
use Rattle.std.specs.Prelude.{ℕ, zero, suc, ◌*◌, ◌<◌, true, false, List, ◌≡◌, length}
use Rattle.rules.specs.declared.Counts.{Counts}
use Rattle.rules.specs.Code.{breaks_off, read, read_operation}
use Rattle.rules.specs.Bits.{bits_of_bytes}
use Rattle.rules.specs.Machine.{Machine, empty, refused, begun, built, declared, finished, operation, complete}
use Rattle.rules.specs.Unpack.{Ran, stopped, completed, run_all, run_of}

-- `run_all`, but that it comes to x where its count runs out
unfoldable pub run_or : Ran → ℕ → Machine → List ℕ → Ran
run_or x zero m xs = x
run_or x (suc n) m xs =
    elim (complete m) [
      | true ↦ completed m xs
      | false ↦ elim (read_operation xs) [
        | breaks_off ↦ stopped 15
        | read o ys ↦ elim (operation m o) [
          | refused k ↦ stopped k
          | begun m' ↦ stopped 16
          | built t m' ↦ run_or x n m' ys
          | declared d m' ↦ run_or x n m' ys
          | finished y ↦ stopped 16
        ]
      ]
    ]

-- Of any bytes, for any counts:
pub record CountIsEnough : Type 0 where
  -- `run_all` comes to 15 where its count runs out
  pub out_is_15 : (n : ℕ) (m : Machine) (xs : List ℕ) → run_all n m xs ≡ run_or (stopped 15) n m xs
  -- with the count that `unpack` gives it, one above the number of bits, it never runs out: it comes to the same whatever x is
  pub never_out : (x : Ran) (s : Counts) (ops : List ℕ)
      → run_or x (suc (length (bits_of_bytes ops))) (empty s) (bits_of_bytes ops) ≡ run_of s ops
  -- nor with any other count above a third of that number, since each operation takes three bits or more
  pub any_count : (x : Ran) (n : ℕ) (s : Counts) (ops : List ℕ) → length (bits_of_bytes ops) < 3 * n
      → run_or x n (empty s) (bits_of_bytes ops) ≡ run_of s ops
