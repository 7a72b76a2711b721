-- One operation of an unpacking's run, read and done.
-- Assumes nothing.
use Rattle.std.specs.Prelude.{ℕ, List}
use Rattle.rules.specs.Machine.{Machine, Step, refused, begun, built, declared, finished, operation}
use Rattle.rules.specs.Code.{Read, breaks_off, read, read_operation}

-- the refusal's number; or the machine after the operation and the bits that are left
pub data Turn : Type 0 where
  stops : ℕ → Turn
  goes : Machine → List ℕ → Turn

-- what a call comes to, with the bits after the operation
abbrev pub turn_by : List ℕ → Step → Turn
turn_by ys (refused k) = stops k
turn_by ys (begun m) = stops 16
turn_by ys (built t m) = goes m ys
turn_by ys (declared d m) = goes m ys
turn_by ys (finished x) = stops 16

abbrev pub turn_of : Machine → Read → Turn
turn_of m breaks_off = stops 15
turn_of m (read o ys) = turn_by ys (operation m o)

unfoldable pub turn : Machine → List ℕ → Turn
turn m xs = turn_of m (read_operation xs)
