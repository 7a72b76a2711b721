-- The builder's state that the core's state and memory are given back as.
-- Assumes nothing.
use Rattle.std.specs.Prelude.{ℕ, zero, suc, ◌+◌, ◌*◌, List, set, replicate}
use Rattle.rules.specs.declared.Builder.{Builder}
use Rattle.rules.specs.Limits.{max_places, max_loops}
use Rattle.cutborder.specs.declared.Front.{Front}
use Rattle.border_theory.specs.Memory.Layout.{at}

-- a number of each of the first k waiting loops, the oldest first: the first loop's stands at a, the next ones' two further on each
unfoldable pub waiting_row : List ℕ → ℕ → ℕ → List ℕ
waiting_row m a zero = replicate max_loops 0
waiting_row m a (suc k) = set (waiting_row m a k) k (at m (a + 2 * k))

-- the same of all live loops: the current one, whose number is x, comes last
unfoldable pub live_row : List ℕ → ℕ → ℕ → ℕ → List ℕ
live_row m a zero x = replicate max_loops 0
live_row m a (suc k) x = set (waiting_row m a k) k x

-- the waiting loops' numbers stand from here on
abbrev pub waiting_at : ℕ
waiting_at = 5 * max_places

unfoldable pub builder_of : Front → List ℕ → Builder
builder_of f m = record {
  stated = f.stated;
  used = f.used;
  built = f.built;
  peaks = f.peaks;
  edges = f.edges;
  starts = f.starts;
  unions = f.unions;
  rims = f.rims;
  live = f.loops.live;
  current = live_row m waiting_at f.loops.live f.loops.current;
  sizes = live_row m (waiting_at + 1) f.loops.live f.loops.size;
}
