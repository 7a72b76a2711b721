-- Bounds of a book's counts that each operation keeps; those of 21 follow.
-- Assumes nothing.
use Rattle.std.specs.Prelude.{ℕ, ◌+◌, ◌*◌, ◌≤◌, true, List, ◌≡◌, length}
use Rattle.rules.specs.Limits.{in_range}
use Rattle.rules.specs.Count.{num}
use Rattle.rules.specs.Ring.{Ring}
use Rattle.rules.specs.Machine.{within}
use Rattle.rules.specs.Book.{Book}
use Rattle.book.specs.Sums.{loops_sum}

-- the open edges of the loops
abbrev pub opens : List Ring → ℕ
opens ls = loops_sum (λ x y o. num o) ls

pub record Bounded (b : Book) : Type 0 where
  pub stated : in_range b.machine.stated ≡ true
  pub counts : within b.machine ≡ true
  pub places : b.machine.most_places ≤ b.machine.stated.places
  pub loops : b.machine.most_loops ≤ b.machine.stated.loops
  pub edges : b.machine.edges ≤ 3 * length b.machine.triangles
  pub starts : b.machine.starts ≤ length b.machine.triangles
  pub unions : b.machine.unions ≤ length b.machine.triangles
  pub rims : b.machine.rims ≤ length b.borders
  pub borders : opens b.machine.loops + length b.borders ≤ 3 * length b.machine.triangles
