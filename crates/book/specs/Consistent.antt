-- What holds of the book (a term of the rules) after any list of calls: how the loops' edges, the triangles and the edges declared
-- border fit together, the Euler sum, and the bounds on the counts that 21 asks for.
-- Assumes nothing.
use Rattle.std.specs.Prelude.{ℕ, ◌+◌, ◌*◌, ◌≤◌, ◌<◌, true, false, List, [], ◌∷◌, ◌≡◌, length}
use Rattle.rules.specs.Limits.{in_range}
use Rattle.rules.specs.Triangle.{corners, edges_of}
use Rattle.rules.specs.Count.{occurs, count, uses, different, pairs}
use Rattle.rules.specs.Ring.{Ring, first_open}
use Rattle.rules.specs.Machine.{Machine, within}
use Rattle.rules.specs.Book.{Book}
use Rattle.book.specs.Spaced.{Spaced}
use Rattle.book.specs.Sums.{open_edges}
use Rattle.book.specs.Numbers.{LoopsBelow}

-- a loop has two places or more, its current edge is open, and none of its places has both edges marked
pub record Sound (l : Ring) : Type 0 where
  pub long : 2 ≤ length l
  pub current : first_open l ≡ true
  pub spaced : Spaced l false

abbrev pub AllSound : List Ring → Type 0
AllSound [] = Unit {0}
AllSound (l ∷ ls) = Sound l × AllSound ls

-- the current edge of each loop is open, and no place has both edges marked; a loop may have one place, which no list of calls leads
-- to, but 21 lets pass
abbrev pub AllCurrent : List Ring → Type 0
AllCurrent [] = Unit {0}
AllCurrent (l ∷ ls) = (first_open l ≡ true) × AllCurrent ls × Spaced l false

pub record Consistent (b : Book) : Type 0 where
  -- the numbers in triangles are those below `used`
  pub below : (v : ℕ) → 1 ≤ occurs v (corners b.machine.triangles) → v < b.machine.used
  pub each : (v : ℕ) → v < b.machine.used → 1 ≤ occurs v (corners b.machine.triangles)
  pub vertices : different (corners b.machine.triangles) ≡ b.machine.used
  -- no directed edge is used twice
  pub once : (x y : ℕ) → uses x y b.machine.triangles ≤ 1
  -- no edge leads from a vertex to itself
  pub proper : (x : ℕ) → uses x x b.machine.triangles ≡ 0
  -- a used edge is open at one place, or declared border once, or its opposite is used, and only one of the three
  pub all : (x y : ℕ)
      → open_edges x y b.machine.loops + count x y b.borders + uses x y b.machine.triangles * uses y x b.machine.triangles
      ≡ uses x y b.machine.triangles
  -- the loops' vertices too are below `used`; a marked edge may be a link, which is no edge of the model
  pub low : LoopsBelow b.machine.used b.machine.loops
  pub loops : AllSound b.machine.loops
  pub edges : b.machine.edges ≡ pairs (edges_of b.machine.triangles)
  -- vertices - edges + triangles + live loops + rims = 2 starts - 2 unions
  pub euler : b.machine.used + length b.machine.triangles + length b.machine.loops + b.machine.rims + 2 * b.machine.unions
      ≡ b.machine.edges + 2 * b.machine.starts

-- 21's bounds on the counts
pub record Ranges (m : Machine) : Type 0 where
  pub stated : in_range m.stated ≡ true
  pub counts : within m ≡ true
  pub places : m.most_places ≤ m.stated.places
  pub loops : m.most_loops ≤ m.stated.loops
  pub edges : m.edges ≤ 3 * m.stated.triangles
  pub starts : m.starts ≤ 3 * m.stated.triangles
  pub unions : m.unions ≤ 3 * m.stated.triangles
  pub rims : m.rims ≤ 3 * m.stated.triangles
