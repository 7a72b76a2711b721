-- What the functions on the memory ask for, so that none of them reads or writes outside it.
-- Assumes nothing.
use Rattle.std.specs.Prelude.{ℕ, ◌+◌, ◌-◌, ◌*◌, ◌≤◌, ◌<◌, List, length}
use Rattle.rules.specs.Limits.{max_places}
use Rattle.cutborder.specs.declared.Loops.{Loops}
use Rattle.border_theory.specs.Memory.Layout.{at, before_of, walked}
use Rattle.border_theory.specs.Memory.Moves.{top_free, next_cut, both_cut}

-- a loop is live, and the places along its links and those of the waiting loops are below n
pub record Near (n : ℕ) (l : Loops) (m : List ℕ) : Type 0 where
  pub few : n ≤ max_places
  pub live : 1 ≤ l.live
  pub long : 5 * n + 2 * l.live ≤ length m
  pub some : 1 ≤ l.size
  pub room : l.free + l.size ≤ n
  pub ahead : (j : ℕ) → j ≤ l.size + 1 → walked m j l.current < n
  pub behind : before_of m l.current < n
  pub top : 1 ≤ l.free → top_free n l m < n
  -- the loop that waits at w
  pub waiting : (w : ℕ) → w + 2 ≤ l.live → (j : ℕ) → j < at m (5 * n + 2 * w + 1) → walked m j (at m (5 * n + 2 * w)) < n
  pub sizes : (w : ℕ) → w + 2 ≤ l.live → at m (5 * n + 2 * w + 1) ≤ n

-- an edge that can be marked: also after one place or two have left
pub record Borders (n : ℕ) (l : Loops) (m : List ℕ) : Type 0 where
  pub near : Near n l m
  pub next : Near n (next_cut n l m).loops (next_cut n l m).memory
  pub last : Near n (both_cut n l m).loops (both_cut n l m).memory

-- a place c that can get a second one
pub record Doubles (n : ℕ) (l : Loops) (m : List ℕ) (c : ℕ) : Type 0 where
  pub some : 1 ≤ l.free
  pub place : c < n
  pub before : before_of m c < n

-- three free places, and no live loop
pub record Starts (n : ℕ) (l : Loops) (m : List ℕ) : Type 0 where
  pub few : n ≤ max_places
  pub some : 3 ≤ l.free
  pub room : l.free ≤ n
  pub long : 5 * n ≤ length m
  pub first : at m (4 * n + (l.free - 1)) < n
  pub second : at m (4 * n + (l.free - 2)) < n
  pub third : at m (4 * n + (l.free - 3)) < n
