-- How the loops stand in the memory: the rings of places that the state and the memory have, and what must hold of them.
-- Assumes nothing.
use Rattle.std.specs.Prelude.{ℕ, zero, suc, ◌+◌, ◌*◌, ◌≤◌, List, [], ◌∷◌, ◌≡◌, length, ltb}
use Rattle.rules.specs.Count.{num}
use Rattle.rules.specs.Ring.{Ring, start_or}
use Rattle.book.specs.Consistent.{AllCurrent}
use Rattle.book.specs.Sums.{placed}
use Rattle.border_theory.specs.Links.Held.{read, Holds, named_loops}
use Rattle.cutborder.specs.declared.Loops.{Loops}
use Rattle.border_theory.specs.Memory.Layout.{at, vertices_of, links_of, stacked}

-- the first k waiting loops, the latest first; all loops, the current one first: rings of places
unfoldable pub waiting_in : ℕ → List ℕ → ℕ → List Ring
waiting_in n m zero = []
waiting_in n m (suc k) = read (links_of n m) (at m (5 * n + 2 * k + 1)) (at m (5 * n + 2 * k)) ∷ waiting_in n m k

unfoldable pub live_in : ℕ → Loops → List ℕ → ℕ → List Ring
live_in n s m zero = []
live_in n s m (suc k) = read (links_of n m) s.size s.current ∷ waiting_in n m k

abbrev pub rings_in : ℕ → Loops → List ℕ → List Ring
rings_in n s m = live_in n s m s.live

-- the loops: the rings named by their places' vertices
abbrev pub loops_in : ℕ → Loops → List ℕ → List Ring
loops_in n s m = named_loops (vertices_of n m) (rings_in n s m)

-- these loops, the latest first, wait in the memory
abbrev pub Waits : ℕ → List ℕ → List Ring → Type 0
Waits n m [] = Unit {0}
Waits n m (w ∷ ws) = (at m (5 * n + 2 * length ws) ≡ start_or 0 w) × (at m (5 * n + 2 * length ws + 1) ≡ length w) × Waits n m ws

-- the state and the memory name these loops
pub record Heads (n : ℕ) (s : Loops) (m : List ℕ) (l : Ring) (ws : List Ring) : Type 0 where
  pub live : s.live ≡ suc (length ws)
  pub current : s.current ≡ start_or 0 l
  pub size : s.size ≡ length l
  pub waiting : Waits n m ws

abbrev pub Named : ℕ → Loops → List ℕ → List Ring → Type 0
Named n s m [] = s.live ≡ 0
Named n s m (l ∷ ws) = Heads n s m l ws

-- the rings of places rs stand in the memory
pub record StandsAt (n : ℕ) (s : Loops) (m : List ℕ) (rs : List Ring) : Type 0 where
  pub long : 5 * n + 2 * s.live ≤ length m
  pub holds : Holds (links_of n m) rs
  -- each place below n is in one loop, once, or on the stack of free places, once; no other number is
  pub each : (x : ℕ) → placed x rs + stacked n m s.free x ≡ num (ltb x n)
  pub heads : Named n s m rs
  -- a loop may have one place; none has a place between two marked edges
  pub sound : AllCurrent rs

abbrev pub Stands : ℕ → Loops → List ℕ → Type 0
Stands n s m = StandsAt n s m (rings_in n s m)
