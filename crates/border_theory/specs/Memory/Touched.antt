-- The records that an operation touches: those that it writes, and the free ones that its new places take. What leaves is put on the
-- stack of free places, after those that were there.
-- Assumes nothing.
use Rattle.std.specs.Prelude.{ℕ, zero, suc, ◌+◌, ◌-◌, ◌*◌, ◌≤◌, ◌<◌, List, [], ◌∷◌, ◌≡◌, length, get_or, set}
use Rattle.rules.specs.declared.Operation.{Operation}
use Rattle.rules.specs.declared.Operation.TheVariants.{New, Forward, Backward, Border, Split, Close, Union, Start}
use Rattle.cutborder.specs.declared.Loops.{Loops}
use Rattle.cutborder.specs.declared.Touched.{Touched}
use Rattle.border_theory.specs.Memory.Layout.{at, before_of, after_of}
use Rattle.rules.specs.Count.{occurs}
use Rattle.rules.specs.Places.{rings_after}
use Rattle.book.specs.Sums.{placed}
use Rattle.border_theory.specs.Records.Plain.{core_size}
use Rattle.border_theory.specs.Memory.Stands.{rings_in}
use Rattle.border_theory.specs.Memory.Moves.{Held, top_free}

-- the free places that it takes, in the order in which it numbers its new places
abbrev pub taken_by : ℕ → Loops → List ℕ → Operation → List ℕ
taken_by n s m New = top_free n s m ∷ []
taken_by n s m Forward = []
taken_by n s m Backward = []
taken_by n s m Border = []
taken_by n s m (Split i) = top_free n s m ∷ []
taken_by n s m Close = []
taken_by n s m (Union p j) = top_free n s m ∷ []
taken_by n s m Start = at m (4 * n + (s.free - 1)) ∷ (at m (4 * n + (s.free - 2)) ∷ (at m (4 * n + (s.free - 3)) ∷ []))

-- the places whose records it writes, where c is its plan's place
abbrev pub touched_by : ℕ → Loops → List ℕ → Operation → ℕ → List ℕ
touched_by n s m New c = s.current ∷ (after_of m s.current ∷ (top_free n s m ∷ []))
touched_by n s m Forward c = s.current ∷ (after_of m (after_of m s.current) ∷ [])
touched_by n s m Backward c = before_of m s.current ∷ (after_of m s.current ∷ [])
touched_by n s m Border c =
    before_of m s.current ∷ (s.current ∷ (after_of m s.current ∷ (after_of m (after_of m s.current) ∷ [])))
touched_by n s m (Split i) c = s.current ∷ (after_of m s.current ∷ (c ∷ (before_of m c ∷ (top_free n s m ∷ []))))
touched_by n s m Close c = []
touched_by n s m (Union p j) c = s.current ∷ (after_of m s.current ∷ (c ∷ (before_of m c ∷ (top_free n s m ∷ []))))
touched_by n s m Start c = at m (4 * n + (s.free - 1)) ∷ (at m (4 * n + (s.free - 2)) ∷ (at m (4 * n + (s.free - 3)) ∷ []))

-- the places touched, as the core's functions hand them on
abbrev pub listed : List ℕ → Touched
listed xs = record {
  count = length xs;
  first = get_or xs 0 0;
  second = get_or xs 1 0;
  third = get_or xs 2 0;
  fourth = get_or xs 3 0;
  fifth = get_or xs 4 0;
}

-- the note of them in the plain memory, and of the part of the stack from k to l
unfoldable pub noted : List ℕ → Touched → ℕ → ℕ → List ℕ
noted m t k l =
    let m₁ = set (set m core_size t.count) (core_size + 1) t.first in
    let m₂ = set (set m₁ (core_size + 2) t.second) (core_size + 3) t.third in
    let m₃ = set (set m₂ (core_size + 4) t.fourth) (core_size + 5) t.fifth in
    set (set m₃ (core_size + 6) k) (core_size + 7) l

-- i is none of these
abbrev pub NoneOf : ℕ → List ℕ → Type 0
NoneOf i [] = Unit {0}
NoneOf i (x ∷ xs) = (i ≡ x → ⊥) × NoneOf i xs

-- a memory in which the records of these places may have changed, and no other
pub record OnlyAt (n : ℕ) (xs m m' : List ℕ) : Type 0 where
  pub others : (i k : ℕ) → i < n → k < 4 → NoneOf i xs → at m' (4 * i + k) ≡ at m (4 * i + k)

-- the vertices of these places may have changed, and no other
pub record VerticesAt (n : ℕ) (xs m m' : List ℕ) : Type 0 where
  pub others : (i : ℕ) → i < n → NoneOf i xs → at m' (4 * i) ≡ at m (4 * i)

-- the rings of places are the table's, with the free places that are taken as its new ones, and what stays on the stack stays as it is
pub record Rearranged (n : ℕ) (s : Loops) (m : List ℕ) (o : Operation) (h : Held) : Type 0 where
  pub rings : rings_in n h.loops h.memory ≡ rings_after o (taken_by n s m o) (rings_in n s m)
  pub stack : (j : ℕ) → j < s.free → j < h.loops.free → at h.memory (4 * n + j) ≡ at m (4 * n + j)

-- the c places of the stack from a on, the latest first
unfoldable pub stack_part : ℕ → List ℕ → ℕ → ℕ → List ℕ
stack_part n m a zero = []
stack_part n m a (suc c) = at m (4 * n + (a + c)) ∷ stack_part n m a c

-- the places that leave: those put on the stack
abbrev pub leavers : ℕ → Loops → Held → List ℕ
leavers n s h = stack_part n h.memory s.free (h.loops.free - s.free)

-- What an operation leaves of the records: the rings of places are the table's; only the records that it touches change, and of the
-- vertices those of the places that it takes, which were free; what it touches was in a loop or is taken; and the places before it and
-- those that it takes are the places after it and those that leave.
pub record Tidy (n : ℕ) (s : Loops) (m : List ℕ) (o : Operation) (h : Held) (touched : List ℕ) : Type 0 where
  pub rings : rings_in n h.loops h.memory ≡ rings_after o (taken_by n s m o) (rings_in n s m)
  pub free : (x : ℕ) → 1 ≤ occurs x (taken_by n s m o) → (placed x (rings_in n s m) ≡ 0) × (x < n)
  pub only : OnlyAt n touched m h.memory
  pub named : VerticesAt n (taken_by n s m o) m h.memory
  pub inside : (i : ℕ) → placed i (rings_in n s m) ≡ 0 → NoneOf i (taken_by n s m o) → NoneOf i touched
  -- it takes places, or places leave, or neither
  pub apart : (x : ℕ) → 1 ≤ occurs x (taken_by n s m o) → occurs x (leavers n s h) ≡ 0
  pub balance : (x : ℕ)
      → placed x (rings_in n s m) + occurs x (taken_by n s m o) ≡ placed x (rings_in n h.loops h.memory) + occurs x (leavers n s h)
