-- What holds throughout a reading: the bytes keep a machine, and the sum is that of the machine's triangles.
-- Assumes nothing.
use Rattle.std.specs.Prelude.{ℕ, ◌+◌, ◌-◌, ◌*◌, ◌≤◌, ◌<◌, true, false, List, [], ◌≡◌, ℤ, nat_abs, ◌+ℤ◌, length, eqb}
use Rattle.std.specs.Prelude.{Result, Ok, Err}
use Rattle.rules.specs.declared.refusal.Refusal.{Refusal}
use Rattle.rules.specs.Refusal.{number_of}
use Rattle.rules.specs.declared.Counts.{Counts}
use Rattle.rules.specs.declared.Triangle.{Triangle}
use Rattle.rules.specs.Limits.{furnace_places, in_range}
use Rattle.rules.specs.Triangle.{Edge}
use Rattle.rules.specs.Grid.{positions_from}
use Rattle.rules.specs.Volume.{six_volumes}
use Rattle.rules.specs.Later.{Given, not_given, given}
use Rattle.rules.specs.Machine.{Machine}
use Rattle.rules.specs.Unpack.{Ran, stopped, completed}
use Rattle.rules.specs.Furnace.{peaks_fit, run_freely, run_freely_of}
use Rattle.book.specs.Numbers.{LoopsBelow}
use Rattle.book.specs.Bounded.{Bounded}
use Rattle.volume_theory.specs.Near.{largest, limit64, HasCorners, determinant_of}
use Rattle.unpack_theory.specs.Runs.{bits_from}
use Rattle.cutborder.specs.declared.Front.{Front}
use Rattle.cutborder.specs.declared.Melt.{Melt}
use Rattle.border_theory.specs.Memory.Keeps.{Keeps}
use Rattle.cells_theory.specs.Bytes.{numbers, Whole}

-- the bytes bs keep the machine M
pub record Melts (M : Machine) (s : Front) (bs : List ℕ) : Type 0 where
  -- the edges declared border
  pub borders : List Edge
  pub bounded : Bounded (record { machine = M; borders = borders })
  pub keeps : Keeps furnace_places s (numbers bs) M
  pub low : LoopsBelow M.used M.loops
  pub whole : Whole bs

-- a field of positions that is weighed with: that of all vertices stated, or none
abbrev pub Weighable : Counts → List ℕ → Type 0
Weighable c field = (length field ≡ 0 → ⊥) → length field ≡ 6 * c.vertices

-- the positions that are weighed with: those that are given, if they have six bytes for each of v vertices, else none
abbrev pub weighed_part : Given (List ℕ) → ℕ → List ℕ
weighed_part not_given v = []
weighed_part (given bs) v = elim (eqb (length bs) (6 * v)) [ true ↦ bs | false ↦ [] ]

-- a triangle can be weighed, and is
pub record Weighs (field : List ℕ) (t : Triangle) (six : ℤ) : Type 0 where
  pub corners : (length field ≡ 0 → ⊥) → HasCorners t field
  pub room : largest + nat_abs six < limit64

pub record WeighsTo (field : List ℕ) (t : Triangle) (six z : ℤ) : Type 0 where
  pub sum : z ≡ determinant_of (positions_from field) t +ℤ six
  pub amount : nat_abs z ≤ largest + nat_abs six

-- the sum over the triangles built
pub record Weighed (field : List ℕ) (ts : List Triangle) (six : ℤ) : Type 0 where
  pub sum : six ≡ six_volumes (positions_from field) ts
  pub amount : nat_abs six ≤ largest * length ts

-- the machine that a reading has come to
pub record Held (field : List ℕ) (p : Melt) (bs : List ℕ) : Type 0 where
  pub machine : Machine
  pub melts : Melts machine p.front bs
  pub weighed : Weighed field machine.triangles p.six

-- the run of the operations
abbrev pub run_in : List ℕ → Melt → Ran
run_in ops p = run_freely_of p.front.stated ops

-- a reading that goes on: so many operations may still be read
pub record Going (ops field : List ℕ) (left : ℕ) (p : Melt) (bs : List ℕ) : Type 0 where
  pub held : Held field p bs
  pub ran : run_in ops p ≡ run_freely left held.machine (bits_from ops p.at)

-- the same where that is more than there are bits left
pub record GoingOn (ops field : List ℕ) (left : ℕ) (p : Melt) (bs : List ℕ) : Type 0 where
  pub held : Held field p bs
  pub ran : run_in ops p ≡ run_freely left held.machine (bits_from ops p.at)
  pub enough : length (bits_from ops p.at) < left

-- one that has completed its model
pub record Done (ops field : List ℕ) (p : Melt) (bs : List ℕ) : Type 0 where
  pub held : Held field p bs
  pub ran : run_in ops p ≡ completed held.machine (bits_from ops p.at)

-- what the next operation comes to, where so many could be read
abbrev pub TurnedTo : List ℕ → List ℕ → ℕ → Melt → Result Melt Refusal → List ℕ → Type 0
TurnedTo ops field left p (Ok q) bs = Going ops field (left - 1) q bs × (q.front.stated ≡ p.front.stated)
TurnedTo ops field left p (Err e) bs = run_in ops p ≡ stopped (number_of e)

abbrev pub Turned : List ℕ → List ℕ → Melt → List ℕ → Result Melt Refusal → List ℕ → Type 0
Turned ops field p bs r bs' = (left : ℕ) → 0 < left → Going ops field left p bs → TurnedTo ops field left p r bs'

-- the same where more could be read than there are bits left: it is read further on and in the bytes
abbrev pub TurnedOnTo : List ℕ → List ℕ → ℕ → Melt → Result Melt Refusal → List ℕ → Type 0
TurnedOnTo ops field left p (Ok q) bs =
    GoingOn ops field (left - 1) q bs × (q.front.stated ≡ p.front.stated) × (p.at < q.at) × (q.at ≤ 8 * length ops)
TurnedOnTo ops field left p (Err e) bs = run_in ops p ≡ stopped (number_of e)

abbrev pub TurnedOn : List ℕ → List ℕ → Melt → List ℕ → Result Melt Refusal → List ℕ → Type 0
TurnedOn ops field p bs r bs' = (left : ℕ) → GoingOn ops field left p bs → TurnedOnTo ops field left p r bs'

-- what a run of all operations comes to
abbrev pub Comes : Counts → List ℕ → List ℕ → Result Melt Refusal → List ℕ → Type 0
Comes c ops field (Ok p) bs = Done ops field p bs × (p.front.stated ≡ c)
Comes c ops field (Err e) bs = run_freely_of c ops ≡ stopped (number_of e)

-- a run that has completed its model, in some bytes, with the positions that are weighed with
pub record Completes (ops : List ℕ) (ps : Given (List ℕ)) (p : Melt) : Type 0 where
  pub bytes : List ℕ
  pub done : Done ops (weighed_part ps p.front.stated.vertices) p bytes

-- what a reading begins with, past 26
pub record Begins (c : Counts) (ops field bs : List ℕ) : Type 0 where
  pub ranges : in_range c ≡ true
  pub peaks : peaks_fit c ≡ true
  pub short : length ops < 65536
  pub weighable : Weighable c field
  pub whole : Whole bs
