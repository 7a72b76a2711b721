-- One record of the plain memory: what is stored is read, and the other records are as they were.
-- Assumes nothing.
use Prim.Native.Nat.{ℕ, ◌+◌, ◌*◌, ◌<◌}
use native.Mathlib.Omega.{arith}
use mathlib.Core.Path.{◌≡◌, ap, ◌∙◌}
use mathlib.Core.Bool.{Bool}
use mathlib.Core.List.{List}
use lib.ListN.{length, get_or, set, length-set}
use lib.Seq.{lt-length-set, get_or-set_same, get_or-set_other}
use Rattle.rules.specs.declared.Place.{Place}
use Rattle.border_theory.specs.Records.Plain.{number_of, is_one, stored_at, record_at}
use Rattle.border_theory.proofs.Records.Settling.{number_one}

-- the plain memory after one, two and three of a record's stores
abbrev pub one : List ℕ → ℕ → Place → List ℕ
one m i p = set m (4 * i) p.vertex

abbrev pub two : List ℕ → ℕ → Place → List ℕ
two m i p = set (one m i p) (4 * i + 1) p.before

abbrev pub three : List ℕ → ℕ → Place → List ℕ
three m i p = set (two m i p) (4 * i + 2) p.after

pub length_stored : (m : List ℕ) (i : ℕ) (p : Place) → length (stored_at m i p) ≡ length m
unfolding stored_at
length_stored m i p =
    length-set (three m i p) (4 * i + 3) (number_of p.«open») ∙ length-set (two m i p) (4 * i + 2) p.after
    ∙ length-set (one m i p) (4 * i + 1) p.before ∙ length-set m (4 * i) p.vertex

-- a number that is none of record i's
pub number_other : (m : List ℕ) (i : ℕ) (p : Place) (j : ℕ) → (j ≡ 4 * i → ⊥) → (j ≡ 4 * i + 1 → ⊥) → (j ≡ 4 * i + 2 → ⊥)
    → (j ≡ 4 * i + 3 → ⊥) → get_or (stored_at m i p) j 0 ≡ get_or m j 0
unfolding stored_at
number_other m i p j h₀ h₁ h₂ h₃ =
    get_or-set_other (three m i p) (4 * i + 3) j (number_of p.«open») 0 h₃ ∙ get_or-set_other (two m i p) (4 * i + 2) j p.after 0 h₂
    ∙ get_or-set_other (one m i p) (4 * i + 1) j p.before 0 h₁ ∙ get_or-set_other m (4 * i) j p.vertex 0 h₀

-- another record is as it was
pub record_other : (m : List ℕ) (i : ℕ) (p : Place) (j : ℕ) → (j ≡ i → ⊥) → record_at (stored_at m i p) j ≡ record_at m j
record_other m i p j h t = record {
  vertex =
      number_other m i p (4 * j) (λ e. h (omega (arith, e))) (λ e. absurd (omega (arith, e))) (λ e. absurd (omega (arith, e)))
      (λ e. absurd (omega (arith, e))) t;
  before =
      number_other m i p (4 * j + 1) (λ e. absurd (omega (arith, e))) (λ e. h (omega (arith, e))) (λ e. absurd (omega (arith, e)))
      (λ e. absurd (omega (arith, e))) t;
  after =
      number_other m i p (4 * j + 2) (λ e. absurd (omega (arith, e))) (λ e. absurd (omega (arith, e))) (λ e. h (omega (arith, e)))
      (λ e. absurd (omega (arith, e))) t;
  «open» =
      ap is_one
      (number_other m i p (4 * j + 3) (λ e. absurd (omega (arith, e))) (λ e. absurd (omega (arith, e))) (λ e. absurd (omega (arith, e)))
      (λ e. h (omega (arith, e)))) t;
}

-- the four numbers that are stored
vertex_same : (m : List ℕ) (i : ℕ) (p : Place) → 4 * i + 3 < length m → get_or (stored_at m i p) (4 * i) 0 ≡ p.vertex
unfolding stored_at
vertex_same m i p h =
    get_or-set_other (three m i p) (4 * i + 3) (4 * i) (number_of p.«open») 0 (λ e. omega (arith, e))
    ∙ get_or-set_other (two m i p) (4 * i + 2) (4 * i) p.after 0 (λ e. omega (arith, e))
    ∙ get_or-set_other (one m i p) (4 * i + 1) (4 * i) p.before 0 (λ e. omega (arith, e))
    ∙ get_or-set_same m (4 * i) p.vertex 0 (omega (arith, h))

before_same : (m : List ℕ) (i : ℕ) (p : Place) → 4 * i + 3 < length m → get_or (stored_at m i p) (4 * i + 1) 0 ≡ p.before
unfolding stored_at
before_same m i p h =
    get_or-set_other (three m i p) (4 * i + 3) (4 * i + 1) (number_of p.«open») 0 (λ e. omega (arith, e))
    ∙ get_or-set_other (two m i p) (4 * i + 2) (4 * i + 1) p.after 0 (λ e. omega (arith, e))
    ∙ get_or-set_same (one m i p) (4 * i + 1) p.before 0 (lt-length-set m (4 * i) p.vertex (omega (arith, h)))

after_same : (m : List ℕ) (i : ℕ) (p : Place) → 4 * i + 3 < length m → get_or (stored_at m i p) (4 * i + 2) 0 ≡ p.after
unfolding stored_at
after_same m i p h =
    get_or-set_other (three m i p) (4 * i + 3) (4 * i + 2) (number_of p.«open») 0 (λ e. omega (arith, e))
    ∙ get_or-set_same (two m i p) (4 * i + 2) p.after 0
    (lt-length-set (one m i p) (4 * i + 1) p.before (lt-length-set m (4 * i) p.vertex (omega (arith, h))))

open_same : (m : List ℕ) (i : ℕ) (p : Place) → 4 * i + 3 < length m → get_or (stored_at m i p) (4 * i + 3) 0 ≡ number_of p.«open»
unfolding stored_at
open_same m i p h =
    get_or-set_same (three m i p) (4 * i + 3) (number_of p.«open») 0
    (lt-length-set (two m i p) (4 * i + 2) p.after
    (lt-length-set (one m i p) (4 * i + 1) p.before (lt-length-set m (4 * i) p.vertex h)))

-- the record that was stored
pub record_same : (m : List ℕ) (i : ℕ) (p : Place) → 4 * i + 3 < length m → record_at (stored_at m i p) i ≡ p
record_same m i p h t = record {
  vertex = vertex_same m i p h t;
  before = before_same m i p h t;
  after = after_same m i p h t;
  «open» = (ap is_one (open_same m i p h) ∙ number_one p.«open») t;
}

-- three numbers read, and a flag that is the fourth
abbrev pub flagged : List ℕ → ℕ → Bool → Place
flagged m i b = record { vertex = get_or m (4 * i) 0; before = get_or m (4 * i + 1) 0; after = get_or m (4 * i + 2) 0; «open» = b }
