-- Packing with n place records, of which only the number counts.
-- Assumes nothing.
use Rattle.std.specs.Prelude.{ℕ, ◌≤◌, true, false, List, ◌≡◌, length, replicate, drop}
use Rattle.rules.specs.Packed.{Packed}
use Rattle.rules.specs.Packed as P
use Rattle.rules.specs.Checked.{Accepted}
use Rattle.rules.specs.Limits.{max_places, max_triangles}
use Rattle.rules.specs.Triangle.{triangles_of}
use Rattle.rules.specs.Check.{check}
use Rattle.rules.specs.Answer.{packed_answer}
use Rattle.rules.specs.Buffer.{free_place}
use Rattle.rules.specs.Limits.{between}
use Rattle.rules.specs.Pack.{most, nothing_built, chosen_for, order_for, PackBuffers, PackResult, pack_chosen, pack}
use Rattle.border_theory.specs.Records.Plain.{core_size}
use Rattle.border_theory.specs.Memory.Fresh.{fresh_front}
use Rattle.mesh_theory.specs.Chains.Linked.{Linked}
use Rattle.cutborder.specs.declared.Course.{Course}
use Rattle.pack_theory.specs.Packing.Doing.{stated_for}
use Rattle.pack_theory.specs.Packing.Course.{Holds}

abbrev pub lent : ℕ → List ℕ → List ℕ → List ℕ → PackBuffers
lent n ns bs qs = record { numbering = ns; places = replicate n free_place; pack = bs; order = qs }

abbrev pub pack_on : ℕ → List ℕ → ℕ → List ℕ → List ℕ → List ℕ → PackResult
pack_on v xs n ns bs qs = pack v xs (lent n ns bs qs)

-- how many place records a packing clears, read off its answer: the first 1,024 after 9 to 11 and where it is accepted, else none
abbrev pub cleared_by : Packed → ℕ
cleared_by (P.Length n) = max_places
cleared_by (P.Refused k) = elim (between 9 k 11) [ true ↦ max_places | false ↦ 0 ]

-- the answer r, and the numbering, the pack buffer and the order afterwards, are those of a result of the rules
pub record IsResult (p : PackResult) (r : Packed) (ns bs qs : List ℕ) : Type 0 where
  pub answer : packed_answer r ≡ p.answer
  pub numbering : ns ≡ p.buffers.numbering
  pub bytes : bs ≡ p.buffers.pack
  pub order : qs ≡ p.buffers.order

-- a packing of any list, in any buffers
abbrev pub PackedOn : ℕ → List ℕ → List ℕ → List ℕ → List ℕ → ℕ → Packed → List ℕ → List ℕ → List ℕ → Type 0
PackedOn v xs ns bs qs n r ns' bs' qs' = IsResult (pack_on v xs n ns bs qs) r ns' bs' qs'

-- a list and a numbering that get past 8, and the plain memory
pub record Fitting (v : ℕ) (xs cs ns m : List ℕ) : Type 0 where
  pub accepted : check v xs ≡ Accepted
  pub linked : Linked xs cs
  pub enough : v ≤ length ns
  pub whole : length m ≡ core_size

-- where the packing of v vertices and k triangles begins
abbrev pub empty_course : ℕ → ℕ → Course
empty_course v k = record { front = fresh_front max_places (stated_for v k); given = 0; lowest = 0 }

-- the packing of an accepted list is about to run
pub record Begins (v : ℕ) (xs cs : List ℕ) (t : Course) (ns m : List ℕ) : Type 0 where
  pub linked : Linked xs cs
  pub holds : Holds v xs (nothing_built most (triangles_of xs)) t (replicate max_triangles 0) ns (drop v ns) m

-- what the rules make of the list's run, with n place records
abbrev pub ran_on : ℕ → List ℕ → ℕ → List ℕ → List ℕ → List ℕ → PackResult
ran_on v xs n ns bs qs =
    pack_chosen v (triangles_of xs) (lent n ns bs qs) (order_for most (triangles_of xs)) (chosen_for most (triangles_of xs))

-- the run, with any number of place records
abbrev pub RunGives : ℕ → List ℕ → List ℕ → List ℕ → List ℕ → Packed → List ℕ → List ℕ → List ℕ → Type 0
RunGives v xs ns bs qs r ns' bs' qs' = (n : ℕ) → IsResult (ran_on v xs n ns bs qs) r ns' bs' qs'
