-- What is claimed of the furnace's own reader, beside the service's volume call, each proved under the same name in snake case. That a note
-- makes no difference to it is claimed with the other calls (notes_theory, `NotesMakeNoDifference`).
-- Assumes nothing.
use Rattle.std.specs.Prelude.{ℕ, ◌≤◌, Bool, true, false, List, [], ◌∷◌, ◌↔◌, ◌≡◌, ℤ}
use Rattle.rules.specs.declared.Model.{Model}
use Rattle.rules.specs.Melted.{Melted}
use Rattle.rules.specs.Melted.{Six, Refused}
use Rattle.rules.specs.Limits.{in_range}
use Rattle.rules.specs.Count.{occurs}
use Rattle.rules.specs.Answer.{Answer, refusal, unpacked}
use Rattle.rules.specs.Buffer.{Buffers}
use Rattle.rules.specs.Fields.{Fields, no_pack, fields, fields_of}
use Rattle.rules.specs.Later.{not_given, given, Parts, no_parts, parts, parts_of}
use Rattle.rules.specs.Note.{take_note}
use Rattle.rules.specs.Reading.{unpack_noted, VolumeResult, volume}
use Rattle.rules.specs.Furnace.{peaks_fit, melt}
use Rattle.volume_theory.specs.Whole.{positions_of_pack}

-- the peaks that a pack states are at most 200 places and 12 loops; nothing is asked where 12 or 13 refuses
abbrev pub peaks_fit_in : Fields → Bool
peaks_fit_in no_pack = true
peaks_fit_in (fields s ops) = elim (in_range s) [ true ↦ peaks_fit s | false ↦ true ]

abbrev pub peaks_fit_of : Parts → Bool
peaks_fit_of no_parts = true
peaks_fit_of (parts two ps) = peaks_fit_in (fields_of two)

abbrev pub stated_peaks_fit : List ℕ → Bool
stated_peaks_fit bytes = peaks_fit_of (parts_of (take_note bytes).before)

-- the volume call and the reader give the same number
pub record SameVolume (bytes : List ℕ) (r : Buffers) : Type 0 where
  pub six : ℤ
  pub service : (volume bytes r).six ≡ given six
  pub reader : melt bytes ≡ Six six

abbrev pub ItsVolumeIsTheServices : Type 0
ItsVolumeIsTheServices = (bytes : List ℕ) (r : Buffers) (m : Model) → (volume bytes r).answer ≡ unpacked m → stated_peaks_fit bytes ≡ true
    → SameVolume bytes r

-- "On a pack that the service accepts with positions and no rim, and whose stated peaks fit, its volume is the service's"
abbrev pub AcceptedPacksMelt : Type 0
AcceptedPacksMelt = (bytes : List ℕ) (r : Buffers) (m : Model) (zs : List ℤ) → (unpack_noted bytes r).answer ≡ unpacked m
    → positions_of_pack (take_note bytes).before ≡ given zs → m.totals.rims ≡ 0 → stated_peaks_fit bytes ≡ true → SameVolume bytes r

-- the service alone refuses with these: the reader is lent no triangle buffer (14) and tests neither the edge rule (18) nor the fans (20)
abbrev pub only_the_services : List ℕ
only_the_services = 14 ∷ (18 ∷ (20 ∷ []))

-- "Its other refusals are .. under the same conditions"
abbrev pub ItsRefusalsAreTheServices : Type 0
ItsRefusalsAreTheServices = (bytes : List ℕ) (r : Buffers) (k : ℕ) → (volume bytes r).answer ≡ refusal k → occurs k only_the_services ≡ 0
    → stated_peaks_fit bytes ≡ true → melt bytes ≡ Refused k

-- 12 and 13, whatever the peaks: 26 is "straight after 13"
abbrev pub ItsFirstRefusalsAreTheServices : Type 0
ItsFirstRefusalsAreTheServices = (bytes : List ℕ) (r : Buffers) (k : ℕ) → (volume bytes r).answer ≡ refusal k → k ≤ 13
    → melt bytes ≡ Refused k

-- "26, a stated peak is over 200 places or 12 loops", and for no other reason
abbrev pub Only26IsItsOwn : Type 0
Only26IsItsOwn = (bytes : List ℕ) → melt bytes ≡ Refused 26 ↔ stated_peaks_fit bytes ≡ false

-- the numbers that it refuses with, in the order of its tests
abbrev pub its_refusals : List ℕ
its_refusals = 12 ∷ (13 ∷ (26 ∷ (15 ∷ (16 ∷ (17 ∷ (19 ∷ (23 ∷ (25 ∷ (24 ∷ [])))))))))

-- where it refuses, it is with one of them: never 14, 18 or 20
abbrev pub OneNumber : Type 0
OneNumber = (bytes : List ℕ) (k : ℕ) → melt bytes ≡ Refused k → occurs k its_refusals ≡ 1

-- the volume call and the reader answer the same
abbrev pub Alike : VolumeResult → Melted → Type 0
Alike w (Six z) = (m : Model) × (w.answer ≡ unpacked m) × (w.six ≡ given z)
Alike w (Refused k) = (w.answer ≡ refusal k) × (w.six ≡ not_given)

-- an answer of the service that the reader could give too
abbrev pub ForBoth : Answer → Type 0
ForBoth a = (k : ℕ) → a ≡ refusal k → occurs k only_the_services ≡ 0

-- so, read either way: where neither refuses with a number that the other has not, they answer the same
abbrev pub TheyAnswerAlike : Type 0
TheyAnswerAlike = (bytes : List ℕ) (r : Buffers) → ForBoth (volume bytes r).answer → (melt bytes ≡ Refused 26 → ⊥)
    → Alike (volume bytes r) (melt bytes)
