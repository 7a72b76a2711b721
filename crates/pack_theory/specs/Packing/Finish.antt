-- The end of a packing: 11, what is answered, and what the buffers are left with, as the code comes to it.
-- Assumes nothing.
use Rattle.std.specs.Prelude.{ℕ, ◌-◌, ◌≤◌, Bool, true, false, List, length, leb}
use Rattle.rules.specs.declared.Counts.{Counts}
use Rattle.rules.specs.Packed.{Packed}
use Rattle.rules.specs.Packed as P
use Rattle.rules.specs.Buffer.{over, zeroed}
use Rattle.wire_theory.specs.Header.{header_of}
use Rattle.wire_theory.specs.Buffer.{bytes_for}
use Rattle.cutborder.specs.declared.Course.{Course}
use Rattle.pack_theory.specs.Packing.Ran.{Ran}
use Rattle.pack_theory.specs.Packing.Ran.{Refused, Ended}

-- the counts that the pack of v vertices and k triangles states
abbrev pub counts_at : ℕ → ℕ → Course → Counts
counts_at v k t = record { vertices = v; triangles = k; places = t.front.peaks.places; loops = t.front.peaks.loops }

-- 11: whether the pack, whose bits end at a position, fits a buffer of so many bytes
abbrev pub fits_buffer : ℕ → ℕ → Bool
fits_buffer at size = leb (bytes_for at) size

abbrev pub answer_if : Bool → ℕ → Packed
answer_if true n = P.Length n
answer_if false n = P.Refused 11

abbrev pub finish_answer : Ran → ℕ → Packed
finish_answer (Refused k) size = P.Refused k
finish_answer (Ended t at) size = answer_if (fits_buffer at size) (bytes_for at)

abbrev pub numbers_if : Bool → ℕ → List ℕ → List ℕ
numbers_if true v ns = ns
numbers_if false v ns = zeroed v ns

-- of the numbering, whose first v entries are zero after a refusal, and of the order alike
abbrev pub finish_numbers : Ran → ℕ → ℕ → List ℕ → List ℕ
finish_numbers (Refused k) v size ns = zeroed v ns
finish_numbers (Ended t at) v size ns = numbers_if (fits_buffer at size) v ns

abbrev pub pack_if : Bool → Counts → ℕ → List ℕ → List ℕ
pack_if true c n bs = over (header_of c n) bs
pack_if false c n bs = zeroed (length bs) bs

abbrev pub finish_pack : Ran → ℕ → ℕ → List ℕ → List ℕ
finish_pack (Refused j) v k bs = zeroed (length bs) bs
finish_pack (Ended t at) v k bs = pack_if (fits_buffer at (length bs)) (counts_at v k t) (bytes_for at - 14) bs

-- the bit position is one of a pack
abbrev pub Sized : Ran → Type 0
Sized (Refused k) = Unit {0}
Sized (Ended t at) = (112 ≤ at) × (at ≤ 655492)
