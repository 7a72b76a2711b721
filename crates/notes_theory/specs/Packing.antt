-- Packing with a note, after all else was packed.
-- Assumes nothing.
use Rattle.std.specs.Prelude.{ℕ, ◌+◌, ◌≤◌, ◌<◌, false, List, ◌++◌, ◌≡◌, ℤ, length, take, drop}
use Rattle.rules.specs.Packed.{Packed}
use Rattle.rules.specs.Packed as P
use Rattle.rules.specs.Limits.{max_note}
use Rattle.rules.specs.Fields.{field_of}
use Rattle.rules.specs.Later.{given}
use Rattle.rules.specs.Note.{note_tag, note_fits}
use Rattle.rules.specs.PackWhole.{extras}
use Rattle.positions_theory.specs.Packing.{buffer_after, fault_of}
use Rattle.notes_theory.specs.Claims.{note_length}

-- ws written over bs, from byte n on
abbrev pub put_at : List ℕ → ℕ → List ℕ → List ℕ
put_at bs n ws = take n bs ++ (ws ++ drop (n + length ws) bs)

-- no pack comes near so many bytes
abbrev pub beyond_packs : ℕ
beyond_packs = 1000000

-- an accepted packing of all else leaves room for the note after the pack, and the whole length fits
pub record RoomAfter (k : ℕ) (ns bs : List ℕ) : Type 0 where
  pub few : length ns ≤ max_note
  pub room : k + note_length ns ≤ length bs
  pub short : k < beyond_packs

abbrev pub NoteRoom : Packed → List ℕ → List ℕ → Type 0
NoteRoom (P.Length k) ns bs = RoomAfter k ns bs
NoteRoom (P.Refused k) ns bs = Unit {0}

-- the answer and the pack buffer, after all else was packed and answered r
abbrev pub NoteFollows : Packed → List ℕ → List ℕ → Packed → List ℕ → Type 0
NoteFollows (P.Length k) ns bs s bs' = (s ≡ P.Length (k + note_length ns)) × (bs' ≡ put_at bs k (field_of note_tag ns))
NoteFollows (P.Refused k) ns bs s bs' = (s ≡ P.Refused k) × (bs' ≡ buffer_after (P.Refused k) bs)

-- k is the refusal of a note that does not fit, given with the positions zs: 23 comes first
abbrev pub FaultIs : ℕ → List ℤ → ℕ → Type 0
FaultIs v zs k = (ns : List ℕ) → note_fits (given ns) ≡ false → k ≡ fault_of v (extras (given zs) (given ns))
