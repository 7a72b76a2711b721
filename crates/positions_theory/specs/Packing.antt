-- Packing with what is given besides and n place records, of which only the number counts.
-- Assumes nothing.
use Rattle.std.specs.Prelude.{ℕ, ◌+◌, ◌*◌, ◌≤◌, ◌<◌, true, false, List, ◌≡◌, ltb, ℤ, length}
use Rattle.rules.specs.Packed.{Packed}
use Rattle.rules.specs.Packed as P
use Rattle.rules.specs.Buffer.{zeroed}
use Rattle.rules.specs.Pack.{PackResult}
use Rattle.rules.specs.Note.{note_fits}
use Rattle.rules.specs.PackWhole.{Extras, given_fit, pack_whole}
use Rattle.pack_theory.specs.Packing.Lent.{lent, cleared_by, IsResult}
use Rattle.volume_theory.specs.Shorter.{most_pack}
use Rattle.positions_theory.specs.Filling.{FieldRoom, FieldPut}

abbrev pub pack_whole_on : ℕ → List ℕ → Extras → ℕ → List ℕ → List ℕ → List ℕ → PackResult
pack_whole_on v xs e n ns bs qs = pack_whole v xs e (lent n ns bs qs)

-- a packing of any list with anything given besides, in any buffers
abbrev pub PackedWholeOn : ℕ → List ℕ → Extras → List ℕ → List ℕ → List ℕ → ℕ → Packed → List ℕ → List ℕ → List ℕ → Type 0
PackedWholeOn v xs e ns bs qs n r ns' bs' qs' = IsResult (pack_whole_on v xs e n ns bs qs) r ns' bs' qs'

-- the refusal of what is given besides: 23, 25, or 0 where it fits
abbrev pub fault_of : ℕ → Extras → ℕ
fault_of v e = elim (given_fit v e.positions) [ true ↦ elim (note_fits e.note) [ true ↦ 0 | false ↦ 25 ] | false ↦ 23 ]

-- r is the answer where what is given besides is refused with k, in a numbering of a entries and an order of b: nothing changes
abbrev pub Unfit : ℕ → List ℕ → ℕ → ℕ → ℕ → ℕ → Packed → Type 0
Unfit v xs a b n k r = (e : Extras) → fault_of v e ≡ k → 0 < k → (ns bs qs : List ℕ) → length ns ≡ a → length qs ≡ b
    → PackedWholeOn v xs e ns bs qs n r ns bs qs

-- the pack buffer after a packing into its front part that answered r: all is cleared if that part was
abbrev pub buffer_after : Packed → List ℕ → List ℕ
buffer_after r bs = elim (ltb 0 (cleared_by r)) [ true ↦ zeroed (length bs) bs | false ↦ bs ]

-- an accepted packing of the list alone leaves room for the field after the pack, and the whole length fits
abbrev pub Followable : Packed → List ℤ → List ℕ → List ℕ → Type 0
Followable (P.Length k) zs ns bs = FieldRoom bs k zs ns × (k ≤ most_pack)
Followable (P.Refused k) zs ns bs = Unit {0}

-- the answer and the pack buffer, after the list alone was packed and answered r
abbrev pub Follows : Packed → List ℤ → List ℕ → List ℕ → Packed → List ℕ → Type 0
Follows (P.Length k) zs ns bs s bs' = (s ≡ P.Length (k + 3 + 2 * length zs)) × FieldPut bs k zs ns bs'
Follows (P.Refused k) zs ns bs s bs' = (s ≡ P.Refused k) × (bs' ≡ buffer_after (P.Refused k) bs)
