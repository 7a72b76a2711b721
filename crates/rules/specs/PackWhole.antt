-- Packing a list, with positions and a note if they are given: 1 to 8, 22, 23, 25, 9 to 11. The pack is that of the list, followed by the
-- positions in new numbering, followed by the note.
-- Assumes nothing.
use Rattle.std.specs.Prelude.{ℕ, ◌*◌, Bool, true, false, ◌&&◌, List, [], ◌∷◌, ◌++◌, ℤ, length, eqb}
use Rattle.rules.specs.declared.Triangle.{Triangle}
use Rattle.rules.specs.declared.Operation.{Operation}
use Rattle.rules.specs.Checked.{Checked}
use Rattle.rules.specs.Checked.{Accepted, Refused}
use Rattle.rules.specs.Triangle.{triangles_of}
use Rattle.rules.specs.Check.{check}
use Rattle.rules.specs.Fields.{field_of}
use Rattle.rules.specs.Choice.{Packing}
use Rattle.rules.specs.Pack.{Chosen, stopped, chosen, Most, most, chosen_for, order_for, pack_of, new_numbers, PackBuffers, PackResult}
use Rattle.rules.specs.Pack.{PackContents, turned_down, pack_refused, pack_stored, pack_long_enough, order_long_enough}
use Rattle.rules.specs.Grid.{all_in_grid, position_bytes}
use Rattle.rules.specs.Volume.{point_at}
use Rattle.rules.specs.Later.{positions_tag, Given, not_given, given}
use Rattle.rules.specs.Note.{note_fits, with_note}

-- what is packed beside the list, if it is given: positions by old vertex, and a note
pub record Extras : Type 0 where
  pub positions : Given (List ℤ)
  pub note : Given (List ℕ)

abbrev pub extras : Given (List ℤ) → Given (List ℕ) → Extras
extras g n = record { positions = g; note = n }

-- 23: three positions for each vertex, every one in range
abbrev pub positions_fit : ℕ → List ℤ → Bool
positions_fit v zs = eqb (length zs) (3 * v) && all_in_grid zs

abbrev pub given_fit : ℕ → Given (List ℤ) → Bool
given_fit v not_given = true
given_fit v (given zs) = positions_fit v zs

-- the positions of the vertices vs, one vertex after the other
unfoldable pub positions_of : List ℤ → List ℕ → List ℤ
positions_of zs [] = []
positions_of zs (v ∷ vs) = let p = point_at zs v in p.x ∷ (p.y ∷ (p.z ∷ positions_of zs vs))

-- some fields, and the positions of the vertices vs after them
abbrev pub with_positions : Given (List ℤ) → List ℕ → List ℕ → List ℕ
with_positions not_given vs bs = bs
with_positions (given zs) vs bs = bs ++ field_of positions_tag (position_bytes (positions_of zs vs))

-- the numbered vertices stand in the order of their new numbers
abbrev pub whole_pack_of : ℕ → List Triangle → Extras → List Operation → Packing → List ℕ
whole_pack_of v ts e os s = with_note e.note (with_positions e.positions s.numbered (pack_of v ts os s))

abbrev pub whole_contents_of : ℕ → List Triangle → Extras → List ℕ → List Operation → Packing → PackContents
whole_contents_of v ts e qs os s = record { numbering = new_numbers v s.numbered; pack = whole_pack_of v ts e os s; order = qs }

unfoldable pub whole_chosen : ℕ → List Triangle → Extras → PackBuffers → List ℕ → Chosen → PackResult
whole_chosen v ts e r qs (stopped n) = pack_refused n v ts r
whole_chosen v ts e r qs (chosen os s) = pack_stored v ts (whole_contents_of v ts e qs os s) r

unfoldable pub whole_checked : Most → ℕ → List Triangle → Extras → PackBuffers → Checked → PackResult
whole_checked h v ts e r (Refused n) = turned_down n r
whole_checked h v ts e r Accepted =
    elim (pack_long_enough v r) [
      | true ↦ elim (order_long_enough ts r) [
        | true ↦ elim (given_fit v e.positions) [
          | true ↦ elim (note_fits e.note) [
            | true ↦ whole_chosen v ts e r (order_for h ts) (chosen_for h ts)
            | false ↦ turned_down 25 r
          ]
          | false ↦ turned_down 23 r
        ]
        | false ↦ turned_down 22 r
      ]
      | false ↦ turned_down 8 r
    ]

abbrev pub pack_whole_within : Most → ℕ → List ℕ → Extras → PackBuffers → PackResult
pack_whole_within h v xs e r = whole_checked h v (triangles_of xs) e r (check v xs)

abbrev pub pack_whole : ℕ → List ℕ → Extras → PackBuffers → PackResult
pack_whole v xs e r = pack_whole_within most v xs e r
