-- The furnace's own reader: 12, 13, 26, 15 to 17, 19, 23, 25, 24. It runs a pack's operations as unpacking does, but tests neither the edge
-- rule nor the fans, and answers six times the volume.
-- Assumes nothing.
use Rattle.std.specs.Prelude.{ℕ, zero, suc, Bool, true, false, ◌&&◌, List, length, eqb, leb}
use Rattle.rules.specs.declared.Counts.{Counts}
use Rattle.rules.specs.declared.Operation.{Operation}
use Rattle.rules.specs.Melted.{Melted}
use Rattle.rules.specs.Melted.{Six, Refused}
use Rattle.rules.specs.Limits.{furnace_places, furnace_loops, in_range}
use Rattle.rules.specs.Table.{Effect, not_allowed, builds, marks, effect}
use Rattle.rules.specs.Machine.{Machine, empty, after_build, after_mark, Step, refused, begun, built, declared, finished, test, within}
use Rattle.rules.specs.Machine.{complete, as_stated}
use Rattle.rules.specs.Bits.{bits_of_bytes}
use Rattle.rules.specs.Code.{breaks_off, read, read_operation}
use Rattle.rules.specs.Fields.{Fields, no_pack, fields, fields_of}
use Rattle.rules.specs.Unpack.{Ran, stopped, completed, rest_fits}
use Rattle.rules.specs.Grid.{positions_from}
use Rattle.rules.specs.Volume.{six_volumes}
use Rattle.rules.specs.Later.{Given, not_given, given, Parts, no_parts, parts, parts_of}
use Rattle.rules.specs.Note.{note_fits, take_note}
use Rattle.rules.specs.UnpackWhole.{field_fits}

-- 26: it keeps at most 200 places and 12 loops
abbrev pub peaks_fit : Counts → Bool
peaks_fit s = leb s.places furnace_places && leb s.loops furnace_loops

-- an operation of the machine, with no edge rule: 16, 17
unfoldable pub done_freely : Machine → Effect → Step
done_freely m not_allowed = refused 16
done_freely m (builds x) = let m' = after_build m x in test (within m') 17 (built x.triangle m')
done_freely m (marks y) = let m' = after_mark m y in test (within m') 17 (declared y.edge m')

abbrev pub operation_freely : Machine → Operation → Step
operation_freely m o = done_freely m (effect o m.used m.loops)

-- the operations run until the model is complete, as `run_all` runs them: 15 to 17
unfoldable pub run_freely : ℕ → Machine → List ℕ → Ran
run_freely zero m xs = stopped 15
run_freely (suc n) m xs =
    elim (complete m) [
      | true ↦ completed m xs
      | false ↦ elim (read_operation xs) [
        | breaks_off ↦ stopped 15
        | read o ys ↦ elim (operation_freely m o) [
          | refused k ↦ stopped k
          | begun m' ↦ stopped 16
          | built t m' ↦ run_freely n m' ys
          | declared d m' ↦ run_freely n m' ys
          | finished x ↦ stopped 16
        ]
      ]
    ]

abbrev pub run_freely_of : Counts → List ℕ → Ran
run_freely_of s ops = let xs = bits_of_bytes ops in run_freely (suc (length xs)) (empty s) xs

-- 24: no positions, or a rim. The sum is over the triangles built
abbrev pub melted : Given (List ℕ) → Machine → Melted
melted not_given m = Refused 24
melted (given ps) m = elim (eqb m.rims 0) [ true ↦ Six (six_volumes (positions_from ps) m.triangles) | false ↦ Refused 24 ]

-- 19, 23, 25, of a pack with the positions ps and the note ns, where the bits xs are left
abbrev pub melt_ended : Given (List ℕ) → Given (List ℕ) → Machine → List ℕ → Melted
melt_ended ps ns m xs =
    elim (rest_fits xs && as_stated m) [
      | true ↦ elim (field_fits m.stated.vertices ps) [
        | true ↦ elim (note_fits ns) [ true ↦ melted ps m | false ↦ Refused 25 ]
        | false ↦ Refused 23
      ]
      | false ↦ Refused 19
    ]

unfoldable pub melt_run : Given (List ℕ) → Given (List ℕ) → Ran → Melted
melt_run ps ns (stopped k) = Refused k
melt_run ps ns (completed m xs) = melt_ended ps ns m xs

-- 13, 26
unfoldable pub melt_fields : Given (List ℕ) → Given (List ℕ) → Fields → Melted
melt_fields ps ns no_pack = Refused 12
melt_fields ps ns (fields s ops) =
    elim (in_range s) [
      | true ↦ elim (peaks_fit s) [ true ↦ melt_run ps ns (run_freely_of s ops) | false ↦ Refused 26 ]
      | false ↦ Refused 13
    ]

-- 12
unfoldable pub melt_parts : Given (List ℕ) → Parts → Melted
melt_parts ns no_parts = Refused 12
melt_parts ns (parts two ps) = melt_fields ps ns (fields_of two)

-- the reader, on any bytes
abbrev pub melt : List ℕ → Melted
melt bytes = let d = take_note bytes in melt_parts d.note (parts_of d.before)
