-- The volume call: what follows an unpacking of a pack that may have a note.
-- Assumes nothing.
use Prim.Native.Nat.{ℕ, ◌*◌, ◌≤◌}
use mathlib.Core.List.{List}
use mathlib.Core.Path.{◌≡◌, sym, ap, ◌∙◌}
use lib.IntN.{ℤ}
use lib.ListN.{length, take, drop}
use Rattle.rules.specs.declared.Model.{Model}
use Rattle.rules.specs.Unpacked as U
use Rattle.rules.specs.Triangle.{triangles_of}
use Rattle.rules.specs.Grid.{positions_from}
use Rattle.rules.specs.Volume.{six_volumes}
use Rattle.rules.specs.Measured.{Measured}
use Rattle.rules.specs.Measured as M
use Rattle.rules.specs.Buffer.{zeroed}
use Rattle.rules.specs.Unpack.{UnpackResult}
use Rattle.rules.specs.Later.{Given, not_given, given, parts_of}
use Rattle.rules.specs.Note.{take_note}
use Rattle.rules.specs.Reading.{unpack_noted, positions_in}
use Rattle.border_theory.specs.Records.Lent.{lent}
use Rattle.volume_theory.specs.Near.{Measurable}
use Rattle.positions_theory.specs.Unpacking.{UnpackedWholeOn, measured_by, measured_triangles}
use Rattle.positions_theory.proofs.Unpacking.{whole_beyond, whole_long}
use Rattle.positions_theory.proofs.Measuring.{measured_refused, no_third_measured, third_measured, measured_rim, measured_closed}
use Rattle.positions_theory.proofs.Measuring.{measurable}
use Rattle.notes_theory.specs.Unpacking.{UnpackedNotedOn, MeasuredOn}
use Rattle.notes_theory.proofs.Reading.{accepts_noted}

module _ (bytes ts : List ℕ) (n : ℕ) where
  abbrev u : UnpackResult
  u = unpack_noted bytes (lent n ts)

  -- the positions, if there are any
  abbrev field : Given (List ℕ)
  field = positions_in (parts_of (take_note bytes).before)

  pub volume_refused : (k : ℕ) (ts' : List ℕ) → UnpackedNotedOn bytes ts n (U.Refused k) ts' → MeasuredOn bytes ts n (M.Refused k) ts'
  volume_refused k ts' h = measured_refused field ts n u k ts' h.answer h.triangles

  module _ (m : Model) (ts' : List ℕ) (h : UnpackedNotedOn bytes ts n (U.Gives m) ts') where
    -- what stands before the note was unpacked
    front : UnpackedWholeOn (take_note bytes).before ts n (U.Gives m) ts'
    front =
        let a = accepts_noted bytes (lent n ts) m (sym h.answer) in
        record {
          answer = sym a.accepted;
          triangles = h.triangles ∙ ap (λ (x : UnpackResult). x.buffers.triangles) a.same;
        }

    beyond : drop (3 * m.triangles) ts' ≡ drop (3 * m.triangles) ts
    beyond = whole_beyond (take_note bytes).before ts n m ts' front

    pub volume_long : 3 * m.triangles ≤ length ts'
    volume_long = whole_long (take_note bytes).before ts n m ts' front

    -- 24: no positions
    pub volume_none : field ≡ not_given → MeasuredOn bytes ts n (M.Refused 24) (zeroed (3 * m.triangles) ts')
    volume_none f = no_third_measured field ts n u m ts' h.answer h.triangles beyond f

    module _ (bs : List ℕ) (third : field ≡ given bs) where
      pub volume_measurable : Measurable ts' m.triangles bs
      volume_measurable = measurable (take_note bytes).before ts n m ts' front bs third

      pub volume_third : (s : Measured) (ts'' : List ℕ) → s ≡ measured_by bs m ts' → ts'' ≡ measured_triangles m ts'
          → MeasuredOn bytes ts n s ts''
      volume_third = third_measured field ts n u m ts' h.answer h.triangles beyond bs third

      -- or a rim
      pub volume_rim : (m.totals.rims ≡ 0 → ⊥) → MeasuredOn bytes ts n (M.Refused 24) (zeroed (3 * m.triangles) ts')
      volume_rim k =
          let r = measured_rim bs ts' m k in volume_third (M.Refused 24) (zeroed (3 * m.triangles) ts') r.0 r.1

      pub volume_sum : m.totals.rims ≡ 0 → (z : ℤ) → z ≡ six_volumes (positions_from bs) (triangles_of (take (3 * m.triangles) ts'))
          → MeasuredOn bytes ts n (M.Volume m z) ts'
      volume_sum k z e =
          let r = measured_closed bs ts' m k z e in
          volume_third (M.Volume m z) ts' r.0 r.1
