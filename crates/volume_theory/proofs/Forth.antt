-- A pack with positions is unpacked as that without; the volume call gives the list's volume.
-- Assumes nothing.
use Prim.Native.Nat.{ℕ, ◌*◌, ◌≤◌}
use native.Mathlib.Omega.{arith}
use mathlib.Core.Bool.{Bool, true, false}
use mathlib.Core.List.{List, ◌++◌}
use mathlib.Core.Path.{◌≡◌, sym, ap, ap₂, ◌∙◌, subst}
use lib.Dec.{eqb}
use lib.IntN.{ℤ}
use lib.ListN.{length, take, drop, length-append}
use lib.Seq.{take_at}
use borrow.Author.Tests.{eq-eqb}
use Rattle.rules.specs.declared.Model.{Model}
use Rattle.rules.specs.Limits.{min_vertices, max_vertices}
use Rattle.rules.specs.Triangle.{triangles_of}
use Rattle.rules.specs.Answer.{Answer, unpacked, refusal}
use Rattle.rules.specs.Bits.{bytes_of}
use Rattle.rules.specs.Code.{operations_bits}
use Rattle.rules.specs.Buffer.{Buffers}
use Rattle.rules.specs.Fields.{field_of}
use Rattle.rules.specs.Pack.{most, pack_of, PackBuffers, pack}
use Rattle.rules.specs.Unpack.{UnpackResult, unpack}
use Rattle.rules.specs.Grid.{all_in_grid, position_bytes, positions_from}
use Rattle.rules.specs.Volume.{six_volumes}
use Rattle.rules.specs.Later.{positions_tag, Given, not_given, given, parts, parts_of}
use Rattle.rules.specs.PackWhole.{pack_whole}
use Rattle.rules.specs.UnpackWhole.{field_fits, model_in, left_by20, unpack_parts, unpack_whole}
use Rattle.rules.specs.Reading.{VolumeResult, positions_in, six_of, measured, volume}
use Rattle.counting.proofs.Bools.{and_both}
use Rattle.counting.proofs.Ranges.{of_between}
use Rattle.wire_theory.proofs.Later.{parts_written}
use Rattle.wire_theory.proofs.Positions.{length_positions, positions_read}
use Rattle.choice_theory.proofs.Runs.RoundTrip.{stated_by}
use Rattle.mesh_theory.proofs.Fans.Checks.{check_accepted}
use Rattle.roundtrip.specs.Claims.{LongEnoughFor, EachOnce}
use Rattle.roundtrip.proofs.Results.{PackedBy, packed_by}
use Rattle.roundtrip.proofs.Fitting.{short_enough}
use Rattle.roundtrip.proofs.Forth.{whole}
use Rattle.roundtrip.proofs.Each.{front_bytes, each_once}
use Rattle.volume_theory.specs.Whole.{Unpacked, PackWithPositionsUnpacks}
use Rattle.volume_theory.proofs.Beside.{placed, PackedWhole, packed_whole}
use Rattle.volume_theory.proofs.Whole.{tested_fits, volume_unnoted}
use Rattle.volume_theory.proofs.Packed.{packing_keeps_the_volume}

-- an accepted unpacking of a model without a rim
closed : (bs : List ℕ) (r : Buffers) (u : UnpackResult) (m : Model) → u.answer ≡ unpacked m → m.totals.rims ≡ 0
    → measured (given bs) r u (model_in u.answer)
    ≡ record { answer = u.answer; six = given (six_of bs m u.buffers); buffers = u.buffers }
unfolding measured
closed bs r u m e z =
    ap (λ (a : Answer). measured (given bs) r u (model_in a)) e
    ∙ ap (λ (t : Bool). elim t as (λ _. VolumeResult) [
      | true ↦ record { answer = u.answer; six = given (six_of bs m u.buffers); buffers = u.buffers }
      | false ↦ record { answer = refusal 24; six = not_given; buffers = left_by20 m r }
    ]) (eq-eqb m.totals.rims 0 z)

module _ (v : ℕ) (xs : List ℕ) (zs : List ℤ) (r : PackBuffers) (k : ℕ) (w : PackedWhole v xs zs r k) (r' : Buffers)
    (long : LongEnoughFor (length (triangles_of xs)) r') where
  abbrev n : ℕ
  n = w.n

  abbrev bs : List ℕ
  bs = position_bytes w.followed.positions

  abbrev two : List ℕ
  two = take w.n (pack v xs r).buffers.pack

  p : PackedBy most v xs r n
  p = packed_by most v xs r n w.alone

  two_is : two ≡ pack_of v (triangles_of xs) p.operations p.last
  two_is = front_bytes v xs r n p

  bytes_is : take k (pack_whole v xs (placed zs) r).buffers.pack ≡ two ++ field_of positions_tag bs
  bytes_is =
      let whole = two ++ field_of positions_tag bs in
      ap (take k) w.followed.bytes
      ∙ take_at whole (drop (length whole) r.pack) k
      (omega (
        arith,
        length-append two (field_of positions_tag bs),
        ap length two_is,
        p.long,
        length_positions w.followed.positions,
        w.followed.count,
        w.long,
      ))

  vertices : v ≤ max_vertices
  vertices = (of_between min_vertices v max_vertices ((check_accepted v xs).0 p.accepted).range).1

  found : parts_of (two ++ field_of positions_tag bs) ≡ parts two (given bs)
  found =
      subst (λ (l : List ℕ). parts_of (l ++ field_of positions_tag bs) ≡ parts l (given bs)) (sym two_is)
      (parts_written (stated_by v (triangles_of xs) p.last) (bytes_of (operations_bits p.operations)) (given bs)
      (short_enough v xs p.operations p.last p.accepted p.chose
      (whole v xs p.operations p.last p.accepted p.chose))
      (omega (arith, vertices, length_positions w.followed.positions, w.followed.count)))

  each : EachOnce v (triangles_of xs) (pack v xs r) (unpack two r')
  each = each_once v xs r n p r' long

  abbrev m : Model
  m = record { vertices = v; triangles = length (triangles_of xs); totals = each.totals }

  read : positions_from bs ≡ w.followed.positions
  read = positions_read w.followed.positions w.followed.range

  fits : field_fits v (given bs) ≡ true
  fits =
      and_both (eqb (length bs) (6 * v)) (all_in_grid (positions_from bs))
      (eq-eqb (length bs) (6 * v) (omega (arith, length_positions w.followed.positions, w.followed.count)))
      (ap all_in_grid read ∙ w.followed.range)

  same : unpack_whole (two ++ field_of positions_tag bs) r' ≡ unpack two r'
  unfolding unpack_parts
  same = ap (unpack_parts r') found ∙ tested_fits 23 (λ x. field_fits x.vertices (given bs)) r' (unpack two r') m each.accepted fits

  volume_is : m.totals.rims ≡ 0 → volume (two ++ field_of positions_tag bs) r'
      ≡ record { answer = (unpack two r').answer; six = given (six_of bs m (unpack two r').buffers); buffers = (unpack two r').buffers }
  volume_is z =
      volume_unnoted (two ++ field_of positions_tag bs) two (given bs) r' found
      ∙ ap₂ (λ (ps : Given (List ℕ)) (x : UnpackResult). measured ps r' x (model_in x.answer)) (ap positions_in found) same
      ∙ closed bs r' (unpack two r') m each.accepted z

  six_is : six_of bs m (unpack two r').buffers ≡ six_volumes zs (triangles_of xs)
  six_is =
      ap (λ (ys : List ℤ). six_volumes ys (triangles_of (take (3 * length (triangles_of xs)) (unpack two r').buffers.triangles))) read
      ∙ packing_keeps_the_volume v xs r n w.alone r' long zs w.followed.positions w.followed.points

  unpacked_whole : Unpacked v xs zs n (pack v xs r) (unpack_whole (two ++ field_of positions_tag bs) r')
      (volume (two ++ field_of positions_tag bs) r') r'
  unpacked_whole = record {
    same = same;
    model = m;
    accepted = ap (λ (x : UnpackResult). x.answer) same ∙ each.accepted;
    six = λ z. ap (λ (x : VolumeResult). x.six) (volume_is z) ∙ ap given six_is;
    answer = λ z. ap (λ (x : VolumeResult). x.answer) (volume_is z) ∙ each.accepted;
    buffers = λ z. ap (λ (x : VolumeResult). x.buffers) (volume_is z) ∙ ap (λ (x : UnpackResult). x.buffers) (sym same);
  }

pub pack_with_positions_unpacks : PackWithPositionsUnpacks
pack_with_positions_unpacks v xs zs r k e r' long =
    let w = packed_whole v xs zs r k e in (
      w.n,
      w.long,
      w.alone,
      subst (λ (bytes : List ℕ). Unpacked v xs zs w.n (pack v xs r) (unpack_whole bytes r') (volume bytes r') r')
          (sym (bytes_is v xs zs r k w r' long)) (unpacked_whole v xs zs r k w r' long),
    )
