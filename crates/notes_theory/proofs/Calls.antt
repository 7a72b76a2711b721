-- What is claimed of volumes, of the results of the volume call.
-- Assumes nothing.
use Prim.Native.Nat.{ℕ, ◌+◌, ◌*◌, ◌≤◌}
use mathlib.Core.Bool.{Bool, true, false}
use mathlib.Core.List.{List}
use mathlib.Core.Path.{◌≡◌, refl, sym, ap, ap₂, ◌∙◌, subst}
use lib.Dec.{eqb}
use lib.IntN.{ℤ, pos, nat_abs, ◌-ℤ◌, neg_ℤ}
use lib.ListN.{length, take, get_or, set}
use borrow.Author.Tests.{eqb-true}
use Rattle.rules.specs.declared.Model.{Model}
use Rattle.rules.specs.Checked.{Accepted}
use Rattle.rules.specs.Triangle.{triangles_of}
use Rattle.rules.specs.Check.{check}
use Rattle.rules.specs.Fan.{about}
use Rattle.rules.specs.Answer.{Answer, packed}
use Rattle.rules.specs.Buffer.{Buffers}
use Rattle.rules.specs.Pack.{most, PackBuffers}
use Rattle.rules.specs.Unpack.{UnpackResult}
use Rattle.rules.specs.Grid.{all_in_grid}
use Rattle.rules.specs.Volume.{six_volumes}
use Rattle.rules.specs.Later.{Given, not_given, given, parts_of}
use Rattle.rules.specs.PackWhole.{extras, pack_whole}
use Rattle.rules.specs.Note.{with_note, take_note}
use Rattle.rules.specs.UnpackWhole.{model_in}
use Rattle.rules.specs.Reading.{unpack_noted, VolumeResult, positions_in, measured, volume}
use Rattle.counting.proofs.Bools.{and_right}
use Rattle.mesh_theory.proofs.Fans.Checks.{check_accepted}
use Rattle.choice_theory.proofs.Runs.Accepted.{accepted_packable}
use Rattle.roundtrip.proofs.Results.{packed_by}
use Rattle.notes_theory.specs.Claims.{PackedAndMeasured, TheCallInsideOut, TheCallMovedByAtMost}
use Rattle.notes_theory.proofs.Reading.{unpack_noted_lem, volume_noted}
use Rattle.notes_theory.proofs.Forth.{packed_noted, found}
use Rattle.roundtrip.specs.Claims.{LongEnoughFor}
use Rattle.volume_theory.proofs.Beside.{PackedWhole, packed_whole}
use Rattle.volume_theory.proofs.Whole.{accepts}
use Rattle.volume_theory.proofs.Forth.{pack_with_positions_unpacks}
use Rattle.volume_theory.proofs.Volume.{inside_out_other_sign, moved_by_at_most}

abbrev IsGiven : Given ℤ → Type 0
IsGiven not_given = ⊥
IsGiven (given z) = Unit {0}

abbrev or_zero : Given ℤ → ℤ
or_zero not_given = pos 0
or_zero (given z) = z

-- a sum is given only of a model with no rim
if_given : (t : Bool) (x y : VolumeResult) → y.six ≡ not_given → IsGiven (elim t as (λ _. VolumeResult) [ true ↦ x | false ↦ y ]).six
    → t ≡ true
if_given true x y e h = refl
if_given false x y e h = absurd (subst IsGiven e h)

no_rim : (g : Given (List ℕ)) (r : Buffers) (u : UnpackResult) (m : Model) → IsGiven (measured g r u (given m)).six
    → m.totals.rims ≡ 0
unfolding measured
no_rim not_given r u m h = absurd h
no_rim (given bs) r u m h = eqb-true m.totals.rims 0 (if_given (eqb m.totals.rims 0) _ _ refl h)

-- the list is packed without a note, and the volume call gives s for its pack
record Unnoted (v : ℕ) (xs : List ℕ) (zs : List ℤ) (s : ℤ) : Type 0 where
  packing : PackBuffers
  size : ℕ
  packs : (pack_whole v xs (extras (given zs) not_given) packing).answer ≡ packed size
  measuring : Buffers
  long : LongEnoughFor (length (triangles_of xs)) measuring
  six : (volume (take size (pack_whole v xs (extras (given zs) not_given) packing).buffers.pack) measuring).six ≡ given s

-- the note makes no difference
unnoted : (v : ℕ) (xs : List ℕ) (zs : List ℤ) (s : ℤ) → PackedAndMeasured v xs zs s → Unnoted v xs zs s
unnoted v xs zs s c = go c.note c.packs c.six
  where
    go : (n : Given (List ℕ)) → (pack_whole v xs (extras (given zs) n) c.packing).answer ≡ packed c.size
        → (volume (take c.size (pack_whole v xs (extras (given zs) n) c.packing).buffers.pack) c.measuring).six ≡ given s
        → Unnoted v xs zs s
    go not_given p q = record {
      packing = c.packing;
      size = c.size;
      packs = p;
      measuring = c.measuring;
      long = c.long;
      six = q;
    }
    go (given ns) p q =
        let w = packed_noted v xs (given zs) ns c.packing c.size p in
        let f = found v xs (given zs) ns c.packing c.size w c.measuring c.long in
        let front = take w.n (pack_whole v xs (extras (given zs) not_given) c.packing).buffers.pack in
        let same : volume front c.measuring ≡ volume (with_note (given ns) front) c.measuring =
        volume_noted front f.two f.field f.found c.measuring not_given refl
        ∙ sym (volume_noted front f.two f.field f.found c.measuring (given ns) w.fits) in
        record {
          packing = c.packing;
          size = w.n;
          packs = w.alone;
          measuring = c.measuring;
          long = c.long;
          six =
              ap (λ (x : VolumeResult). x.six) (same ∙ ap (λ (us : List ℕ). volume us c.measuring) (sym w.bytes)) ∙ q;
        }

module _ (v : ℕ) (xs : List ℕ) (zs : List ℤ) (s : ℤ) (d : PackedAndMeasured v xs zs s) where
  c : Unnoted v xs zs s
  c = unnoted v xs zs s d

  w : PackedWhole v xs zs c.packing c.size
  w = packed_whole v xs zs c.packing c.size c.packs

  accepted : check v xs ≡ Accepted
  accepted = (packed_by most v xs c.packing w.n w.alone).accepted

  in_grid_lem : all_in_grid zs ≡ true
  in_grid_lem = and_right (eqb (length zs) (3 * v)) (all_in_grid zs) w.fit

  -- the result is the sum over the list
  result_is : s ≡ six_volumes zs (triangles_of xs)
  result_is =
      let bytes = take c.size (pack_whole v xs (extras (given zs) not_given) c.packing).buffers.pack in
      let x = unpack_noted bytes c.measuring in
      let u = (pack_with_positions_unpacks v xs zs c.packing c.size c.packs c.measuring c.long).3 in
      let a = accepts bytes c.measuring u.model u.accepted in
      let same = unpack_noted_lem bytes a.two a.field a.found c.measuring not_given refl in
      let ps = positions_in (parts_of (take_note bytes).before) in
      let told : IsGiven (measured ps c.measuring x (given u.model)).six =
      subst (λ (b : Answer). IsGiven (measured ps c.measuring x (model_in b)).six)
      (ap (λ (y : UnpackResult). y.answer) same ∙ u.accepted) (subst IsGiven (sym c.six) tt) in
      ap or_zero (sym c.six ∙ u.six (no_rim ps c.measuring x u.model told))

pub the_call_inside_out : TheCallInsideOut
the_call_inside_out v xs ys zs s t c d h =
    result_is v ys zs t d
    ∙ inside_out_other_sign zs (triangles_of xs) (triangles_of ys) (accepted_packable v xs (accepted v xs zs s c)).once
    (accepted_packable v ys (accepted v ys zs t d)).once h
    ∙ ap neg_ℤ (sym (result_is v xs zs s c))

pub the_call_moved_by_at_most : TheCallMovedByAtMost
the_call_moved_by_at_most v xs zs w k z s t l c d =
    subst (λ (e : ℤ).
    nat_abs e ≤ 8388608 * (nat_abs (z -ℤ get_or zs (3 * w + k) (pos 0)) * length (about w (triangles_of xs))))
    (ap₂ ◌-ℤ◌ (sym (result_is v xs (set zs (3 * w + k) z) t d)) (sym (result_is v xs zs s c)))
    (moved_by_at_most zs (triangles_of xs) (in_grid_lem v xs zs s c) ((check_accepted v xs).0 (accepted v xs zs s c)).distinct w k z l)
