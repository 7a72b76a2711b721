-- Every accepted pack is the pack of its list, its positions and its note, and the only one.
-- Assumes nothing.
use Prim.Native.Nat.{ℕ, ◌+◌, ◌≤◌}
use native.Mathlib.Omega.{arith}
use mathlib.Core.Bool.{true}
use mathlib.Core.List.{List, ◌++◌}
use mathlib.Core.Path.{◌≡◌, refl, sym, ap, ap₂, ◌∙◌, subst}
use lib.IntN.{ℤ}
use lib.ListN.{length, take, drop, get_or, length-append}
use lib.Seq.{take_at}
use Rattle.rules.specs.declared.Model.{Model}
use Rattle.rules.specs.Answer.{packed}
use Rattle.rules.specs.Fields.{field_of}
use Rattle.rules.specs.Pack.{PackBuffers}
use Rattle.rules.specs.Unpack.{UnpackResult}
use Rattle.rules.specs.Later.{Given, not_given, given}
use Rattle.rules.specs.Note.{note_tag, note_fits, with_note, take_note}
use Rattle.rules.specs.PackWhole.{Extras, extras, pack_whole}
use Rattle.rules.specs.Reading.{unpack_noted}
use Rattle.roundtrip.specs.Claims.{Gives, list_in}
use Rattle.volume_theory.specs.Whole.{positions_of_pack, WholePackOf}
use Rattle.volume_theory.proofs.Whole.{no_two_packs_of_one_list_and_positions}
use Rattle.volume_theory.proofs.Back.{every_accepted_pack_is_the_pack_of_its_list_and_positions}
use Rattle.notes_theory.specs.Claims.{note_length, EveryAcceptedPackIsThePackOfTheThree}
use Rattle.notes_theory.specs.Claims.{NoTwoPacksOfTheThree}
use Rattle.notes_theory.proofs.Beside.{note_follows_the_pack}
use Rattle.notes_theory.proofs.Reading.{accepts_noted, written_noted, bytes_before}

-- what gives the fields before the note gives the whole pack, with the note
gives_noted : (v t : ℕ) (xs front ns : List ℕ) (g : Given (List ℤ)) (r : PackBuffers) → note_fits (given ns) ≡ true
    → Gives front v t (pack_whole v xs (extras g not_given) r) → length (with_note (given ns) front) ≤ length r.pack
    → Gives (with_note (given ns) front) v t (pack_whole v xs (extras g (given ns)) r)
gives_noted v t xs front ns g r fits base long =
    let whole = front ++ field_of note_tag ns in
    let l : length whole ≡ length front + note_length ns = length-append front (field_of note_tag ns) ∙ omega arith in
    let f = (note_follows_the_pack v xs g ns r).follows fits (length front) base.same_length (omega (arith, l, long)) in
    record {
      same_length = f.answer ∙ ap packed (sym l);
      same_bytes =
          ap (take (length whole))
          (f.bytes ∙ ap (λ (us : List ℕ). (us ++ field_of note_tag ns) ++ drop (length (us ++ field_of note_tag ns)) r.pack)
          base.same_bytes)
          ∙ take_at whole (drop (length whole) r.pack) (length whole) refl;
      same_numbers = λ x k. ap (λ (ns : List ℕ). get_or ns x 0) f.numbering ∙ base.same_numbers x k;
      same_order = λ i k. ap (λ (qs : List ℕ). get_or qs i 0) f.order ∙ base.same_order i k;
    }

whole_noted : (bytes front : List ℕ) (m : Model) (xs : List ℕ) (g : Given (List ℤ)) (n : Given (List ℕ)) → bytes ≡ with_note n front
    → note_fits n ≡ true → WholePackOf front m xs (extras g not_given) → WholePackOf bytes m xs (extras g n)
whole_noted bytes front m xs g not_given e fits w = subst (λ (us : List ℕ). WholePackOf us m xs (extras g not_given)) (sym e) w
whole_noted bytes front m xs g (given ns) e fits w = record {
  accepted = w.accepted;
  count = w.count;
  packs =
      λ r a b l. subst (λ (us : List ℕ). Gives us m.vertices m.triangles (pack_whole m.vertices xs (extras g (given ns)) r)) (sym e)
      (gives_noted m.vertices m.triangles xs front ns g r fits
      (w.packs r a b (omega (arith, l, ap length e, length-append front (field_of note_tag ns)))) (omega (arith, l, ap length e)));
}

pub every_accepted_pack_is_the_pack_of_the_three : EveryAcceptedPackIsThePackOfTheThree
every_accepted_pack_is_the_pack_of_the_three bytes hb r m e =
    let a = accepts_noted bytes r m e in
    let front = (take_note bytes).before in
    whole_noted bytes front m (list_in m (unpack_noted bytes r)) (positions_of_pack front) (take_note bytes).note (written_noted bytes hb)
    a.fits
    (subst (λ (u : UnpackResult). WholePackOf front m (list_in m u) (extras (positions_of_pack front) not_given)) (sym a.same)
    (every_accepted_pack_is_the_pack_of_its_list_and_positions front (bytes_before bytes hb) r m a.accepted))

pub no_two_packs_of_the_three : NoTwoPacksOfTheThree
no_two_packs_of_the_three bytes bytes' hb hb' r r' m m' e e' l x =
    let a = accepts_noted bytes r m e in
    let b = accepts_noted bytes' r' m' e' in
    let front : (take_note bytes).before ≡ (take_note bytes').before =
    no_two_packs_of_one_list_and_positions (take_note bytes).before (take_note bytes').before (bytes_before bytes hb)
    (bytes_before bytes' hb') r r' m m' a.accepted b.accepted
    (ap (list_in m) (sym a.same) ∙ l ∙ ap (list_in m') b.same) (ap (λ (y : Extras). y.positions) x) in
    written_noted bytes hb ∙ ap₂ (λ (n : Given (List ℕ)) (us : List ℕ). with_note n us) (ap (λ (y : Extras). y.note) x) front
    ∙ sym (written_noted bytes' hb')
