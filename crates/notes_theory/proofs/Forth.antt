-- A pack with a note is read as that without, and the note is handed back.
-- Assumes nothing.
use Prim.Native.Nat.{ℕ, ◌+◌}
use native.Mathlib.Omega.{arith}
use mathlib.Core.Bool.{Bool, true, false}
use mathlib.Core.List.{List, ◌++◌}
use mathlib.Core.Logic.{◌⊎◌, inl, inr}
use mathlib.Core.Path.{◌≡◌, refl, sym, ap, ap₂, ◌∙◌, subst}
use lib.Dec.{leb}
use lib.IntN.{ℤ}
use lib.ListN.{length, take, drop, length-append}
use lib.Seq.{take_at}
use borrow.Author.Tests.{leb-true, leb-false}
use Rattle.rules.specs.declared.Model.{Model}
use Rattle.rules.specs.Triangle.{triangles_of}
use Rattle.rules.specs.Answer.{refusal, packed, unpacked}
use Rattle.rules.specs.Buffer.{Buffers}
use Rattle.rules.specs.Fields.{field_of}
use Rattle.rules.specs.Pack.{most, PackBuffers, PackResult, pack}
use Rattle.rules.specs.Unpack.{UnpackResult}
use Rattle.rules.specs.Later.{Given, not_given, given}
use Rattle.rules.specs.Note.{note_tag, note_fits, with_note, NoteTaken}
use Rattle.rules.specs.PackWhole.{extras, pack_whole}
use Rattle.rules.specs.UnpackWhole.{model_in, unpack_whole}
use Rattle.rules.specs.Reading.{unpack_noted, handed_back, bench}
use Rattle.wire_theory.proofs.Note.{note_written}
use Rattle.roundtrip.specs.Claims.{LongEnoughFor}
use Rattle.roundtrip.proofs.Results.{packed_by, not_packed, unpacked_by}
use Rattle.roundtrip.proofs.Each.{each_once}
use Rattle.volume_theory.proofs.Beside.{given_neither_packs_the_list}
use Rattle.volume_theory.proofs.Whole.{Accepts, accepts, two_fields_whole}
use Rattle.volume_theory.proofs.Forth.{pack_with_positions_unpacks}
use Rattle.notes_theory.specs.Claims.{note_length, PassesTo25, ReadBack, PackWithNoteIsReadBack}
use Rattle.notes_theory.proofs.Beside.{Stopped, decided, unfit, front_long, note_follows_the_pack, whole_answers}
use Rattle.notes_theory.proofs.Reading.{short, unpack_noted_lem}

-- a pack without a note is accepted
pub record Unpacks (bytes : List ℕ) (r : Buffers) : Type 0 where
  pub model : Model
  pub accepted : (unpack_whole bytes r).answer ≡ unpacked model

pub unpacks : (v : ℕ) (xs : List ℕ) (g : Given (List ℤ)) (r : PackBuffers) (n : ℕ)
    → (pack_whole v xs (extras g not_given) r).answer ≡ packed n
    → (r' : Buffers) → LongEnoughFor (length (triangles_of xs)) r'
    → Unpacks (take n (pack_whole v xs (extras g not_given) r).buffers.pack) r'
unpacks v xs not_given r n e r' long =
    let q = given_neither_packs_the_list v xs r in
    let a = sym (ap (λ (p : PackResult). p.answer) q) ∙ e in
    let two = take n (pack v xs r).buffers.pack in
    let o = each_once v xs r n (packed_by most v xs r n a) r' long in
    let m : Model = record { vertices = v; triangles = length (triangles_of xs); totals = o.totals } in
    let w = unpacked_by two r' m o.accepted in
    subst (λ (p : PackResult). Unpacks (take n p.buffers.pack) r') (sym q)
    (record {
      model = m;
      accepted = ap (λ (u : UnpackResult). u.answer) (two_fields_whole two w.counts w.ops w.found r')
          ∙ o.accepted;
    })
unpacks v xs (given zs) r n e r' long =
    let u = (pack_with_positions_unpacks v xs zs r n e r' long).3 in
    record { model = u.model; accepted = u.accepted }

-- a packing with a note that was not refused
pub record PackedNoted (v : ℕ) (xs : List ℕ) (g : Given (List ℤ)) (ns : List ℕ) (r : PackBuffers) (k : ℕ) : Type 0 where
  pub fits : note_fits (given ns) ≡ true
  pub n : ℕ
  pub alone : (pack_whole v xs (extras g not_given) r).answer ≡ packed n
  pub long : k ≡ n + note_length ns
  pub bytes : take k (pack_whole v xs (extras g (given ns)) r).buffers.pack
      ≡ with_note (given ns) (take n (pack_whole v xs (extras g not_given) r).buffers.pack)

pub packed_noted : (v : ℕ) (xs : List ℕ) (g : Given (List ℤ)) (ns : List ℕ) (r : PackBuffers) (k : ℕ)
    → (pack_whole v xs (extras g (given ns)) r).answer ≡ packed k → PackedNoted v xs g ns r k
packed_noted v xs g ns r k e = by_fit (note_fits (given ns)) refl
  where
    never : {A : Type 0} (j : ℕ) → (pack_whole v xs (extras g (given ns)) r).answer ≡ refusal j → A
    never j h = absurd (not_packed k j (sym h ∙ e))

    by_length : note_fits (given ns) ≡ true → (n : ℕ) → (pack_whole v xs (extras g not_given) r).answer ≡ packed n → (t : Bool)
        → leb (n + note_length ns) (length r.pack) ≡ t → PackedNoted v xs g ns r k
    by_length f n a false l =
        never 11
        (ap (λ (x : PackResult). x.answer)
        ((note_follows_the_pack v xs g ns r).too_long f n a (leb-false (n + note_length ns) (length r.pack) l)))
    by_length f n a true l =
        let w = (note_follows_the_pack v xs g ns r).follows f n a (leb-true (n + note_length ns) (length r.pack) l) in
        let c : packed k ≡ packed (n + note_length ns) = sym e ∙ w.answer in
        let j : k ≡ n + note_length ns = cc in
        let front = take n (pack_whole v xs (extras g not_given) r).buffers.pack in
        let whole = front ++ field_of note_tag ns in
        record {
          fits = f;
          n = n;
          alone = a;
          long = j;
          bytes =
              ap (take k) w.bytes
              ∙ take_at whole (drop (length whole) r.pack) k
              (length-append front (field_of note_tag ns) ∙ omega (arith, j, front_long v xs g ns r n f a));
        }

    by_answer : note_fits (given ns) ≡ true → ((j : ℕ) × ((pack_whole v xs (extras g not_given) r).answer ≡ refusal j))
        ⊎ ((n : ℕ) × ((pack_whole v xs (extras g not_given) r).answer ≡ packed n)) → PackedNoted v xs g ns r k
    by_answer f (inl (j, h)) = never j (ap (λ (x : PackResult). x.answer) ((note_follows_the_pack v xs g ns r).refused f j h) ∙ h)
    by_answer f (inr (n, h)) = by_length f n h (leb (n + note_length ns) (length r.pack)) refl

    unsound : note_fits (given ns) ≡ false → PassesTo25 v xs g r ⊎ Stopped v xs g r → PackedNoted v xs g ns r k
    unsound f (inl q) = never 25 (ap (λ (x : PackResult). x.answer) (unfit v xs g ns r q f))
    unsound f (inr x) = never x.number (ap (λ (y : PackResult). y.answer) (x.down (given ns) r.pack))

    by_fit : (t : Bool) → note_fits (given ns) ≡ t → PackedNoted v xs g ns r k
    by_fit true f = by_answer f (whole_answers v xs g r)
    by_fit false f = unsound f (decided v xs g r)

module _ (v : ℕ) (xs : List ℕ) (g : Given (List ℤ)) (ns : List ℕ) (r : PackBuffers) (k : ℕ) (w : PackedNoted v xs g ns r k)
    (r' : Buffers) (long : LongEnoughFor (length (triangles_of xs)) r') where
  abbrev front : List ℕ
  front = take w.n (pack_whole v xs (extras g not_given) r).buffers.pack

  pub read : Unpacks (take w.n (pack_whole v xs (extras g not_given) r).buffers.pack) r'
  read = unpacks v xs g r w.n w.alone r' long

  pub found : Accepts (take w.n (pack_whole v xs (extras g not_given) r).buffers.pack) r' read.model
  found = accepts front r' read.model read.accepted

  noted_read : unpack_noted (with_note (given ns) front) r' ≡ unpack_whole front r'
  noted_read = unpack_noted_lem front found.two found.field found.found r' (given ns) w.fits

  alone_read : unpack_noted front r' ≡ unpack_whole front r'
  alone_read = unpack_noted_lem front found.two found.field found.found r' not_given refl

  handed : (bench (with_note (given ns) front) r').note ≡ ns
  handed =
      ap₂ handed_back
      (ap (λ (d : NoteTaken). d.note)
      (note_written front found.two ns found.field found.found (omega (arith, short ns w.fits))))
      (ap (λ (u : UnpackResult). model_in u.answer) noted_read ∙ ap model_in read.accepted)

  read_back : ReadBack ns (with_note (given ns) front) front r'
  read_back = record {
    same = noted_read ∙ sym alone_read;
    model = read.model;
    accepted = ap (λ (u : UnpackResult). u.answer) noted_read ∙ read.accepted;
    note = handed;
  }

pub pack_with_note_is_read_back : PackWithNoteIsReadBack
pack_with_note_is_read_back v xs g ns r k e r' long =
    let w = packed_noted v xs g ns r k e in (
      w.n,
      w.long,
      w.alone,
      subst (λ (bytes : List ℕ). ReadBack ns bytes (take w.n (pack_whole v xs (extras g not_given) r).buffers.pack) r')
          (sym w.bytes) (read_back v xs g ns r k w r' long),
    )
