-- Packs with a note, read: what stands before the note decides, and the note is a part of the pack.
-- Assumes nothing.
use Prim.Native.Nat.{ℕ, ◌+◌, ◌≤◌}
use native.Mathlib.Omega.{arith}
use mathlib.Core.Bool.{Bool, true, false, ◌&&◌}
use mathlib.Core.List.{List, [], ◌++◌, append_assoc}
use mathlib.Core.Logic.{◌⊎◌, inl, inr}
use mathlib.Core.Path.{◌≡◌, refl, sym, ap, ap₂, ◌∙◌, subst}
use lib.Dec.{leb}
use lib.ListN.{length, take, drop, length-append}
use lib.Seq.{drop_at, take-length}
use borrow.Author.Tests.{le-leb, lt-leb, leb-true}
use Rattle.rules.specs.declared.Model.{Model}
use Rattle.rules.specs.Melted.{Melted}
use Rattle.rules.specs.Melted.{Refused}
use Rattle.rules.specs.Limits.{max_note, in_range}
use Rattle.rules.specs.Machine.{as_stated}
use Rattle.rules.specs.Answer.{unpacked}
use Rattle.rules.specs.Buffer.{Buffers}
use Rattle.rules.specs.Fields.{field_of, Fields, no_pack, fields, fields_of}
use Rattle.rules.specs.Unpack.{Ran, stopped, completed, rest_fits, UnpackResult}
use Rattle.rules.specs.Later.{Given, not_given, given, Parts, no_parts, parts, parts_of}
use Rattle.rules.specs.Note.{note_tag, note_fits, with_note, NoteTaken, take_note}
use Rattle.rules.specs.UnpackWhole.{field_fits, model_in, then_tested, unpack_whole}
use Rattle.rules.specs.Reading.{unpack_noted, VolumeResult, positions_in, measured, volume, handed_back, handed_from, bench}
use Rattle.rules.specs.Furnace.{peaks_fit, run_freely_of, melted, melt_run, melt_fields, melt_parts, melt}
use Rattle.counting.proofs.Bools.{and_right}
use Rattle.wire_theory.specs.Shape.{Bytes}
use Rattle.wire_theory.proofs.Lists.{below_front}
use Rattle.wire_theory.proofs.Note.{NoteThere, NoNote, no_note, note_written, note_found}
use Rattle.volume_theory.proofs.Whole.{tested_none, passes}
use Rattle.notes_theory.specs.Claims.{NotesMakeNoDifference, PartOf, TheNoteIsAPartOfThePack, TheBenchReadsThePack}

-- a note that fits has a length that two bytes hold
pub short : (ns : List ℕ) → note_fits (given ns) ≡ true → length ns ≤ max_note
short ns h = leb-true (length ns) max_note (and_right (leb 1 (length ns)) (leb (length ns) max_note) h)

-- by what is taken for the note
abbrev noted_by : NoteTaken → Buffers → UnpackResult
noted_by d r =
    let u = unpack_whole d.before r in then_tested 25 (λ (m : Model). note_fits d.note) r u (model_in u.answer)

abbrev measured_by : NoteTaken → Buffers → UnpackResult → VolumeResult
measured_by d r u = measured (positions_in (parts_of d.before)) r u (model_in u.answer)

-- the furnace's own reader asks of a note only whether it fits
module _ (n : Given (List ℕ)) (fits : note_fits n ≡ true) where
  melt_run_lem : (ps : Given (List ℕ)) (x : Ran) → melt_run ps n x ≡ melt_run ps not_given x
  unfolding melt_run
  melt_run_lem ps (stopped k) = refl
  melt_run_lem ps (completed m xs) =
      ap (λ (t : Bool). elim (rest_fits xs && as_stated m) as (λ _. Melted) [
        | true ↦ elim (field_fits m.stated.vertices ps) [
          | true ↦ elim t [ true ↦ melted ps m | false ↦ Refused 25 ]
          | false ↦ Refused 23
        ]
        | false ↦ Refused 19
      ]) fits

  melt_parts_lem : (p : Parts) → melt_parts n p ≡ melt_parts not_given p
  unfolding melt_parts melt_fields
  melt_parts_lem no_parts = refl
  melt_parts_lem (parts two ps) = go (fields_of two)
    where
      go : (f : Fields) → melt_fields ps n f ≡ melt_fields ps not_given f
      go no_pack = refl
      go (fields s ops) =
          ap (λ (x : Melted). elim (in_range s) as (λ _. Melted) [
            | true ↦ elim (peaks_fit s) [ true ↦ x | false ↦ Refused 26 ]
            | false ↦ Refused 13
          ]) (melt_run_lem ps (run_freely_of s ops))

-- fields in order, and a sound note or none after them
module _ (front two : List ℕ) (g : Given (List ℕ)) (found : parts_of front ≡ parts two g) where
  taken : (n : Given (List ℕ)) → note_fits n ≡ true → take_note (with_note n front) ≡ record { before = front; note = n }
  taken not_given h = no_note front two g found
  taken (given ns) h = note_written front two ns g found (omega (arith, short ns h))

  melt_noted : (n : Given (List ℕ)) → note_fits n ≡ true → melt (with_note n front) ≡ melt_parts not_given (parts_of front)
  melt_noted n h =
      ap (λ (d : NoteTaken). melt_parts d.note (parts_of d.before)) (taken n h) ∙ melt_parts_lem n h (parts_of front)

  module _ (r : Buffers) where
    abbrev u : UnpackResult
    u = unpack_whole front r

    pub unpack_noted_lem : (n : Given (List ℕ)) → note_fits n ≡ true → unpack_noted (with_note n front) r ≡ unpack_whole front r
    unpack_noted_lem n h =
        ap (λ (d : NoteTaken). noted_by d r) (taken n h) ∙ ap (λ (t : Bool). then_tested 25 (λ m. t) r u (model_in u.answer)) h
        ∙ tested_none 25 r u (model_in u.answer)

    pub volume_noted : (n : Given (List ℕ)) → note_fits n ≡ true
        → volume (with_note n front) r
        ≡ measured (positions_in (parts_of front)) r (unpack_whole front r) (model_in (unpack_whole front r).answer)
    volume_noted n h = ap₂ (λ (d : NoteTaken) (x : UnpackResult). measured_by d r x) (taken n h) (unpack_noted_lem n h)

pub notes_make_no_difference : NotesMakeNoDifference
notes_make_no_difference bytes bytes' s = record {
  unpacking = λ r. same (λ us. unpack_noted us r) (λ n h. unpack_noted_lem s.front s.two s.positions s.fields r n h);
  measuring = λ r. same (λ us. volume us r) (λ n h. volume_noted s.front s.two s.positions s.fields r n h);
  melting = same melt (λ n h. melt_noted s.front s.two s.positions s.fields n h);
}
  where
    same : {A : Type 0} {x : A} (f : List ℕ → A) → ((n : Given (List ℕ)) → note_fits n ≡ true → f (with_note n s.front) ≡ x)
        → f bytes ≡ f bytes'
    same f h = ap f s.is ∙ h s.note s.sound ∙ sym (h s.note' s.sound') ∙ sym (ap f s.is')

-- the part that is handed back
empty_part : (bytes : List ℕ) → PartOf bytes 0 []
empty_part bytes = record { within = omega arith; bytes_there = refl }

pub the_note_is_a_part_of_the_pack : TheNoteIsAPartOfThePack
the_note_is_a_part_of_the_pack bytes r = by_note (note_found bytes)
  where
    Part : NoteTaken → Given Model → Type 0
    Part d x = PartOf bytes (handed_from (length d.before) d.note x) (handed_back d.note x)

    none : (x : Given Model) → Part (record { before = bytes; note = not_given }) x
    none not_given = empty_part bytes
    none (given m) = empty_part bytes

    there : (t : NoteThere bytes) (x : Given Model) → Part (record { before = t.front; note = given t.note }) x
    there t not_given = empty_part bytes
    there t (given m) =
        let l = ap length t.from ∙ length-append t.front (t.head ++ t.note) in
        let k = length-append t.head t.note in
        let d : drop (length t.front + 3) bytes ≡ t.note =
        ap (drop (length t.front + 3)) (t.from ∙ sym (append_assoc t.front t.head t.note))
        ∙ drop_at (t.front ++ t.head) t.note (length t.front + 3) (length-append t.front t.head ∙ omega (arith, t.three)) in
        record {
          within = omega (arith, l, k, t.three);
          bytes_there = ap (take (length t.note)) d ∙ take-length t.note;
        }

    by_note : NoNote bytes ⊎ NoteThere bytes → Part (take_note bytes) (model_in (unpack_noted bytes r).answer)
    by_note (inl e) = subst (λ (d : NoteTaken). Part d (model_in (unpack_noted bytes r).answer)) (sym e)
        (none (model_in (unpack_noted bytes r).answer))
    by_note (inr t) = subst (λ (d : NoteTaken). Part d (model_in (unpack_noted bytes r).answer)) (sym t.is)
        (there t (model_in (unpack_noted bytes r).answer))

-- what the bench reader gives, by the note that is taken
none_handed : (n : ℕ) (g : Given (List ℕ)) → (handed_back g not_given ≡ []) × (handed_from n g not_given ≡ 0)
none_handed n not_given = (refl, refl)
none_handed n (given ns) = (refl, refl)

not_handed : (n : ℕ) (x : Given Model) → (handed_back not_given x ≡ []) × (handed_from n not_given x ≡ 0)
not_handed n not_given = (refl, refl)
not_handed n (given m) = (refl, refl)

pub the_bench_reads_the_pack : TheBenchReadsThePack
the_bench_reads_the_pack bytes r = record {
  answer = refl;
  buffers = refl;
  refused = λ k e. by (take_note bytes) not_given refl (ap model_in e)
      (none_handed (length (take_note bytes).before) (take_note bytes).note);
  none = λ two g e. by (record { before = bytes; note = not_given }) model (no_note bytes two g e) refl (not_handed (length bytes) model);
  contents =
      λ front two ns g e h f m a. by_contents front ns m
      (ap take_note f ∙ note_written front two ns g e (omega (arith, short ns h))) (ap model_in a);
}
  where
    model : Given Model
    model = model_in (unpack_noted bytes r).answer

    by : (d : NoteTaken) (x : Given Model) → take_note bytes ≡ d → model_in (unpack_noted bytes r).answer ≡ x
        → (handed_back d.note x ≡ []) × (handed_from (length d.before) d.note x ≡ 0)
        → ((bench bytes r).note ≡ []) × ((bench bytes r).start ≡ 0)
    by d x e f h = (
      ap₂ (λ (y : NoteTaken) (z : Given Model). handed_back y.note z) e f ∙ h.0,
      ap₂ (λ (y : NoteTaken) (z : Given Model). handed_from (length y.before) y.note z) e f ∙ h.1,
    )

    by_contents : (front ns : List ℕ) (m : Model) → take_note bytes ≡ record { before = front; note = given ns }
        → model_in (unpack_noted bytes r).answer ≡ given m → ((bench bytes r).note ≡ ns) × ((bench bytes r).start ≡ length front + 3)
    by_contents front ns m e f = (
      ap₂ (λ (y : NoteTaken) (z : Given Model). handed_back y.note z) e f,
      ap₂ (λ (y : NoteTaken) (z : Given Model). handed_from (length y.before) y.note z) e f,
    )

-- a pack that is accepted: its fields before the note are, and the note fits
pub record AcceptsNoted (bytes : List ℕ) (r : Buffers) (m : Model) : Type 0 where
  pub accepted : (unpack_whole (take_note bytes).before r).answer ≡ unpacked m
  pub fits : note_fits (take_note bytes).note ≡ true
  pub same : unpack_noted bytes r ≡ unpack_whole (take_note bytes).before r

pub accepts_noted : (bytes : List ℕ) (r : Buffers) (m : Model) → (unpack_noted bytes r).answer ≡ unpacked m → AcceptsNoted bytes r m
accepts_noted bytes r m e =
    let d = take_note bytes in
    let x = unpack_whole d.before r in
    let p = passes 25 (λ (n : Model). note_fits d.note) r x m (model_in x.answer) refl e in
    record { accepted = p.accepted; fits = p.fit; same = p.same }

-- it was written so
pub written_noted : (bytes : List ℕ) → Bytes bytes → bytes ≡ with_note (take_note bytes).note (take_note bytes).before
written_noted bytes hb = by_note (note_found bytes)
  where
    by_note : NoNote bytes ⊎ NoteThere bytes → bytes ≡ with_note (take_note bytes).note (take_note bytes).before
    by_note (inl e) = sym (ap (λ (d : NoteTaken). with_note d.note d.before) e)
    by_note (inr t) = t.written hb ∙ sym (ap (λ (d : NoteTaken). with_note d.note d.before) t.is)

pub bytes_before : (bytes : List ℕ) → Bytes bytes → Bytes (take_note bytes).before
bytes_before bytes hb = go (take_note bytes).note (take_note bytes).before (written_noted bytes hb)
  where
    go : (n : Given (List ℕ)) (front : List ℕ) → bytes ≡ with_note n front → Bytes front
    go not_given front e = subst Bytes e hb
    go (given ns) front e = below_front 256 front (field_of note_tag ns) (subst Bytes e hb)
