-- Unpacking a pack that may have a note: what stands before it, and 25; and what the bench reader tells.
-- Assumes nothing.
use Prim.Native.Nat.{ℕ, ◌+◌}
use mathlib.Core.Bool.{Bool, true}
use mathlib.Core.List.{List}
use mathlib.Core.Path.{◌≡◌, refl, sym, ap, ◌∙◌, subst}
use lib.ListN.{length}
use Rattle.std.specs.Prelude.{Option, Some, None}
use Rattle.rules.specs.declared.Model.{Model}
use Rattle.rules.specs.declared.Span.{Span}
use Rattle.rules.specs.Unpacked.{Unpacked}
use Rattle.rules.specs.Unpacked as U
use Rattle.rules.specs.Benched.{Benched, start_of, length_of}
use Rattle.rules.specs.Answer.{unpacked_answer}
use Rattle.rules.specs.Unpack.{UnpackResult}
use Rattle.rules.specs.Later.{Given, not_given, given}
use Rattle.rules.specs.Note.{note_fits, NoteTaken, take_note}
use Rattle.rules.specs.UnpackWhole.{model_in, then_tested, unpack_whole}
use Rattle.rules.specs.Reading.{unpack_noted, handed_back, handed_from}
use Rattle.border_theory.specs.Records.Lent.{lent}
use Rattle.positions_theory.specs.Unpacking.{UnpackedWholeOn, tested_answer, tested_triangles, always, TestTold}
use Rattle.positions_theory.proofs.Unpacking.{whole_beyond, tested_on, told_answer, told_triangles}
use Rattle.notes_theory.specs.Unpacking.{UnpackedNotedOn, note_test, Handed, Spanned, BenchedOn}
use Rattle.notes_theory.proofs.Reading.{accepts_noted}

abbrev noted_by : NoteTaken → List ℕ → ℕ → UnpackResult
noted_by d ts n =
    let u = unpack_whole d.before (lent n ts) in then_tested 25 (λ (m : Model). note_fits d.note) (lent n ts) u (model_in u.answer)

-- what stands before the note is unpacked, then 25 is tested
module _ (bytes front : List ℕ) (ns : Given (List ℕ)) (ts : List ℕ) (n : ℕ)
    (e : record { before = front; note = ns } ≡ take_note bytes) where
  pub note_on : (r : Unpacked) (ts' : List ℕ) → UnpackedWholeOn front ts n r ts'
      → UnpackedNotedOn bytes ts n (tested_answer 25 (note_test ns) r) (tested_triangles (note_test ns) r ts')
  note_on r ts' h =
      let u = unpack_whole front (lent n ts) in
      let w = ap (λ (d : NoteTaken). noted_by d ts n) (sym e) in
      let t =
      tested_on 25 (note_test ns) ts n u
      (λ m a. whole_beyond front ts n m u.buffers.triangles (record { answer = sym a; triangles = refl })) r ts' h.answer
      h.triangles in
      record {
        answer = t.0 ∙ sym (ap (λ (x : UnpackResult). x.answer) w);
        triangles = t.1 ∙ sym (ap (λ (x : UnpackResult). x.buffers.triangles) w);
      }

  pub note_refused : (k : ℕ) (ts' : List ℕ) → UnpackedWholeOn front ts n (U.Refused k) ts' → UnpackedNotedOn bytes ts n (U.Refused k) ts'
  note_refused k ts' h = note_on (U.Refused k) ts' h

  -- after a test of the note with the outcome b
  pub note_tested : (r : Unpacked) (ts' : List ℕ) → UnpackedWholeOn front ts n r ts' → (b : Bool) → b ≡ note_fits ns
      → (s : Unpacked) (us : List ℕ) → s ≡ tested_answer 25 (always b) r → us ≡ tested_triangles (always b) r ts'
      → UnpackedNotedOn bytes ts n s us
  note_tested r ts' h b f s us p q =
      let t : TestTold (note_test ns) r b = λ m e. f in
      let d = note_on r ts' h in
      record {
        answer = ap unpacked_answer (p ∙ told_answer (note_test ns) b 25 r t) ∙ d.answer;
        triangles = q ∙ told_triangles (note_test ns) b r ts' t ∙ d.triangles;
      }

-- the note of an accepted pack fits
pub noted_fits : (bytes ts : List ℕ) (n : ℕ) (m : Model) (ts' : List ℕ) → UnpackedNotedOn bytes ts n (U.Gives m) ts'
    → note_fits (take_note bytes).note ≡ true
noted_fits bytes ts n m ts' u = (accepts_noted bytes (lent n ts) m (sym u.answer)).fits

-- where the note stands: none, or to the end of the bytes
module _ (bytes front : List ℕ) where
  abbrev SpannedBy : NoteTaken → Option Span → Type 0
  SpannedBy d s = (m : Model) → (start_of s ≡ handed_from (length d.before) d.note (given m))
      × (length_of s ≡ length (handed_back d.note (given m)))

  pub spanned_none : record { before = front; note = not_given } ≡ take_note bytes → Spanned bytes None
  spanned_none e = subst (λ (d : NoteTaken). SpannedBy d None) e (λ m. (refl, refl))

  pub spanned_some : (ns : List ℕ) → record { before = front; note = given ns } ≡ take_note bytes → (s : Span)
      → s.start ≡ length front + 3 → s.length ≡ length ns → Spanned bytes (Some s)
  spanned_some ns e s a b = subst (λ (d : NoteTaken). SpannedBy d (Some s)) e (λ m. (a, b))

-- the bench reader tells it after an unpacking
pub bench_on : (bytes ts : List ℕ) (n : ℕ) (r : Unpacked) (ts' : List ℕ) (b : Benched) → UnpackedNotedOn bytes ts n r ts' → Handed bytes r b
    → BenchedOn bytes ts n b ts'
bench_on bytes ts n r ts' b u h =
    let a : model_in (unpacked_answer r) ≡ model_in (unpack_noted bytes (lent n ts)).answer = ap model_in u.answer in
    record {
      answer = ap unpacked_answer h.answer ∙ u.answer;
      start = h.start ∙ ap (handed_from (length (take_note bytes).before) (take_note bytes).note) a;
      long = h.long ∙ ap (λ (x : Given Model). length (handed_back (take_note bytes).note x)) a;
      triangles = u.triangles;
    }

pub bench_refused : (bytes ts : List ℕ) (n k : ℕ) (ts' : List ℕ) → UnpackedNotedOn bytes ts n (U.Refused k) ts'
    → BenchedOn bytes ts n (record { answer = U.Refused k; start = 0; length = 0 }) ts'
bench_refused bytes ts n k ts' u =
    bench_on bytes ts n (U.Refused k) ts' (record { answer = U.Refused k; start = 0; length = 0 }) u
    (record { answer = refl; start = refl; long = refl })

pub bench_model : (bytes ts : List ℕ) (n : ℕ) (m : Model) (ts' : List ℕ) (s : Option Span) → UnpackedNotedOn bytes ts n (U.Gives m) ts'
    → Spanned bytes s → BenchedOn bytes ts n (record { answer = U.Gives m; start = start_of s; length = length_of s }) ts'
bench_model bytes ts n m ts' s u h =
    bench_on bytes ts n (U.Gives m) ts' (record { answer = U.Gives m; start = start_of s; length = length_of s }) u
    (record { answer = refl; start = (h m).0; long = (h m).1 })
