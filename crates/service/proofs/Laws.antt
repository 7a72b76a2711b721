-- What a core promises, carried to the lent list of place records.
-- Assumes nothing.
use Prim.Native.Nat.{ℕ, ◌+◌, ◌≤◌, ◌<◌}
use native.Mathlib.Omega.{arith}
use mathlib.Core.List.{List}
use mathlib.Core.Path.{◌≡◌, refl, sym, ap, ◌∙◌, subst}
use lib.ListN.{length, take, drop}
use Rattle.rules.specs.declared.Counts.{Counts}
use Rattle.rules.specs.declared.Place.{Place}
use Rattle.rules.specs.declared.Builder.{Builder}
use Rattle.rules.specs.Unpacked.{Unpacked}
use Rattle.rules.specs.Benched.{Benched}
use Rattle.rules.specs.Measured.{Measured}
use Rattle.rules.specs.Begun.{Begun}
use Rattle.rules.specs.Finished.{Finished}
use Rattle.rules.specs.Answer.{Answer, unpacked_answer}
use Rattle.rules.specs.Note.{take_note}
use Rattle.rules.specs.UnpackWhole.{model_in}
use Rattle.rules.specs.Reading.{unpack_noted, measured_answer, volume, handed_back, handed_from, bench}
use Rattle.rules.specs.Book.{answer_of}
use Rattle.border_theory.specs.Memory.Layout.{open_of}
use Rattle.border_theory.specs.Records.Lent.{lent}
use Rattle.border_theory.specs.Records.Changes.{cleared_to}
use Rattle.border_theory.proofs.Records.Reading.{counted, memory_of}
use Rattle.border_theory.proofs.Records.Counting.{count_within}
use Rattle.border_theory.proofs.Records.Clearing.{Clears}
use Rattle.promises.specs.Promises.{lent_to, Unpacks, Measures, Tells, HandsBack, further, Beginning, Finishing}
use Rattle.unpack_theory.specs.Lent.{cleared_by}
use Rattle.unpack_theory.proofs.Lending.{Alike}
use Rattle.unpack_theory.proofs.Cleared.{cleared_after, cleared_by_lem}
use Rattle.positions_theory.specs.Unpacking.{cleared_measuring}
use Rattle.positions_theory.proofs.Lending.{AlikeVolumes, measuring_by}
use Rattle.notes_theory.specs.Unpacking.{UnpackedNotedOn, MeasuredOn, BenchedOn, cleared_bench}
use Rattle.notes_theory.proofs.Lending.{lend_unpack, lend_volume, unpack_noted_clears, volume_clears}
use Rattle.notes_theory.proofs.Reading.{the_note_is_a_part_of_the_pack}
use Rattle.state_theory.proofs.Reading.Flags.{loaded_open}
use Rattle.state_theory.specs.Finishing.Core.{BeginsOn, FinishesOn, cleared_by as clearedBegun}
use Rattle.state_theory.proofs.Finishing.Lifting.{begins_lifted}
use Rattle.state_theory.proofs.Performing.Lifting.{finishes_same}

module _ (bytes ts : List ℕ) (ps : List Place) (r : Unpacked) (ts' : List ℕ) (p : UnpackedNotedOn bytes ts (counted ps) r ts') where
  unpacks_same : Alike (unpack_noted bytes (lent_to ts ps)) (unpack_noted bytes (lent (counted ps) ts))
  unpacks_same = lend_unpack bytes ts ps

  unpacks_answer : unpacked_answer r ≡ (unpack_noted bytes (lent_to ts ps)).answer
  unpacks_answer = p.answer ∙ sym unpacks_same.answer

  unpacks_clears : Clears ps (cleared_by r) (unpack_noted bytes (lent_to ts ps)).buffers.places
  unpacks_clears =
      subst (λ (n : ℕ). Clears ps n (unpack_noted bytes (lent_to ts ps)).buffers.places)
      (sym (cleared_by_lem r ∙ ap cleared_after unpacks_answer)) (unpack_noted_clears bytes (lent_to ts ps))

  pub unpacks_fit : cleared_by r ≤ length ps
  unpacks_fit = unpacks_clears.fits

  pub unpacks : (ps' : List Place) → ps' ≡ cleared_to (cleared_by r) ps → Unpacks bytes ts ps r ts' ps'
  unpacks ps' e = record {
    answer = unpacks_answer;
    triangles = p.triangles ∙ sym unpacks_same.triangles;
    places = e ∙ sym unpacks_clears.places;
  }

module _ (bytes ts : List ℕ) (ps : List Place) (r : Measured) (ts' : List ℕ) (p : MeasuredOn bytes ts (counted ps) r ts') where
  measures_same : AlikeVolumes (volume bytes (lent_to ts ps)) (volume bytes (lent (counted ps) ts))
  measures_same = lend_volume bytes ts ps

  measures_answer : measured_answer r ≡ (volume bytes (lent_to ts ps)).answer
  measures_answer = p.answer ∙ sym measures_same.answer

  measures_clears : Clears ps (cleared_measuring r) (volume bytes (lent_to ts ps)).buffers.places
  measures_clears =
      subst (λ (n : ℕ). Clears ps n (volume bytes (lent_to ts ps)).buffers.places)
      (sym (measuring_by r ∙ ap cleared_after measures_answer)) (volume_clears bytes (lent_to ts ps))

  pub measures_fit : cleared_measuring r ≤ length ps
  measures_fit = measures_clears.fits

  pub measures : (ps' : List Place) → ps' ≡ cleared_to (cleared_measuring r) ps → Measures bytes ts ps r ts' ps'
  measures ps' e = record {
    answer = measures_answer;
    six = p.six ∙ sym measures_same.six;
    triangles = p.triangles ∙ sym measures_same.triangles;
    places = e ∙ sym measures_clears.places;
  }

-- the bench reader: it unpacks, and what it tells of the note is read off the answer
module _ (bytes ts : List ℕ) (ps : List Place) (b : Benched) (ts' : List ℕ) (p : BenchedOn bytes ts (counted ps) b ts') where
  reads : UnpackedNotedOn bytes ts (counted ps) b.answer ts'
  reads = record { answer = p.answer; triangles = p.triangles }

  reads_same : (bench bytes (lent (counted ps) ts)).answer ≡ (bench bytes (lent_to ts ps)).answer
  reads_same = sym (unpacks_same bytes ts ps b.answer ts' reads).answer

  pub tells_fit : cleared_bench b ≤ length ps
  tells_fit = unpacks_fit bytes ts ps b.answer ts' reads

  pub tells : (ps' : List Place) → ps' ≡ cleared_to (cleared_bench b) ps → Tells bytes ts ps b ts' ps'
  tells ps' e =
      let d = take_note bytes in
      let u = unpacks bytes ts ps b.answer ts' reads ps' e in
      record {
        answer = u.answer;
        start = p.start ∙ ap (λ (a : Answer). handed_from (length d.before) d.note (model_in a)) reads_same;
        long = p.long ∙ ap (λ (a : Answer). length (handed_back d.note (model_in a))) reads_same;
        triangles = u.triangles;
        places = u.places;
      }

-- the note that it tells of, as a part of the pack
module _ (bytes ts : List ℕ) (ps : List Place) (b : Benched) (ts' : List ℕ) (ps' : List Place) (t : Tells bytes ts ps b ts' ps') where
  pub note_within : b.start + b.length ≤ length bytes
  note_within = omega (arith, t.start, t.long, (the_note_is_a_part_of_the_pack bytes (lent_to ts ps)).within)

  pub hands_back : (p q : ℕ × ℕ) (ns : List ℕ) → (ns ≡ take b.length (drop b.start bytes)) × (q ≡ further b.start p)
      → HandsBack bytes p ts ps b.answer ns q ts' ps'
  hands_back p q ns e = record {
    answer = t.answer;
    note = e.0 ∙ (ap (λ (k : ℕ). take k (drop b.start bytes)) t.long
        ∙ (ap (λ (k : ℕ). take (length (bench bytes (lent_to ts ps)).note) (drop k bytes)) t.start
        ∙ (the_note_is_a_part_of_the_pack bytes (lent_to ts ps)).bytes_there));
    there = e.1 ∙ ap (λ (k : ℕ). further k p) t.start;
    triangles = t.triangles;
    places = t.places;
  }

-- what the cores of the operation and of the finish ask of the memory that a list is read into
pub loaded_fits : (ps : List Place) → (counted ps ≤ 1024) × ((p : ℕ) → p < 1024 → open_of (memory_of ps) p ≤ 1)
loaded_fits ps = ((count_within (length ps)).1, loaded_open ps)

-- the building calls
pub begins_as : (s : Counts) (ts : List ℕ) (ps : List Place) (r : Begun) (ts' : List ℕ) → BeginsOn s ts (counted ps) r ts'
    → (ps' : List Place)
    → ps' ≡ cleared_to (clearedBegun r) ps → Beginning s ts ps r ts' ps'
begins_as s ts ps r ts' p ps' e =
    let l = begins_lifted s ts ps r ts' ps' p e in
    record { answer = l.0; after = l.1 }

pub finishes_as : (b : Builder) (ts : List ℕ) (ps : List Place) (r : Finished) (m' : List ℕ)
    → FinishesOn b ts (memory_of ps) (counted ps) r m' → Finishing b ts ps r
finishes_as b ts ps r m' p = record { answer = p.answer ∙ ap answer_of (sym (finishes_same b ts ps)) }
