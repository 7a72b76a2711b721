-- Of the place list that unpacking is lent only its length counts; and how many of its records are cleared is read off the answer. The
-- same of a test after it, and of the volume.
-- Assumes nothing.
use Prim.Native.Nat.{ℕ, ◌*◌, ◌≤◌}
use mathlib.Core.Bool.{Bool, true, false}
use mathlib.Core.List.{List}
use mathlib.Core.Path.{◌≡◌, refl, sym, ap, subst}
use lib.Dec.{eqb, leb}
use lib.ListN.{length, take}
use Rattle.rules.specs.declared.Place.{Place}
use Rattle.rules.specs.declared.Model.{Model}
use Rattle.rules.specs.Measured.{Measured}
use Rattle.rules.specs.Measured as M
use Rattle.rules.specs.Limits.{max_places}
use Rattle.rules.specs.Triangle.{triangles_of}
use Rattle.rules.specs.Answer.{Answer, refusal, accepted, triangle, no_triangle, numbers, packed, unpacked}
use Rattle.rules.specs.Buffer.{zeroed, cleared, Buffers}
use Rattle.rules.specs.Fields.{fields_of}
use Rattle.rules.specs.Unpack.{UnpackResult, unpack}
use Rattle.rules.specs.Grid.{positions_from}
use Rattle.rules.specs.Volume.{six_volumes}
use Rattle.rules.specs.Later.{Given, not_given, given, Parts, no_parts, parts, parts_of}
use Rattle.rules.specs.UnpackWhole.{field_fits, model_in, left_by20, then_tested, unpack_parts, unpack_whole}
use Rattle.rules.specs.Reading.{VolumeResult, measured_answer, six_of, measured}
use Rattle.border_theory.specs.Records.Lent.{lent}
use Rattle.border_theory.proofs.Records.Reading.{counted, counted_enough}
use Rattle.border_theory.proofs.Records.Clearing.{Clears, clears_none, clears_first}
use Rattle.unpack_theory.proofs.Lending.{Alike, alike_fields}
use Rattle.unpack_theory.proofs.Cleared.{cleared_after, ClearsBy, unpack_clears}
use Rattle.positions_theory.specs.Unpacking.{unpack_whole_on, cleared_measuring}

-- what comes of a test that is answered k, and of 24, after an unpacking u of the model m into the buffers r
abbrev by_test : ℕ → Model → Buffers → UnpackResult → Bool → UnpackResult
by_test k m r u t = elim t [ true ↦ u | false ↦ record { answer = refusal k; buffers = left_by20 m r } ]

abbrev none : Model → Buffers → VolumeResult
none m r = record { answer = refusal 24; six = not_given; buffers = left_by20 m r }

abbrev by24 : List ℕ → Model → Buffers → UnpackResult → Bool → VolumeResult
by24 bs m r u t = elim t [
  | true ↦ record { answer = u.answer; six = given (six_of bs m u.buffers); buffers = u.buffers }
  | false ↦ none m r
]

-- the same answer, volume and triangles
pub record AlikeVolumes (x y : VolumeResult) : Type 0 where
  pub answer : x.answer ≡ y.answer
  pub six : x.six ≡ y.six
  pub triangles : x.buffers.triangles ≡ y.buffers.triangles

-- unpackings that are alike, into buffers with the same triangles
module _ (r r' : Buffers) (e : r.triangles ≡ r'.triangles) (u u' : UnpackResult) (a : Alike u u') where
  alike_by : (k : ℕ) (m : Model) (t : Bool) → Alike (by_test k m r u t) (by_test k m r' u' t)
  alike_by k m true = a
  alike_by k m false = record { answer = refl; triangles = ap (zeroed (3 * m.triangles)) e }

  tested_at : (k : ℕ) (fits : Model → Bool) (x : Given Model) → Alike (then_tested k fits r u x) (then_tested k fits r' u' x)
  unfolding then_tested
  tested_at k fits not_given = a
  tested_at k fits (given m) = alike_by k m (fits m)

  pub alike_tested : (k : ℕ) (fits : Model → Bool)
      → Alike (then_tested k fits r u (model_in u.answer)) (then_tested k fits r' u' (model_in u'.answer))
  alike_tested k fits =
      subst (λ (x : Given Model). Alike (then_tested k fits r u (model_in u.answer)) (then_tested k fits r' u' x))
      (ap model_in a.answer) (tested_at k fits (model_in u.answer))

  alike_none : (m : Model) → AlikeVolumes (none m r) (none m r')
  alike_none m = record { answer = refl; six = refl; triangles = ap (zeroed (3 * m.triangles)) e }

  alike_24 : (bs : List ℕ) (m : Model) (t : Bool) → AlikeVolumes (by24 bs m r u t) (by24 bs m r' u' t)
  alike_24 bs m true = record {
    answer = a.answer;
    six = ap (λ (ts : List ℕ). given (six_volumes (positions_from bs) (triangles_of (take (3 * m.triangles) ts)))) a.triangles;
    triangles = a.triangles;
  }
  alike_24 bs m false = alike_none m

  measured_at : (g : Given (List ℕ)) (x : Given Model) → AlikeVolumes (measured g r u x) (measured g r' u' x)
  unfolding measured
  measured_at not_given not_given = record { answer = a.answer; six = refl; triangles = a.triangles }
  measured_at (given bs) not_given = record { answer = a.answer; six = refl; triangles = a.triangles }
  measured_at not_given (given m) = alike_none m
  measured_at (given bs) (given m) = alike_24 bs m (eqb m.totals.rims 0)

  pub alike_measured : (g : Given (List ℕ))
      → AlikeVolumes (measured g r u (model_in u.answer)) (measured g r' u' (model_in u'.answer))
  alike_measured g =
      subst (λ (x : Given Model). AlikeVolumes (measured g r u (model_in u.answer)) (measured g r' u' x)) (ap model_in a.answer)
      (measured_at g (model_in u.answer))

alike_parts : (r r' : Buffers) → r.triangles ≡ r'.triangles
    → leb max_places (length {A = Place} r.places) ≡ leb max_places (length {A = Place} r'.places) → (p : Parts)
    → Alike (unpack_parts r p) (unpack_parts r' p)
unfolding unpack_parts
alike_parts r r' e h no_parts = record { answer = refl; triangles = e }
alike_parts r r' e h (parts two g) =
    alike_tested r r' e (unpack two r) (unpack two r') (alike_fields r r' e h (fields_of two)) 23 (λ m. field_fits m.vertices g)

-- any list goes as so many records as are read of it
pub lend_unpack : (bytes ts : List ℕ) (ps : List Place)
    → Alike (unpack_whole bytes (record { triangles = ts; places = ps })) (unpack_whole_on bytes (counted ps) ts)
lend_unpack bytes ts ps =
    alike_parts (record { triangles = ts; places = ps }) (lent (counted ps) ts) refl (counted_enough ps) (parts_of bytes)

-- only with 1,024 records is there a model
abbrev pub LongFor : Buffers → Given Model → Type 0
LongFor r not_given = Unit {0}
LongFor r (given m) = max_places ≤ length {A = Place} r.places

pub long_for : (r : Buffers) (a : Answer) → cleared_after a ≤ length {A = Place} r.places → LongFor r (model_in a)
long_for r (unpacked m) h = h
long_for r (refusal n) h = tt
long_for r accepted h = tt
long_for r (triangle t) h = tt
long_for r no_triangle h = tt
long_for r (numbers x) h = tt
long_for r (packed n) h = tt

module _ (r : Buffers) (u : UnpackResult) (c : ClearsBy r u.answer u.buffers) where
  tested_clears_at : (k : ℕ) → cleared_after (refusal k) ≡ max_places → (fits : Model → Bool) (x : Given Model) → LongFor r x
      → ClearsBy r (then_tested k fits r u x).answer (then_tested k fits r u x).buffers
  unfolding then_tested
  tested_clears_at k h fits not_given l = c
  tested_clears_at k h fits (given m) l = go (fits m)
    where
      go : (t : Bool) → ClearsBy r (by_test k m r u t).answer (by_test k m r u t).buffers
      go true = c
      go false = subst (λ (i : ℕ). Clears r.places i (cleared r.places)) (sym h) (clears_first r.places l)

  -- a refusal k past 14
  pub tested_clears : (k : ℕ) → cleared_after (refusal k) ≡ max_places → (fits : Model → Bool)
      → ClearsBy r (then_tested k fits r u (model_in u.answer)).answer (then_tested k fits r u (model_in u.answer)).buffers
  tested_clears k h fits = tested_clears_at k h fits (model_in u.answer) (long_for r u.answer c.fits)

  measured_clears_at : (g : Given (List ℕ)) (x : Given Model) → LongFor r x
      → ClearsBy r (measured g r u x).answer (measured g r u x).buffers
  unfolding measured
  measured_clears_at not_given not_given l = c
  measured_clears_at (given bs) not_given l = c
  measured_clears_at not_given (given m) l = clears_first r.places l
  measured_clears_at (given bs) (given m) l = go (eqb m.totals.rims 0)
    where
      go : (t : Bool) → ClearsBy r (by24 bs m r u t).answer (by24 bs m r u t).buffers
      go true = c
      go false = clears_first r.places l

  pub measured_clears : (g : Given (List ℕ))
      → ClearsBy r (measured g r u (model_in u.answer)).answer (measured g r u (model_in u.answer)).buffers
  measured_clears g = measured_clears_at g (model_in u.answer) (long_for r u.answer c.fits)

parts_clear : (r : Buffers) (p : Parts) → ClearsBy r (unpack_parts r p).answer (unpack_parts r p).buffers
unfolding unpack_parts
parts_clear r no_parts = clears_none r.places
parts_clear r (parts two g) = tested_clears r (unpack two r) (unpack_clears two r) 23 refl (λ m. field_fits m.vertices g)

-- past 14 the first 1,024, before it none
pub unpack_whole_clears : (bytes : List ℕ) (r : Buffers) → ClearsBy r (unpack_whole bytes r).answer (unpack_whole bytes r).buffers
unpack_whole_clears bytes r = parts_clear r (parts_of bytes)

pub measuring_by : (r : Measured) → cleared_measuring r ≡ cleared_after (measured_answer r)
measuring_by (M.Volume m z) = refl
measuring_by (M.Refused n) = refl
