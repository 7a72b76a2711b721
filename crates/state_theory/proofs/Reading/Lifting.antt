-- From a lent list of records to the plain memory that it is loaded into: the test of 21 says the same of both, and a state that passes
-- is read as the same machine.
-- Assumes nothing.
use Prim.Native.Nat.{ℕ, ◌≤◌, ◌<◌}
use native.Mathlib.Omega.{arith}
use mathlib.Core.Bool.{Bool, true, false}
use mathlib.Core.List.{List}
use mathlib.Core.Path.{◌≡◌, refl, sym, ap, ◌∙◌}
use lib.Dec.{ltb, leb}
use lib.ListN.{length, take}
use lib.Seq.{take-length, length-take-le, get_or-take}
use borrow.Author.Tests.{ltb-true, ltb-false, le-leb}
use Rattle.rules.specs.declared.Place.{Place}
use Rattle.rules.specs.declared.Builder.{Builder}
use Rattle.rules.specs.Limits.{max_places}
use Rattle.rules.specs.Buffer.{free_place, Buffers}
use Rattle.rules.specs.View.{view}
use Rattle.rules.specs.Sound.{links_fit, sound}
use Rattle.border_theory.specs.Records.Plain.{records}
use Rattle.border_theory.proofs.Records.Counting.{count_short, count_long}
use Rattle.border_theory.proofs.Records.Reading.{counted, memory_of, memory_reads}
use Rattle.state_theory.specs.Reading.Opens.{lent}
use Rattle.state_theory.proofs.Reading.Alike.{Alike, sound_alike, view_alike}
use Rattle.promises.proofs.Kept.{sound_links}

abbrev buffers : List ℕ → List Place → Buffers
buffers xs ps = record { triangles = xs; places = ps }

-- the records read are all of the list, or its first 1,024
read_short : (ps : List Place) → length ps < max_places → records (counted ps) (memory_of ps) ≡ ps
read_short ps h = memory_reads ps ∙ ap (λ (n : ℕ). take n ps) (sym (count_short (length ps) h)) ∙ take-length ps

read_long : (ps : List Place) → max_places ≤ length ps → records (counted ps) (memory_of ps) ≡ take max_places ps
read_long ps h = memory_reads ps ∙ ap (λ (n : ℕ). take n ps) (sym (count_long (length ps) h))

read_alike : (ps : List Place) → Alike max_places ps (take max_places ps)
read_alike ps i h = get_or-take max_places ps i free_place h

both_long : (ps qs : List Place) → max_places ≤ length ps → max_places ≤ length qs → leb max_places (length qs) ≡ leb max_places (length ps)
both_long ps qs h g = le-leb max_places (length qs) g ∙ sym (le-leb max_places (length ps) h)

module _ (b : Builder) (xs : List ℕ) (ps : List Place) where
  sound_by : (t : Bool) → ltb (length ps) max_places ≡ t → sound b (buffers xs ps) ≡ sound b (lent xs (counted ps) (memory_of ps))
  sound_by true e = ap (λ (qs : List Place). sound b (buffers xs qs)) (sym (read_short ps (ltb-true (length ps) max_places e)))
  sound_by false e =
      let h : max_places ≤ length ps = ltb-false (length ps) max_places e in
      sym
      (ap (λ (qs : List Place). sound b (buffers xs qs)) (read_long ps h)
      ∙ sound_alike ps (take max_places ps) (read_alike ps)
      (both_long ps (take max_places ps) h (omega (arith, length-take-le max_places ps h))) b xs)

  pub loaded_sound : sound b (record { triangles = xs; places = ps }) ≡ sound b (lent xs (counted ps) (memory_of ps))
  loaded_sound = sound_by (ltb (length ps) max_places) refl

  view_by : (t : Bool) → ltb (length ps) max_places ≡ t → links_fit b ps ≡ true
      → view b xs ps ≡ view b xs (records (counted ps) (memory_of ps))
  view_by true e l = ap (view b xs) (sym (read_short ps (ltb-true (length ps) max_places e)))
  view_by false e l =
      sym
      (ap (view b xs) (read_long ps (ltb-false (length ps) max_places e))
      ∙ view_alike ps (take max_places ps) (read_alike ps) b xs l)

  pub loaded_view : sound b (record { triangles = xs; places = ps }) ≡ true → view b xs ps ≡ view b xs (records (counted ps) (memory_of ps))
  loaded_view h = view_by (ltb (length ps) max_places) refl (sound_links b (buffers xs ps) h)
