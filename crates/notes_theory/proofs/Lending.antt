-- Of the place list that unpacking and the volume call are lent only its length counts; and how many of its records are cleared is read
-- off the answer.
-- Assumes nothing.
use Prim.Native.Nat.{ℕ}
use mathlib.Core.List.{List}
use mathlib.Core.Path.{refl}
use Rattle.rules.specs.declared.Place.{Place}
use Rattle.rules.specs.Buffer.{Buffers}
use Rattle.rules.specs.Later.{parts_of}
use Rattle.rules.specs.Note.{note_fits, take_note}
use Rattle.rules.specs.UnpackWhole.{unpack_whole}
use Rattle.rules.specs.Reading.{unpack_noted, positions_in, volume}
use Rattle.border_theory.specs.Records.Lent.{lent}
use Rattle.border_theory.proofs.Records.Reading.{counted}
use Rattle.unpack_theory.proofs.Lending.{Alike}
use Rattle.unpack_theory.proofs.Cleared.{ClearsBy}
use Rattle.positions_theory.proofs.Lending.{AlikeVolumes, alike_tested, alike_measured, tested_clears, measured_clears}
use Rattle.positions_theory.proofs.Lending.{lend_unpack as lend-front, unpack_whole_clears}

-- any list goes as so many records as are read of it
module _ (bytes ts : List ℕ) (ps : List Place) where
  abbrev r : Buffers
  r = record { triangles = ts; places = ps }

  abbrev r' : Buffers
  r' = lent (counted ps) ts

  abbrev front : List ℕ
  front = (take_note bytes).before

  pub lend_unpack : Alike (unpack_noted bytes (record { triangles = ts; places = ps })) (unpack_noted bytes (lent (counted ps) ts))
  lend_unpack =
      alike_tested r r' refl (unpack_whole front r) (unpack_whole front r') (lend-front front ts ps) 25
      (λ m. note_fits (take_note bytes).note)

  pub lend_volume : AlikeVolumes (volume bytes (record { triangles = ts; places = ps })) (volume bytes (lent (counted ps) ts))
  lend_volume = alike_measured r r' refl (unpack_noted bytes r) (unpack_noted bytes r') lend_unpack (positions_in (parts_of front))

-- past 14 the first 1,024, before it none
module _ (bytes : List ℕ) (r : Buffers) where
  pub unpack_noted_clears : ClearsBy r (unpack_noted bytes r).answer (unpack_noted bytes r).buffers
  unpack_noted_clears =
      let front = (take_note bytes).before in
      tested_clears r (unpack_whole front r) (unpack_whole_clears front r) 25 refl (λ m. note_fits (take_note bytes).note)

  pub volume_clears : ClearsBy r (volume bytes r).answer (volume bytes r).buffers
  volume_clears =
      measured_clears r (unpack_noted bytes r) unpack_noted_clears (positions_in (parts_of (take_note bytes).before))
