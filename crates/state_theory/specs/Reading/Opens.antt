-- A builder's state and the core's: what is promised of the way from the one to the other. The records of the lent place list stand in
-- the first 4,096 numbers of the plain memory.
-- Assumes nothing.
use Rattle.std.specs.Prelude.{ℕ, ◌*◌, ◌<◌, true, false, List, ◌≡◌, length, Result, Ok, Err}
use Rattle.rules.specs.declared.Builder.{Builder}
use Rattle.rules.specs.Limits.{max_places}
use Rattle.rules.specs.Buffer.{Buffers}
use Rattle.rules.specs.View.{place_rings}
use Rattle.rules.specs.Build.{viewed}
use Rattle.rules.specs.Sound.{sound}
use Rattle.border_theory.specs.Records.Plain.{records}
use Rattle.cutborder.specs.declared.Front.{Front}
use Rattle.border_theory.specs.Memory.Layout.{at}
use Rattle.border_theory.specs.Memory.Stands.{rings_in}
use Rattle.border_theory.specs.Memory.Keeps.{Ready, Keeps}
use Rattle.rules.specs.declared.refusal.Refusal.{Refusal}
use Rattle.rules.specs.declared.refusal.Refusal.TheVariants.{UnsoundState}

-- the buffers that a core works on: the triangle buffer xs, and the first n records of the memory m
abbrev pub lent : List ℕ → ℕ → List ℕ → Buffers
lent xs n m = record { triangles = xs; places = records n m }

-- the records are the same
abbrev pub SameRecords : List ℕ → List ℕ → Type 0
SameRecords m m' = (i : ℕ) → i < 4 * max_places → at m' i ≡ at m i

-- a state that passes 21: f and m' keep the machine that it is read as
pub record Passes (b : Builder) (xs : List ℕ) (n : ℕ) (m : List ℕ) (f : Front) (m' : List ℕ) : Type 0 where
  pub passes : sound b (lent xs n m) ≡ true
  pub whole : n ≡ max_places
  pub ready : Ready max_places f m'
  pub keeps : Keeps max_places f m' (viewed b (lent xs n m))
  -- each place has the record that it has in the list
  pub rings : place_rings b (records max_places m) b.live ≡ rings_in max_places f.loops m'
  pub lengths : length m' ≡ length m
  pub same : SameRecords m m'

-- what the way to the core comes to: the core's state of one that passes 21, or 21
abbrev pub Opened : Type 0
Opened = Result Front Refusal

abbrev pub Opens : Builder → List ℕ → ℕ → List ℕ → Opened → List ℕ → Type 0
Opens b xs n m (Ok f) m' = Passes b xs n m f m'
Opens b xs n m (Err e) m' = (e ≡ UnsoundState) × ((sound b (lent xs n m) ≡ false) × SameRecords m m')
