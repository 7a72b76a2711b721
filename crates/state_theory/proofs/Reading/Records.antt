-- The records of the plain memory as a list: what stands at each number, and memories with the same records.
-- Assumes nothing.
use Prim.Native.Nat.{ℕ, zero, suc, ◌+◌, ◌*◌, ◌≤◌, ◌<◌}
use native.Mathlib.Omega.{arith}
use mathlib.Core.Bool.{Bool, true, false}
use mathlib.Core.List.{List, [], ◌∷◌, ◌++◌}
use mathlib.Core.Path.{◌≡◌, refl, sym, ap, ◌∙◌, subst}
use lib.Dec.{ltb}
use lib.ListN.{length, get_or, get_or-append}
use lib.Seq.{get_or_at}
use borrow.Author.Tests.{ltb-true, ltb-false}
use Rattle.rules.specs.declared.Place.{Place}
use Rattle.rules.specs.Limits.{max_places}
use Rattle.rules.specs.Buffer.{free_place}
use Rattle.rules.specs.View.{place_at}
use Rattle.border_theory.specs.Records.Plain.{is_one, record_at, records}
use Rattle.border_theory.proofs.Records.Reading.{length_records}
use Rattle.state_theory.specs.Reading.Opens.{SameRecords}

-- record i of the list is record i of the memory
at_by : (k : ℕ) (m : List ℕ) (i : ℕ) → (i < k → place_at (records k m) i ≡ record_at m i) → i < suc k → (t : Bool) → ltb i k ≡ t
    → get_or (records k m ++ (record_at m k ∷ [])) i free_place ≡ record_at m i
at_by k m i ih h true e =
    get_or-append (records k m) (record_at m k ∷ []) free_place i (omega (arith, ltb-true i k e, length_records k m)) ∙ ih (ltb-true i k e)
at_by k m i ih h false e =
    let d : i ≡ k = omega (arith, ltb-false i k e, h) in
    subst (λ (j : ℕ). get_or (records k m ++ (record_at m k ∷ [])) j free_place ≡ record_at m j) (sym d)
    (get_or_at (records k m) (record_at m k) [] free_place k (length_records k m))

pub records_at : (n : ℕ) (m : List ℕ) (i : ℕ) → i < n → place_at (records n m) i ≡ record_at m i
unfolding records
records_at zero m i h = absurd (omega (arith, h))
records_at (suc k) m i h = at_by k m i (λ l. records_at k m i l) h (ltb i k) refl

-- a record beyond them
pub past_end : (ps : List Place) (i : ℕ) → length ps ≤ i → free_place ≡ place_at ps i
past_end [] i h = refl
past_end (p ∷ ps) zero h = absurd (omega arith)
past_end (p ∷ ps) (suc i) h = past_end ps i (omega arith)

pub place_none : (m : List ℕ) (i : ℕ) → max_places ≤ i → free_place ≡ place_at (records max_places m) i
place_none m i h = past_end (records max_places m) i (omega (arith, h, length_records max_places m))

-- a memory with the same records
record_alike : (m m' : List ℕ) → SameRecords m m' → (i : ℕ) → i < max_places → record_at m' i ≡ record_at m i
record_alike m m' s i h t = record {
  vertex = s (4 * i) (omega (arith, h)) t;
  before = s (4 * i + 1) (omega (arith, h)) t;
  after = s (4 * i + 2) (omega (arith, h)) t;
  «open» = ap is_one (s (4 * i + 3) (omega (arith, h))) t;
}

pub records_alike : (n : ℕ) (m m' : List ℕ) → SameRecords m m' → n ≤ max_places → records n m' ≡ records n m
unfolding records
records_alike zero m m' s h = refl
records_alike (suc k) m m' s h =
    ap (λ (ps : List Place). ps ++ (record_at m' k ∷ [])) (records_alike k m m' s (omega (arith, h)))
    ∙ ap (λ (p : Place). records k m ++ (p ∷ [])) (record_alike m m' s k (omega (arith, h)))

pub all_alike : (m m' : List ℕ) → SameRecords m m' → records max_places m' ≡ records max_places m
all_alike m m' s = records_alike max_places m m' s (omega arith)
