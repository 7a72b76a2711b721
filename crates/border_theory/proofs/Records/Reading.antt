-- The reading between a list of records and the plain memory: what the core sees of the list, and a store of the core as a store to the
-- list.
-- Assumes nothing.
use Prim.Native.Nat.{ℕ, zero, suc, ◌*◌, ◌<◌, ◌≤◌}
use native.Mathlib.Omega.{arith}
use mathlib.Core.Path.{◌≡◌, refl, sym, ap, ◌∙◌, subst}
use mathlib.Core.Bool.{Bool, true, false}
use mathlib.Core.List.{List, [], ◌∷◌, ◌++◌}
use lib.Dec.{leb, ltb}
use lib.ListN.{length, set, take, replicate, length-append, length-replicate}
use lib.Seq.{take-suc, set_at, set-append_left}
use borrow.Author.Tests.{ltb-true, ltb-false}
use Rattle.rules.specs.declared.Place.{Place}
use Rattle.rules.specs.Limits.{max_places}
use Rattle.rules.specs.Buffer.{free_place}
use Rattle.rules.specs.View.{place_at}
use Rattle.border_theory.specs.Records.Plain.{memory_size, stored_at, record_at, records, loaded, blank, count_of}
use Rattle.border_theory.proofs.Records.Counting.{count_within, count_enough}
use Rattle.border_theory.proofs.Records.Stored.{length_stored, record_other, record_same}

-- how many records of a list are read, and the plain memory that they are read into
abbrev pub counted : List Place → ℕ
counted ps = count_of (length ps)

abbrev pub memory_of : List Place → List ℕ
memory_of ps = loaded (counted ps) ps blank

-- so many free records are enough if and only if the list is
pub counted_enough : (ps : List Place) → leb max_places (length ps) ≡ leb max_places (length (replicate (counted ps) free_place))
counted_enough ps = count_enough (length ps) ∙ ap (leb max_places) (sym (length-replicate (counted ps) free_place))

-- lengths
pub length_loaded : (n : ℕ) (ps : List Place) (m : List ℕ) → length (loaded n ps m) ≡ length m
unfolding loaded
length_loaded zero ps m = refl
length_loaded (suc i) ps m = length_stored _ _ _ ∙ length_loaded i ps m

pub length_records : (n : ℕ) (m : List ℕ) → length (records n m) ≡ n
unfolding records
length_records zero m = refl
length_records (suc k) m = length-append (records k m) (record_at m k ∷ []) ∙ omega (arith, length_records k m)

length_blank : length blank ≡ memory_size
unfolding blank
length_blank = length-replicate {A = ℕ} memory_size 0

-- a record that was loaded is the list's
loaded_by : (k i : ℕ) (ps : List Place) (m : List ℕ) → (i < k → record_at (loaded k ps m) i ≡ place_at ps i) → i < suc k
    → 4 * suc k ≤ length m → (t : Bool) → ltb i k ≡ t → record_at (loaded (suc k) ps m) i ≡ place_at ps i
unfolding loaded
loaded_by k i ps m ih h g true e =
    record_other (loaded k ps m) k (place_at ps k) i (λ d. absurd (omega (arith, ltb-true i k e, d))) ∙ ih (ltb-true i k e)
loaded_by k i ps m ih h g false e =
    let d : i ≡ k = omega (arith, ltb-false i k e, h) in
    subst (λ (j : ℕ). record_at (stored_at (loaded k ps m) k (place_at ps k)) j ≡ place_at ps j) (sym d)
    (record_same (loaded k ps m) k (place_at ps k) (omega (arith, g, length_loaded k ps m)))

pub record_loaded : (n i : ℕ) (ps : List Place) (m : List ℕ) → i < n → 4 * n ≤ length m → record_at (loaded n ps m) i ≡ place_at ps i
record_loaded zero i ps m h g = absurd (omega (arith, h))
record_loaded (suc k) i ps m h g = loaded_by k i ps m (λ l. record_loaded k i ps m l (omega (arith, g))) h g (ltb i k) refl

records_are : (n : ℕ) (ps : List Place) (m : List ℕ) → n ≤ length ps → ((i : ℕ) → i < n → record_at m i ≡ place_at ps i)
    → records n m ≡ take n ps
unfolding records
records_are zero ps m h f = refl
records_are (suc k) ps m h f =
    ap (λ (xs : List Place). xs ++ (record_at m k ∷ [])) (records_are k ps m (omega (arith, h)) (λ i l. f i (omega (arith, l))))
    ∙ ap (λ (p : Place). take k ps ++ (p ∷ [])) (f k (omega arith)) ∙ sym (take-suc ps k free_place (omega (arith, h)))

-- what the core sees: the plain memory that a list was loaded into has that list's records
pub records_loaded : (n : ℕ) (ps : List Place) (m : List ℕ) → n ≤ length ps → 4 * n ≤ length m → records n (loaded n ps m) ≡ take n ps
records_loaded n ps m h g = records_are n ps (loaded n ps m) h (λ i l. record_loaded n i ps m l g)

pub memory_reads : (ps : List Place) → records (counted ps) (memory_of ps) ≡ take (counted ps) ps
memory_reads ps =
    records_loaded (counted ps) ps blank (count_within (length ps)).0 (omega (arith, (count_within (length ps)).1, length_blank))

-- a store of the core is a store to the list
records_below : (n : ℕ) (m : List ℕ) (i : ℕ) (p : Place) → n ≤ i → records n (stored_at m i p) ≡ records n m
unfolding records
records_below zero m i p h = refl
records_below (suc k) m i p h =
    ap (λ (xs : List Place). xs ++ (record_at (stored_at m i p) k ∷ [])) (records_below k m i p (omega (arith, h)))
    ∙ ap (λ (r : Place). records k m ++ (r ∷ [])) (record_other m i p k (λ e. omega (arith, e, h)))

stored_by : (k : ℕ) (m : List ℕ) (i : ℕ) (p : Place) → (i < k → records k (stored_at m i p) ≡ set (records k m) i p) → i < suc k
    → 4 * suc k ≤ length m → (t : Bool) → ltb i k ≡ t → records (suc k) (stored_at m i p) ≡ set (records (suc k) m) i p
unfolding records
stored_by k m i p ih h g true e =
    ap (λ (xs : List Place). xs ++ (record_at (stored_at m i p) k ∷ [])) (ih (ltb-true i k e))
    ∙ ap (λ (r : Place). set (records k m) i p ++ (r ∷ [])) (record_other m i p k (λ d. omega (arith, ltb-true i k e, d)))
    ∙ sym (set-append_left (records k m) (record_at m k ∷ []) i p (omega (arith, ltb-true i k e, length_records k m)))
stored_by k m i p ih h g false e =
    let d : i ≡ k = omega (arith, ltb-false i k e, h) in
    subst (λ (j : ℕ). records k (stored_at m j p) ++ (record_at (stored_at m j p) k ∷ []) ≡ set (records k m ++ (record_at m k ∷ [])) j p)
    (sym d)
    (ap (λ (xs : List Place). xs ++ (record_at (stored_at m k p) k ∷ [])) (records_below k m k p (omega arith))
    ∙ ap (λ (r : Place). records k m ++ (r ∷ [])) (record_same m k p (omega (arith, g)))
    ∙ sym (set_at (records k m) (record_at m k) [] p k (length_records k m)))

pub records_stored : (n : ℕ) (m : List ℕ) (i : ℕ) (p : Place) → i < n → 4 * n ≤ length m
    → records n (stored_at m i p) ≡ set (records n m) i p
records_stored zero m i p h g = absurd (omega (arith, h))
records_stored (suc k) m i p h g = stored_by k m i p (λ l. records_stored k m i p l (omega (arith, g))) h g (ltb i k) refl
