-- The core's own numbers, past the records: they are zero where a call begins, and a store to them changes no record.
-- Assumes nothing.
use Prim.Native.Nat.{ℕ, zero, suc, ◌+◌, ◌*◌, ◌<◌, ◌≤◌}
use native.Mathlib.Omega.{arith}
use mathlib.Core.Path.{◌≡◌, refl, ap, ◌∙◌}
use mathlib.Core.List.{List, [], ◌∷◌, ◌++◌}
use lib.ListN.{get_or, set, replicate}
use lib.Seq.{get_or-set_other}
use Rattle.rules.specs.declared.Place.{Place}
use Rattle.border_theory.specs.Records.Plain.{is_one, record_at, records, loaded}
use Rattle.border_theory.proofs.Records.Stored.{number_other}

-- loading changes no number past the records
pub loaded_beyond : (n : ℕ) (ps : List Place) (m : List ℕ) (j : ℕ) → 4 * n ≤ j → get_or (loaded n ps m) j 0 ≡ get_or m j 0
unfolding loaded
loaded_beyond zero ps m j h = refl
loaded_beyond (suc k) ps m j h =
    number_other (loaded k ps m) k _ j (λ e. omega (arith, e, h)) (λ e. omega (arith, e, h)) (λ e. omega (arith, e, h))
    (λ e. omega (arith, e, h))
    ∙ loaded_beyond k ps m j (omega (arith, h))

pub zeros : (n j : ℕ) → get_or (replicate {A = ℕ} n 0) j 0 ≡ 0
zeros zero j = refl
zeros (suc n) zero = refl
zeros (suc n) (suc j) = zeros n j

-- a store past a record, and past the first n
pub record_own : (m : List ℕ) (i j x : ℕ) → 4 * i + 3 < j → record_at (set m j x) i ≡ record_at m i
record_own m i j x h t = record {
  vertex = get_or-set_other m j (4 * i) x 0 (λ e. omega (arith, e, h)) t;
  before = get_or-set_other m j (4 * i + 1) x 0 (λ e. omega (arith, e, h)) t;
  after = get_or-set_other m j (4 * i + 2) x 0 (λ e. omega (arith, e, h)) t;
  «open» = ap is_one (get_or-set_other m j (4 * i + 3) x 0 (λ e. omega (arith, e, h))) t;
}

pub records_own : (n : ℕ) (m : List ℕ) (j x : ℕ) → 4 * n ≤ j → records n (set m j x) ≡ records n m
unfolding records
records_own zero m j x h = refl
records_own (suc k) m j x h =
    ap (λ (ps : List Place). ps ++ (record_at (set m j x) k ∷ [])) (records_own k m j x (omega (arith, h)))
    ∙ ap (λ (p : Place). records k m ++ (p ∷ [])) (record_own m k j x (omega (arith, h)))
