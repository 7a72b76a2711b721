-- The openness numbers of a memory that records were loaded into are 0 or 1.
-- Assumes nothing.
use Prim.Native.Nat.{ℕ, zero, suc, ◌+◌, ◌*◌, ◌≤◌, ◌<◌}
use native.Mathlib.Omega.{arith}
use mathlib.Core.Bool.{Bool, true, false}
use mathlib.Core.List.{List, [], ◌∷◌}
use mathlib.Core.Path.{◌≡◌, sym, ◌∙◌, subst}
use lib.ListN.{get_or, set, replicate}
use lib.Seq.{get_or-set_other}
use Rattle.rules.specs.declared.Place.{Place}
use Rattle.rules.specs.Limits.{max_places}
use Rattle.rules.specs.View.{place_at}
use Rattle.border_theory.specs.Records.Plain.{memory_size, number_of, stored_at, loaded, blank}
use Rattle.border_theory.proofs.Records.Reading.{counted, memory_of}
use Rattle.border_theory.specs.Memory.Layout.{open_of}

number_le : (t : Bool) → number_of t ≤ 1
number_le true = omega arith
number_le false = omega arith

set_le : (l : List ℕ) (j x i : ℕ) → x ≤ 1 → get_or l i 0 ≤ 1 → get_or (set l j x) i 0 ≤ 1
set_le [] j x i h g = g
set_le (y ∷ l) zero x zero h g = h
set_le (y ∷ l) zero x (suc i) h g = g
set_le (y ∷ l) (suc j) x zero h g = g
set_le (y ∷ l) (suc j) x (suc i) h g = set_le l j x i h g

stored_open : (m : List ℕ) (i : ℕ) (q : Place) (p : ℕ) → open_of m p ≤ 1 → open_of (stored_at m i q) p ≤ 1
unfolding stored_at
stored_open m i q p h =
    let one = set m (4 * i) q.vertex in
    let two = set one (4 * i + 1) q.before in
    let three = set two (4 * i + 2) q.after in
    let e : get_or three (4 * p + 3) 0 ≡ open_of m p =
    get_or-set_other two (4 * i + 2) (4 * p + 3) q.after 0 (λ d. omega (arith, d))
    ∙ get_or-set_other one (4 * i + 1) (4 * p + 3) q.before 0 (λ d. omega (arith, d))
    ∙ get_or-set_other m (4 * i) (4 * p + 3) q.vertex 0 (λ d. omega (arith, d)) in
    set_le three (4 * i + 3) (number_of q.«open») (4 * p + 3) (number_le q.«open») (subst (λ (x : ℕ). x ≤ 1) (sym e) h)

loaded_keeps : (n : ℕ) (ps : List Place) (m : List ℕ) (p : ℕ) → open_of m p ≤ 1 → open_of (loaded n ps m) p ≤ 1
unfolding loaded
loaded_keeps zero ps m p h = h
loaded_keeps (suc k) ps m p h = stored_open (loaded k ps m) k (place_at ps k) p (loaded_keeps k ps m p h)

zeros_le : (n j : ℕ) → get_or (replicate {A = ℕ} n 0) j 0 ≤ 1
zeros_le zero j = omega arith
zeros_le (suc n) zero = omega arith
zeros_le (suc n) (suc j) = zeros_le n j

blank_open : (p : ℕ) → open_of blank p ≤ 1
unfolding blank
blank_open p = zeros_le memory_size (4 * p + 3)

pub loaded_open : (ps : List Place) (p : ℕ) → p < max_places → open_of (memory_of ps) p ≤ 1
loaded_open ps p h = loaded_keeps (counted ps) ps blank p (blank_open p)
