-- What `check` answers: it accepts exactly if all tests pass, and refuses by the number of the first one that fails. How many triangles
-- a list has that is accepted.
-- Assumes nothing.
use Prim.Native.Nat.{ℕ, zero, suc, ◌+◌, ◌*◌, ◌/◌, ◌%◌, ◌≤◌, ◌<◌}
use native.Mathlib.Omega.{arith}
use mathlib.Core.Bool.{Bool, true, false, true≢false, false≢true}
use mathlib.Core.List.{List, [], ◌∷◌}
use mathlib.Core.Logic.{◌↔◌}
use mathlib.Core.Path.{◌≡◌, refl, sym, ap, ◌∙◌}
use lib.ListN.{length}
use lib.Dec.{eqb}
use borrow.Author.Tests.{eqb-true}
use Rattle.rules.specs.Checked.{Checked}
use Rattle.rules.specs.Checked.{Accepted, Refused}
use Rattle.rules.specs.Limits.{max_numbers, max_triangles, between, vertex_range}
use Rattle.rules.specs.Triangle.{triangles_of, corners, edges_of}
use Rattle.rules.specs.Fan.{one_fan_each}
use Rattle.rules.specs.Check.{size_fits, all_below, all_distinct, none_twice, all_used, passes, check_triangles, check}
use Rattle.counting.proofs.Bools.{and_true}
use Rattle.counting.proofs.Ranges.{of_between}
use Rattle.mesh_theory.specs.Chains.Checks.{fits_size}
use Rattle.mesh_theory.proofs.Chains.Prefix.{triangles_length}
use Rattle.mesh_theory.specs.Fans.Passing.{tests, tested, AllPass, FirstFails, PassesFour, Passes}

-- an acceptance is no refusal, and refusals differ by their numbers
abbrev refusal : Checked → ℕ → ℕ
refusal Accepted m = suc m
refusal (Refused n) m = n

pub accepted_refused : (m : ℕ) → Accepted ≡ Refused m → ⊥
accepted_refused m e = let k : suc m ≡ m = ap (λ (c : Checked). refusal c m) e in omega arith

refused_number : (n m : ℕ) → Refused n ≡ Refused m → n ≡ m
refused_number n m e = ap (λ (c : Checked). refusal c m) e

-- tests in a row
pub tested_accepted : (n : ℕ) (bs : List Bool) → (tested n bs ≡ Accepted) ↔ AllPass bs
unfolding tested passes
tested_accepted n [] = (λ h. tt, λ h. refl)
tested_accepted n (true ∷ bs) =
    let k = tested_accepted (suc n) bs in
    (λ h. (refl, k.0 h), λ h. k.1 h.1)
tested_accepted n (false ∷ bs) = (λ h. absurd (accepted_refused n (sym h)), λ h. absurd (false≢true h.0))

pub tested_number : (n m : ℕ) (bs : List Bool) → tested n bs ≡ Refused m → (n ≤ m) × (m < n + length bs)
unfolding tested passes
tested_number n m [] h = absurd (accepted_refused m h)
tested_number n m (true ∷ bs) h = let k = tested_number (suc n) m bs h in omega (arith, k.0, k.1)
tested_number n m (false ∷ bs) h = omega (arith, refused_number n m h)

pub tested_refused : (k n m : ℕ) (bs : List Bool) → m ≡ n + k → (tested n bs ≡ Refused m) ↔ FirstFails k bs
unfolding tested passes
tested_refused k n m [] e = (λ h. accepted_refused m h, λ h. absurd h)
tested_refused zero n m (true ∷ bs) e =
    (λ h. absurd (omega (arith, (tested_number (suc n) m bs h).0)), λ h. absurd (true≢false h))
tested_refused zero n m (false ∷ bs) e = (λ h. refl, λ h. ap Refused (omega arith))
tested_refused (suc k) n m (true ∷ bs) e =
    let i = tested_refused k (suc n) m bs (omega arith) in
    (λ h. (refl, i.0 h), λ h. i.1 h.1)
tested_refused (suc k) n m (false ∷ bs) e =
    (λ h. absurd (omega (arith, refused_number n m h)), λ h. absurd (false≢true h.0))

passed_four : (bs : List Bool) → tested 5 bs ≡ tested 1 (true ∷ (true ∷ (true ∷ (true ∷ bs))))
unfolding tested passes
passed_four bs = refl

-- the tests of `check`
check_tested : (v : ℕ) (xs : List ℕ) → check v xs ≡ tested 1 (tests v xs)
unfolding check check_triangles tested
check_tested v xs = refl

pub check_accepted : (v : ℕ) (xs : List ℕ) → (check v xs ≡ Accepted) ↔ Passes v xs
check_accepted v xs =
    let k = tested_accepted 1 (tests v xs) in (
      λ h.
          let a = k.0 (sym (check_tested v xs) ∙ h) in
          record {
            size = a.0;
            range = a.1.0;
            below = a.1.1.0;
            distinct = a.1.1.1.0;
            once = a.1.1.1.1.0;
            used = a.1.1.1.1.1.0;
            fans = a.1.1.1.1.1.1.0;
          },
      λ p. check_tested v xs ∙ k.1 (p.size, (p.range, (p.below, (p.distinct, (p.once, (p.used, (p.fans, tt))))))),
    )

-- refusal k + 1: the k tests before it pass and its own fails
pub check_refused : (v : ℕ) (xs : List ℕ) (k : ℕ) → (check v xs ≡ Refused (suc k)) ↔ FirstFails k (tests v xs)
check_refused v xs k =
    let i = tested_refused k 1 (suc k) (tests v xs) (omega arith) in
    (λ h. i.0 (sym (check_tested v xs) ∙ h), λ h. check_tested v xs ∙ i.1 h)

pub check_positive : (v : ℕ) (xs : List ℕ) (n : ℕ) → check v xs ≡ Refused n → 1 ≤ n
check_positive v xs n e = (tested_number 1 n (tests v xs) (sym (check_tested v xs) ∙ e)).0

-- 1 to 4 pass exactly if the list is not refused with one of them
pub four_passed : (v : ℕ) (xs : List ℕ) → PassesFour v xs ↔ ((n : ℕ) → check v xs ≡ Refused n → 4 < n)
four_passed v xs = (
  forth,
  λ free.
      back free (size_fits xs) refl (vertex_range v) refl (all_below v xs) refl (all_distinct (triangles_of xs)) refl,
)
  where
    forth : PassesFour v xs → (n : ℕ) → check v xs ≡ Refused n → 4 < n
    forth p n e =
        let ts = triangles_of xs in
        let rest = none_twice (edges_of ts) ∷ (all_used v (corners ts) ∷ (one_fan_each v ts ∷ [])) in
        let f : tested 1 (true ∷ (true ∷ (true ∷ (true ∷ rest)))) ≡ Refused n =
        rw (p.size, p.range, p.below, p.distinct) at (sym (check_tested v xs) ∙ e) in
        (tested_number 5 n rest (passed_four rest ∙ f)).0

    back : ((n : ℕ) → check v xs ≡ Refused n → 4 < n) → (a : Bool) → size_fits xs ≡ a → (b : Bool) → vertex_range v ≡ b → (c : Bool)
        → all_below v xs ≡ c → (d : Bool) → all_distinct (triangles_of xs) ≡ d → PassesFour v xs
    back free false e b f c g d h = absurd (omega (arith, free 1 ((check_refused v xs 0).1 e)))
    back free true e false f c g d h = absurd (omega (arith, free 2 ((check_refused v xs 1).1 (e, f))))
    back free true e true f false g d h = absurd (omega (arith, free 3 ((check_refused v xs 2).1 (e, (f, g)))))
    back free true e true f true g false h = absurd (omega (arith, free 4 ((check_refused v xs 3).1 (e, (f, (g, h))))))
    back free true e true f true g true h = record { size = e; range = f; below = g; distinct = h }

pub fits_thirds : (n : ℕ) → fits_size n ≡ true → n ≡ 3 * (n / 3)
fits_thirds n h = omega (arith, eqb-true (n % 3) 0 (and_true (between 1 n max_numbers) (eqb (n % 3) 0) h).1)

pub triangles_thirds : (xs : List ℕ) → length xs % 3 ≡ 0 → 3 * length (triangles_of xs) ≡ length xs
triangles_thirds xs h = omega (arith, triangles_length xs)

-- how many triangles an accepted list has
pub accepted_count : (v : ℕ) (xs : List ℕ) → check v xs ≡ Accepted
    → (3 * length (triangles_of xs) ≡ length xs) × (1 ≤ length (triangles_of xs)) × (length (triangles_of xs) ≤ max_triangles)
accepted_count v xs a =
    let p = (check_accepted v xs).0 a in
    let s = and_true (between 1 (length xs) max_numbers) (eqb (length xs % 3) 0) p.size in
    let b = of_between 1 (length xs) max_numbers s.0 in
    let t = triangles_thirds xs (eqb-true (length xs % 3) 0 s.1) in
    (t, omega (arith, b.0), omega (arith, b.1))
