-- The tests in their order, and what those that a list has passed say of it.
-- Assumes nothing.
use Prim.Native.Nat.{ℕ, ◌%◌, ◌≤◌, ◌<◌}
use native.Mathlib.Omega.{arith}
use mathlib.Core.Bool.{Bool, true, false, ◌&&◌, not}
use mathlib.Core.List.{List}
use mathlib.Core.Path.{◌≡◌, refl, sym, ap, ◌∙◌, subst}
use lib.ListN.{length}
use lib.Dec.{eqb, leb}
use borrow.Author.Tests.{leb-true, le-leb, lt-leb, not-true, not-false}
use Rattle.rules.specs.Checked.{Checked}
use Rattle.rules.specs.Checked.{Accepted, Refused}
use Rattle.rules.specs.Limits.{max_numbers, min_vertices, max_vertices, between, vertex_range}
use Rattle.rules.specs.Triangle.{triangles_of, edges_of}
use Rattle.rules.specs.Check.{all_below, all_distinct, none_twice, passes, check_triangles, check}
use Rattle.mesh_theory.specs.Fans.Passing.{first_four, tested, PassesFour}
use Rattle.mesh_theory.specs.Chains.Linked.{Chains, Sound, Linked}
use Rattle.mesh_theory.specs.Chains.Checks.{fits_size, check_numbers, check_chains, Answers}
use Rattle.mesh_theory.proofs.Fans.Checks.{tested_accepted, tested_number, fits_thirds}
use Rattle.mesh_theory.proofs.Chains.Listing.{below_each}
use Rattle.counting.proofs.Bools.{and_left, and_right}

-- the tests of 1 to 4, and then those that need the chains
check_is : (v : ℕ) (xs : List ℕ)
    → check v xs
    ≡ passes (fits_size (length xs)) 1
    (passes (vertex_range v) 2
    (passes (all_below v xs) 3 (passes (all_distinct (triangles_of xs)) 4 (check_chains v (triangles_of xs)))))
unfolding check check_triangles check_chains
check_is v xs = refl

-- a test, answered by b, that fails, and one that passes
pub refuses : (b a : Bool) (n : ℕ) (c : Checked) → b ≡ a → not b ≡ true → Refused n ≡ passes a n c
unfolding passes
refuses b a n c e f = sym (rw (sym e ∙ not-true b f))

pub goes_on : (b a : Bool) (n : ℕ) (c d : Checked) → b ≡ a → not b ≡ false → d ≡ c → d ≡ passes a n c
unfolding passes
goes_on b a n c d e f g = g ∙ sym (rw (sym e ∙ not-false b f))

-- an answer that refuses leaves nothing of the chains to be said
abbrev is_accepted : Checked → ℕ
is_accepted Accepted = 1
is_accepted (Refused n) = 0

pub answers_no : (a : Checked) (xs : List ℕ) (n : ℕ) (cs : List ℕ) → Refused n ≡ a → Answers a xs (Refused n) cs
answers_no a xs n cs e = record { right = e; chained = λ f. let z : ◌≡◌ {A = ℕ} 0 1 = ap is_accepted f in absurd (omega arith) }

pub answers_on : {a b r : Checked} {xs cs : List ℕ} → Answers a xs r cs → (r ≡ a → r ≡ b) → Answers b xs r cs
answers_on k e = record { right = e k.right; chained = k.chained }

-- 1 and 2, test by test
between_high : (lo n hi : ℕ) → between lo n hi ≡ true → n ≤ hi
between_high lo n hi h = leb-true n hi (and_right (leb lo n) (leb n hi) h)

-- 1 to 4 as the code tests them: they refuse for all seven, or they pass, and 5 to 7 are asked
on_refused : (b : Bool) (n m : ℕ) (c d : Checked) → (c ≡ Refused m → d ≡ Refused m) → passes b n c ≡ Refused m
    → passes b n d ≡ Refused m
unfolding passes
on_refused true n m c d f h = f h
on_refused false n m c d f h = h

on_accepted : (b : Bool) (n : ℕ) (c d e : Checked) → (c ≡ Accepted → d ≡ e) → passes b n c ≡ Accepted → passes b n d ≡ e
unfolding passes
on_accepted true n c d e f h = f h
on_accepted false n c d e f h = let z : ◌≡◌ {A = ℕ} 0 1 = ap is_accepted h in absurd (omega arith)

pub numbers_refuse : (v : ℕ) (xs : List ℕ) (n : ℕ) → check_numbers v xs ≡ Refused n → Refused n ≡ check v xs
unfolding check_numbers tested
numbers_refuse v xs n h =
    sym
    (check_is v xs
    ∙ on_refused _ 1 n _ _
    (on_refused _ 2 n _ _
    (on_refused _ 3 n _ _
    (on_refused _ 4 n _ _ (λ e. let z : ◌≡◌ {A = ℕ} 1 0 = ap is_accepted e in absurd (omega arith))))) h)

pub numbers_low : (v : ℕ) (xs : List ℕ) (n : ℕ) → check_numbers v xs ≡ Refused n → (1 ≤ n) × (n ≤ 4)
unfolding check_numbers
numbers_low v xs n h = let k = tested_number 1 n (first_four v xs) h in (k.0, omega (arith, k.1))

pub numbers_pass : (v : ℕ) (xs : List ℕ) → check_numbers v xs ≡ Accepted → check_chains v (triangles_of xs) ≡ check v xs
unfolding check_numbers tested
numbers_pass v xs h =
    sym
    (check_is v xs
    ∙ on_accepted _ 1 _ _ _ (on_accepted _ 2 _ _ _ (on_accepted _ 3 _ _ _ (on_accepted _ 4 _ _ _ (λ e. refl)))) h)

pub numbers_four : (v : ℕ) (xs : List ℕ) → check_numbers v xs ≡ Accepted → PassesFour v xs
unfolding check_numbers
numbers_four v xs h =
    let k = (tested_accepted 1 (first_four v xs)).0 h in
    record { size = k.0; range = k.1.0; below = k.1.1.0; distinct = k.1.1.1.0 }

pub four_most : {v : ℕ} {xs : List ℕ} → PassesFour v xs → v ≤ max_vertices
four_most {v} p = between_high min_vertices v max_vertices p.range

-- a list that passes 1 to 4 can be linked
pub four_sound : {v : ℕ} {xs : List ℕ} → PassesFour v xs → Sound xs
four_sound {v} {xs} p =
    let m = four_most p in
    record {
      long = fits_thirds (length xs) p.size;
      most = between_high 1 (length xs) max_numbers (and_left (between 1 (length xs) max_numbers) (eqb (length xs % 3) 0) p.size);
      below = λ n h. omega (arith, below_each v xs p.below n h);
      distinct = p.distinct;
    }

-- .. and, once linked, where no directed edge occurs twice, it can be looked up in
pub all_linked : {v : ℕ} {xs cs : List ℕ} → PassesFour v xs → Chains xs (length xs) cs → (b : Bool)
    → b ≡ none_twice (edges_of (triangles_of xs)) → not b ≡ false → Linked xs cs
all_linked {v} {xs} {cs} p k b e n =
    let s = four_sound p in
    record { sound = s; once = sym e ∙ not-false b n; chains = subst (λ (m : ℕ). Chains xs m cs) s.long k }
