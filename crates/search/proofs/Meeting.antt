-- A list that was linked, then searched: the two promises together are 02's words, and these leave the definition's answer alone.
-- Assumes nothing.
use Prim.Native.Nat.{ℕ, ◌≤◌, ◌<◌}
use native.Mathlib.Omega.{arith}
use mathlib.Core.Bool.{Bool, true, false}
use mathlib.Core.List.{List}
use mathlib.Core.Path.{◌≡◌, refl, ap, ◌∙◌}
use lib.Dec.{leb}
use borrow.Author.Tests.{leb-false}
use Rattle.rules.specs.Across.{Across}
use Rattle.rules.specs.Checked.{Checked}
use Rattle.rules.specs.Checked.{Refused}
use Rattle.rules.specs.Triangle.{triangles_of}
use Rattle.rules.specs.Across.{across}
use Rattle.rules.specs.Check.{check}
use Rattle.mesh_theory.specs.Fans.Passing.{PassesFour}
use Rattle.mesh_theory.proofs.Fans.Checks.{four_passed, check_positive}
use Rattle.mesh_theory.proofs.Fans.Search.{searched, one_answer}
use Rattle.search.specs.Searching.{of_four, LinkGives, told, found_in, SearchGives}

-- 0 tells that the list passes 1 to 4
above_four : (c : Checked) → 0 ≡ of_four c → ((n : ℕ) → c ≡ Refused n → 1 ≤ n) → (n : ℕ) → c ≡ Refused n → 4 < n
above_four c e h n f = go (leb n 4) refl
  where
    go : (b : Bool) → leb n 4 ≡ b → 4 < n
    go true g =
        let k : 0 ≡ n = e ∙ ap of_four f ∙ rw (of_four, g) in
        absurd (omega (arith, h n f))
    go false g = leb-false n 4 g

linked_passes : {v : ℕ} {xs cs cs' : List ℕ} → LinkGives v xs cs 0 cs' → PassesFour v xs
linked_passes {v} {xs} k = (four_passed v xs).1 (above_four (check v xs) k.number (check_positive v xs))

-- in a list that was linked the search tells the definition's answer, for any x and y
pub linked_then_searched : {v : ℕ} {xs cs cs' : List ℕ} {x y : ℕ} {before : List ℕ} {n : ℕ} {after : List ℕ}
    → LinkGives v xs cs 0 cs' → SearchGives xs cs' x y before n after
    → let a = across x y (triangles_of xs) in (n ≡ told a) × (after ≡ found_in a before)
linked_then_searched {v} {xs} {cs} {cs'} {x} {y} {before} k s =
    let p = linked_passes k in
    let e = one_answer xs x y s.answer (across x y (triangles_of xs)) p.distinct (s.right v p (k.linked refl)) (searched xs x y) in
    (s.number ∙ ap told e, s.written ∙ ap (λ (a : Across). found_in a before) e)
