-- The triangles of a buffer that the tests 1 to 5 of a list pass: the fans are those of the list.
-- Assumes nothing.
use Prim.Native.Nat.{ℕ, zero, suc, ◌+◌, ◌*◌, ◌≤◌}
use native.Mathlib.Omega.{arith}
use mathlib.Core.Bool.{true, false}
use mathlib.Core.List.{List, ◌++◌}
use mathlib.Core.Path.{◌≡◌, refl, sym, ap, ap₂, ◌∙◌}
use lib.ListN.{length, take}
use lib.Seq.{take-add}
use Rattle.rules.specs.declared.Triangle.{Triangle}
use Rattle.rules.specs.Checked.{Checked}
use Rattle.rules.specs.Checked.{Accepted, Refused}
use Rattle.rules.specs.Triangle.{triangles_of, edges_of}
use Rattle.rules.specs.Count.{uses}
use Rattle.rules.specs.Check.{all_distinct, none_twice, check, checks}
use Rattle.rules.specs.Answer.{Answer, refusal, accepted, triangle, no_triangle, numbers, packed, unpacked, checked_answer}
use Rattle.rules.specs.Fan.{one_fan_each}
use Rattle.rules.specs.View.{triangles_built}
use Rattle.rules.specs.Unpack.{numbers_of}
use Rattle.mesh_theory.proofs.Fans.Corners.{uses_in}
use Rattle.mesh_theory.proofs.Fans.Tests.{all_distinct_lem, none_twice_lem}
use Rattle.mesh_theory.proofs.Fans.Checks.{check_accepted, check_refused}
use Rattle.mesh_theory.proofs.Chains.Prefix.{take_three}
use Rattle.mesh_theory.proofs.Chains.Order.{as_built, same_uses, same_fans}

-- an answer is that of one check only
abbrev as_checked : Answer → Checked
as_checked accepted = Accepted
as_checked (refusal n) = Refused n
as_checked (triangle t) = Accepted
as_checked no_triangle = Accepted
as_checked (numbers x) = Accepted
as_checked (packed n) = Accepted
as_checked (unpacked m) = Accepted

as_checked_lem : (c : Checked) → as_checked (checked_answer c) ≡ c
as_checked_lem Accepted = refl
as_checked_lem (Refused n) = refl

same_check : (c d : Checked) → checked_answer c ≡ checked_answer d → c ≡ d
same_check c d e = sym (as_checked_lem c) ∙ ap as_checked e ∙ as_checked_lem d

-- the numbers of the triangles built are those at the front of the buffer
pub numbers_built : (xs : List ℕ) (n : ℕ) → 3 * n ≤ length xs → numbers_of (triangles_built xs n) ≡ take (3 * n) xs
unfolding numbers_of triangles_built
numbers_built xs zero h = refl
numbers_built xs (suc n) h =
    let e : 3 * n + 3 ≡ 3 * suc n = omega arith in
    ap₂ ◌++◌ (numbers_built xs n (omega arith)) (sym (take_three xs (3 * n) (omega arith)))
    ∙ sym (take-add (3 * n) 3 xs) ∙ ap (λ (k : ℕ). take k xs) e

module _ (xs : List ℕ) (n : ℕ) (long : 3 * n ≤ length xs) where
  abbrev us : List Triangle
  us = triangles_built xs n

  abbrev ls : List ℕ
  ls = take (3 * n) xs

  as_listed : as_built us ≡ triangles_of ls
  as_listed = ap triangles_of (numbers_built xs n long)

  module _ (distinct : all_distinct (triangles_of ls) ≡ true) (once : none_twice (edges_of (triangles_of ls)) ≡ true) where
    listed_uses : (x y : ℕ) → uses x y (triangles_of ls) ≡ uses x y us
    listed_uses x y = ap (λ (ts : List Triangle). uses x y ts) (sym as_listed) ∙ same_uses x y us

    used_once : (x y : ℕ) → uses x y us ≤ 1
    used_once x y = omega (arith, (none_twice_lem (edges_of (triangles_of ls))).0 once x y, listed_uses x y)

    none_itself : (x : ℕ) (k : ℕ) → uses x x (triangles_of ls) ≡ k → k ≡ 0
    none_itself x zero e = refl
    none_itself x (suc k) e =
        let i = uses_in x x (triangles_of ls) (omega (arith, e)) in
        absurd (((all_distinct_lem (triangles_of ls)).0 distinct x x i.0 i.1).x_y refl)

    fans_same : (v : ℕ) → one_fan_each v (triangles_of ls) ≡ one_fan_each v us
    fans_same v =
        ap (λ (ts : List Triangle). one_fan_each v ts) (sym as_listed)
        ∙ same_fans us used_once (λ x. sym (listed_uses x x) ∙ none_itself x (uses x x (triangles_of ls)) refl) v

  -- a list that is accepted, and one that only 7 refuses
  pub accepted_fans : (v : ℕ) → checked_answer Accepted ≡ checks v ls → true ≡ one_fan_each v us
  accepted_fans v e =
      let p = (check_accepted v ls).0 (sym (same_check Accepted (check v ls) e)) in
      sym p.fans ∙ fans_same p.distinct p.once v

  pub seven_fans : (v : ℕ) → checked_answer (Refused 7) ≡ checks v ls → false ≡ one_fan_each v us
  seven_fans v e =
      let p = (check_refused v ls 6).0 (sym (same_check (Refused 7) (check v ls) e)) in
      sym p.1.1.1.1.1.1 ∙ fans_same p.1.1.1.0 p.1.1.1.1.0 v
