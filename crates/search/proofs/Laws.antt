-- What linking and searching promise, one law for each way through.
-- Assumes nothing.
use Prim.Native.Nat.{ℕ, ◌≤◌, ◌<◌}
use native.Mathlib.Omega.{arith}
use mathlib.Core.List.{List}
use mathlib.Core.Path.{◌≡◌, refl, sym, ap, ◌∙◌}
use lib.ListN.{length}
use borrow.Author.Tests.{le-leb, lt-leb}
use Rattle.rules.specs.Checked.{Checked}
use Rattle.rules.specs.Checked.{Accepted, Refused}
use Rattle.rules.specs.Check.{check}
use Rattle.mesh_theory.specs.Chains.Checks.{check_numbers}
use Rattle.mesh_theory.specs.Chains.Linked.{Chains}
use Rattle.mesh_theory.proofs.Fans.Checks.{four_passed}
use Rattle.mesh_theory.proofs.Chains.Checking.{numbers_refuse, numbers_low, numbers_four}
use Rattle.search.specs.Searching.{of_four, LinkGives}

-- `of_four` of a refusal of 1 to 4, and of any other answer
of_four_lem : (n : ℕ) → n ≤ 4 → n ≡ of_four (Refused n)
of_four_lem n h = sym (rw (of_four, le-leb n 4 h))

no_four : (c : Checked) → ((n : ℕ) → c ≡ Refused n → 4 < n) → 0 ≡ of_four c
no_four Accepted h = refl
no_four (Refused n) h = sym (rw (of_four, lt-leb n 4 (h n refl)))

pub link_refused : (v : ℕ) (xs cs : List ℕ) (n : ℕ) → check_numbers v xs ≡ Refused n → LinkGives v xs cs n cs
link_refused v xs cs n h =
    let low = numbers_low v xs n h in
    record {
      number = of_four_lem n low.1 ∙ ap of_four (numbers_refuse v xs n h);
      linked = λ e. absurd (omega (arith, low.0));
      kept = λ e. refl;
    }

pub link_passed : (v : ℕ) (xs cs cs' : List ℕ) → check_numbers v xs ≡ Accepted → Chains xs (length xs) cs' → LinkGives v xs cs 0 cs'
link_passed v xs cs cs' h k = record {
  number = no_four (check v xs) ((four_passed v xs).0 (numbers_four v xs h));
  linked = λ e. k;
  kept = λ e. absurd (e refl);
}
