-- Each operation takes three bits or more, so that a count above a third of the number of bits never runs out.
-- Assumes nothing.
use Prim.Native.Nat.{ℕ, zero, suc, ◌+◌, ◌*◌, ◌≤◌, ◌<◌}
use native.Mathlib.Omega.{arith}
use mathlib.Core.Bool.{Bool, true, false}
use mathlib.Core.List.{List}
use mathlib.Core.Path.{◌≡◌, refl, sym, ap, ◌∙◌, subst, fun_ext}
use lib.ListN.{length}
use Rattle.rules.specs.declared.Counts.{Counts}
use Rattle.rules.specs.declared.Operation.{Operation}
use Rattle.rules.specs.Code.{Read, breaks_off, read, read_operation, operation_bits}
use Rattle.rules.specs.Bits.{bits_of_bytes}
use Rattle.rules.specs.Machine.{Machine, empty, Step, refused, begun, built, declared, finished, operation, complete}
use Rattle.rules.specs.Unpack.{Ran, stopped, completed, run_all, run_of}
use Rattle.wire_theory.proofs.Lists.{Bits, below_rest}
use Rattle.wire_theory.proofs.Bytes.{bits_of_bytes_are}
use Rattle.wire_theory.proofs.Operations.{operation_read, length_read, width_least}
use Rattle.roundtrip.specs.Enough.{run_or, CountIsEnough}

-- the bits after an operation
fewer : (o : Operation) (xs ys : List ℕ) → Bits xs → read_operation xs ≡ read o ys → length ys + 3 ≤ length xs
fewer o xs ys h e = omega (arith, length_read o xs ys (operation_read o xs ys h e), width_least o)

bits_after : (o : Operation) (xs ys : List ℕ) → Bits xs → read_operation xs ≡ read o ys → Bits ys
bits_after o xs ys h e = below_rest 2 (operation_bits o) ys (subst (λ (zs : List ℕ). Bits zs) (operation_read o xs ys h e).from h)

-- runs that differ in their counts, both of which are enough, and in what they come to where these run out
module _ (x y : Ran) where
  abbrev Same : ℕ → ℕ → Machine → List ℕ → Type 0
  Same n k m xs = run_or x n m xs ≡ run_or y k m xs

  -- one turn
  by_step : (n k : ℕ) (m : Machine) (o : Operation) (xs ys : List ℕ) → complete m ≡ false → read_operation xs ≡ read o ys
      → ((m' : Machine) → Same n k m' ys) → (s : Step) → operation m o ≡ s → Same (suc n) (suc k) m xs
  unfolding run_or
  by_step n k m o xs ys h e ih (refused j) f = rw (run_or, h, e, f) refl
  by_step n k m o xs ys h e ih (begun m') f = rw (run_or, h, e, f) refl
  by_step n k m o xs ys h e ih (built t m') f = rw (run_or, h, e, f) (ih m')
  by_step n k m o xs ys h e ih (declared d m') f = rw (run_or, h, e, f) (ih m')
  by_step n k m o xs ys h e ih (finished z) f = rw (run_or, h, e, f) refl

  by_read : (n k : ℕ) (m : Machine) (xs : List ℕ) → Bits xs → length xs < 3 * suc n → length xs < 3 * suc k → complete m ≡ false
      → ((m' : Machine) (ys : List ℕ) → Bits ys → length ys < 3 * n → length ys < 3 * k → Same n k m' ys)
      → (r : Read) → read_operation xs ≡ r → Same (suc n) (suc k) m xs
  unfolding run_or
  by_read n k m xs b l l' h ih breaks_off e = rw (run_or, h, e) refl
  by_read n k m xs b l l' h ih (read o ys) e =
      let f = fewer o xs ys b e in
      by_step n k m o xs ys h e (λ m'. ih m' ys (bits_after o xs ys b e) (omega arith) (omega arith)) (operation m o) refl

  by_test_lem : (n k : ℕ) (m : Machine) (xs : List ℕ) → Bits xs → length xs < 3 * suc n → length xs < 3 * suc k
      → ((m' : Machine) (ys : List ℕ) → Bits ys → length ys < 3 * n → length ys < 3 * k → Same n k m' ys)
      → (t : Bool) → complete m ≡ t → Same (suc n) (suc k) m xs
  unfolding run_or
  by_test_lem n k m xs b l l' ih true h = rw (run_or, h) refl
  by_test_lem n k m xs b l l' ih false h = by_read n k m xs b l l' h ih (read_operation xs) refl

  same : (n k : ℕ) (m : Machine) (xs : List ℕ) → Bits xs → length xs < 3 * n → length xs < 3 * k → Same n k m xs
  same zero k m xs b l l' = absurd (omega arith)
  same (suc n) zero m xs b l l' = absurd (omega arith)
  same (suc n) (suc k) m xs b l l' = by_test_lem n k m xs b l l' (λ m' ys. same n k m' ys) (complete m) refl

-- a turn, after which g says what the run comes to
abbrev turned : (Machine → List ℕ → Ran) → Machine → List ℕ → Ran
turned g m xs =
    elim (complete m) [
      | true ↦ completed m xs
      | false ↦ elim (read_operation xs) [
        | breaks_off ↦ stopped 15
        | read o ys ↦ elim (operation m o) [
          | refused k ↦ stopped k
          | begun m' ↦ stopped 16
          | built t m' ↦ g m' ys
          | declared d m' ↦ g m' ys
          | finished y ↦ stopped 16
        ]
      ]
    ]

out : (n : ℕ) (m : Machine) (xs : List ℕ) → run_all n m xs ≡ run_or (stopped 15) n m xs
unfolding run_all run_or
out zero m xs = refl
out (suc n) m xs = ap (λ (g : Machine → List ℕ → Ran). turned g m xs) (fun_ext (λ m'. fun_ext (λ ys. out n m' ys)))

any : (x : Ran) (n : ℕ) (s : Counts) (ops : List ℕ) → length (bits_of_bytes ops) < 3 * n
    → run_or x n (empty s) (bits_of_bytes ops) ≡ run_of s ops
any x n s ops l =
    let xs = bits_of_bytes ops in
    same x (stopped 15) n (suc (length xs)) (empty s) xs (bits_of_bytes_are ops) l (omega arith) ∙ sym (out (suc (length xs)) (empty s) xs)

pub count_is_enough : CountIsEnough
count_is_enough = record {
  out_is_15 = out;
  never_out = λ x s ops. any x _ s ops (omega arith);
  any_count = any;
}
