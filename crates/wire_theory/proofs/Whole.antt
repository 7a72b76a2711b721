-- Whole lists of operations: read back, and told apart by their bits.
-- Assumes nothing.
use Prim.Native.Nat.{ℕ, zero, suc}
use native.Mathlib.Omega.{arith}
use mathlib.Core.List.{List, [], ◌∷◌, ◌++◌, append_assoc}
use mathlib.Core.Logic.{◌⊎◌, inl, inr}
use mathlib.Core.Path.{◌≡◌, refl, sym, ap, ap₂, ◌∙◌, subst}
use lib.ListN.{length, replicate}
use Rattle.rules.specs.declared.Operation.{Operation}
use Rattle.rules.specs.Bits.{bits_of_bytes, bytes_of}
use Rattle.rules.specs.Code.{operation_bits, operations_bits, Read, breaks_off, read, read_operation}
use Rattle.wire_theory.specs.Shape.{Fits}
use Rattle.wire_theory.proofs.Lists.{Bits, below_rest}
use Rattle.wire_theory.proofs.Bytes.{fill, bits_of_bytes_lem}
use Rattle.wire_theory.proofs.Operations.{read_operation_lem, OperationRead, operation_read, operations_bits_are}

-- each operation's indices fit
abbrev pub AllFit : List Operation → Type 0
AllFit [] = Unit {0}
AllFit (o ∷ os) = Fits o × AllFit os

-- the operations at the front of some bits, and the bits after them; or they break off
pub data ReadAll : Type 0 where
  all_break_off : ReadAll
  all_read : List Operation → List ℕ → ReadAll

abbrev pub read_onto : Operation → ReadAll → ReadAll
read_onto o all_break_off = all_break_off
read_onto o (all_read os xs) = all_read (o ∷ os) xs

-- the first n operations
unfoldable pub read_all : ℕ → List ℕ → ReadAll
read_all zero xs = all_read [] xs
read_all (suc n) xs = elim (read_operation xs) [ breaks_off ↦ all_break_off | read o ys ↦ read_onto o (read_all n ys) ]

-- the first operation of a list, read
read_first : (o : Operation) (os : List Operation) (xs : List ℕ) → Fits o
    → read_operation (operations_bits (o ∷ os) ++ xs) ≡ read o (operations_bits os ++ xs)
unfolding operations_bits
read_first o os xs h = ap read_operation (append_assoc (operation_bits o) (operations_bits os) xs)
    ∙ read_operation_lem o (operations_bits os ++ xs) h

-- operations that were written are read
pub read_all_lem : (os : List Operation) (xs : List ℕ) → AllFit os → read_all (length os) (operations_bits os ++ xs) ≡ all_read os xs
unfolding read_all operations_bits
read_all_lem [] xs h = refl
read_all_lem (o ∷ os) xs h = rw (read_first o os xs h.0, read_all, read_all_lem os xs h.1)

-- operations that are read were written
pub record OperationsRead (n : ℕ) (os : List Operation) (xs ys : List ℕ) : Type 0 where
  pub from : xs ≡ operations_bits os ++ ys
  pub fit : AllFit os
  pub count : length os ≡ n

never_all : (n : ℕ) (os : List Operation) (xs ys : List ℕ) → all_break_off ≡ all_read os ys → OperationsRead n os xs ys
never_all n os xs ys e = let z : ◌≡◌ {A = ℕ} 0 1 = cc in absurd (omega arith)

none_read : (os : List Operation) (xs ys : List ℕ) → all_read [] xs ≡ all_read os ys → OperationsRead 0 os xs ys
unfolding operations_bits
none_read [] xs ys e = record { from = cc; fit = tt; count = refl }
none_read (o ∷ os) xs ys e = let z : ◌≡◌ {A = ℕ} 0 1 = cc in absurd (omega arith)

more_read : (n : ℕ) (o : Operation) (qs os : List Operation) (xs zs ws ys : List ℕ) → OperationRead o xs zs → OperationsRead n qs zs ws
    → all_read (o ∷ qs) ws ≡ all_read os ys → OperationsRead (suc n) os xs ys
unfolding operations_bits
more_read n o qs [] xs zs ws ys r s e = let z : ◌≡◌ {A = ℕ} 0 1 = cc in absurd (omega arith)
more_read n o qs (p ∷ os) xs zs ws ys r s e =
    let a : o ≡ p = cc in
    let b : qs ≡ os = cc in
    let c : ws ≡ ys = cc in
    let f : xs ≡ operations_bits (o ∷ qs) ++ ws =
    r.from ∙ ap (λ (us : List ℕ). operation_bits o ++ us) s.from ∙ sym (append_assoc (operation_bits o) (operations_bits qs) ws) in
    record {
      from = f ∙ ap₂ (λ (ts : List Operation) (us : List ℕ). operations_bits ts ++ us)
          (ap₂ (λ (t : Operation) (ts : List Operation). t ∷ ts) a b) c;
      fit = (subst Fits a r.fits, subst AllFit b s.fit);
      count = ap (λ (ts : List Operation). suc (length ts)) (sym b) ∙ ap suc s.count;
    }

-- after the first operation, by what reads the others
rest_read : (n : ℕ) (o : Operation) (os : List Operation) (xs zs ys : List ℕ) (a : ReadAll) → OperationRead o xs zs
    → ((qs : List Operation) (ws : List ℕ) → a ≡ all_read qs ws → OperationsRead n qs zs ws) → read_onto o a ≡ all_read os ys
    → OperationsRead (suc n) os xs ys
rest_read n o os xs zs ys all_break_off r again e = never_all (suc n) os xs ys e
rest_read n o os xs zs ys (all_read qs ws) r again e = more_read n o qs os xs zs ws ys r (again qs ws refl) e

first_read : (n : ℕ) (os : List Operation) (xs ys : List ℕ) (r : Read) → Bits xs → read_operation xs ≡ r
    → ((qs : List Operation) (zs ws : List ℕ) → Bits zs → read_all n zs ≡ all_read qs ws → OperationsRead n qs zs ws)
    → ◌≡◌ {A = ReadAll} (elim r [ breaks_off ↦ all_break_off | read o zs ↦ read_onto o (read_all n zs) ]) (all_read os ys)
    → OperationsRead (suc n) os xs ys
first_read n os xs ys breaks_off h f again e = never_all (suc n) os xs ys e
first_read n os xs ys (read o zs) h f again e =
    let r : OperationRead o xs zs = operation_read o xs zs h f in
    let hz : Bits zs = below_rest 2 (operation_bits o) zs (subst (λ (us : List ℕ). Bits us) r.from h) in
    rest_read n o os xs zs ys (read_all n zs) r (λ qs ws g. again qs zs ws hz g) e

pub operations_read : (n : ℕ) (os : List Operation) (xs ys : List ℕ) → Bits xs → read_all n xs ≡ all_read os ys → OperationsRead n os xs ys
unfolding read_all
operations_read zero os xs ys h e = none_read os xs ys e
operations_read (suc n) os xs ys h e = first_read n os xs ys (read_operation xs) h refl (λ qs zs ws hz g. operations_read n qs zs ws hz g) e

-- the list os goes on as ps: the bits after os are those of the rest, and what comes after ps
pub record Begins (os ps : List Operation) (us vs : List ℕ) : Type 0 where
  pub rest : List Operation
  pub goes_on : ps ≡ os ++ rest
  pub after : us ≡ operations_bits rest ++ vs

-- of two lists with the same bits, whatever comes after them, one begins the other
pub one_begins : (os ps : List Operation) (us vs : List ℕ) → AllFit os → AllFit ps → operations_bits os ++ us ≡ operations_bits ps ++ vs
    → Begins os ps us vs ⊎ Begins ps os vs us
unfolding operations_bits
one_begins [] ps us vs h k e = inl (record { rest = ps; goes_on = refl; after = e })
one_begins (o ∷ os) [] us vs h k e = inr (record { rest = o ∷ os; goes_on = refl; after = sym e })
one_begins (o ∷ os) (p ∷ ps) us vs h k e =
    let f : read o (operations_bits os ++ us) ≡ read p (operations_bits ps ++ vs) =
    sym (read_first o os us h.0) ∙ ap read_operation e ∙ read_first p ps vs k.0 in
    both o p os ps us vs (cc) (one_begins os ps us vs h.1 k.1 (cc))
  where
    both : (o p : Operation) (os ps : List Operation) (us vs : List ℕ) → o ≡ p → Begins os ps us vs ⊎ Begins ps os vs us
        → Begins (o ∷ os) (p ∷ ps) us vs ⊎ Begins (p ∷ ps) (o ∷ os) vs us
    both o p os ps us vs q (inl b) =
        inl (record {
          rest = b.rest;
          goes_on = ap₂ (λ (t : Operation) (ts : List Operation). t ∷ ts) (sym q) b.goes_on;
          after =
              b.after;
        })
    both o p os ps us vs q (inr b) =
        inr (record { rest = b.rest; goes_on = ap₂ (λ (t : Operation) (ts : List Operation). t ∷ ts) q b.goes_on; after = b.after })

-- two lists of as many operations with the same bits are the same, and so is what comes after them
pub same_operations : (os ps : List Operation) (us vs : List ℕ) → AllFit os → AllFit ps → length os ≡ length ps
    → operations_bits os ++ us ≡ operations_bits ps ++ vs → (os ≡ ps) × (us ≡ vs)
unfolding operations_bits
same_operations [] [] us vs h k l e = (refl, e)
same_operations [] (p ∷ ps) us vs h k l e = absurd (omega arith)
same_operations (o ∷ os) [] us vs h k l e = absurd (omega arith)
same_operations (o ∷ os) (p ∷ ps) us vs h k l e =
    let f : read o (operations_bits os ++ us) ≡ read p (operations_bits ps ++ vs) =
    sym (read_first o os us h.0) ∙ ap read_operation e ∙ read_first p ps vs k.0 in
    let r = same_operations os ps us vs h.1 k.1 (omega arith) (cc) in
    (ap₂ (λ (t : Operation) (ts : List Operation). t ∷ ts) (cc) r.0, r.1)

-- two lists in the same bytes: one begins the other, by its fill bits
pub same_bytes : (os ps : List Operation) → AllFit os → AllFit ps → bytes_of (operations_bits os) ≡ bytes_of (operations_bits ps)
    → Begins os ps (replicate (fill (length (operations_bits os))) 0) (replicate (fill (length (operations_bits ps))) 0)
    ⊎ Begins ps os (replicate (fill (length (operations_bits ps))) 0) (replicate (fill (length (operations_bits os))) 0)
same_bytes os ps h k e =
    one_begins os ps _ _ h k
    (sym (bits_of_bytes_lem (operations_bits os) (operations_bits_are os)) ∙ ap bits_of_bytes e
    ∙ bits_of_bytes_lem (operations_bits ps) (operations_bits_are ps))
