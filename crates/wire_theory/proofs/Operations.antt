-- Operations as bits: what is written is read back, and what is read was written.
-- Assumes nothing.
use Prim.Native.Nat.{ℕ, zero, suc, ◌+◌, ◌^◌, ◌≤◌, ◌<◌}
use native.Mathlib.Omega.{arith}
use mathlib.Core.List.{List, [], ◌∷◌, ◌++◌, append_assoc, append-nil}
use mathlib.Core.Path.{◌≡◌, refl, sym, ap, ap₂, ◌∙◌, subst}
use lib.ListN.{length, length-append}
use Rattle.rules.specs.declared.Operation.{Operation}
use Rattle.rules.specs.declared.Operation.TheVariants.{New, Forward, Backward, Border, Split, Close, Union, Start}
use Rattle.rules.specs.Bits.{bits, Number, broken_off, number, read_number}
use Rattle.rules.specs.Code.{place_bits, loop_bits, code, index_bits, operation_bits, operations_bits, breaks_off, read, read_split}
use Rattle.rules.specs.Code.{read_place}
use Rattle.rules.specs.Code.{read_union, kinds, kind_in, read_indices, read_code, read_operation}
use Rattle.wire_theory.specs.Shape.{Fits, width_of}
use Rattle.wire_theory.proofs.Lists.{Bits, below_append, below_rest}
use Rattle.wire_theory.proofs.Numbers.{bits_are, read_bits, read_inverse, NumberRead}

pub length_operation : (o : Operation) → length (operation_bits o) ≡ width_of o
unfolding operation_bits bits
length_operation New = refl
length_operation Forward = refl
length_operation Backward = refl
length_operation Border = refl
length_operation (Split i) = refl
length_operation Close = refl
length_operation (Union p j) = refl
length_operation Start = refl

pub width_least : (o : Operation) → 3 ≤ width_of o
width_least New = omega arith
width_least Forward = omega arith
width_least Backward = omega arith
width_least Border = omega arith
width_least (Split i) = omega arith
width_least Close = omega arith
width_least (Union p j) = omega arith
width_least Start = omega arith

pub width_most : (o : Operation) → width_of o ≤ 20
width_most New = omega arith
width_most Forward = omega arith
width_most Backward = omega arith
width_most Border = omega arith
width_most (Split i) = omega arith
width_most Close = omega arith
width_most (Union p j) = omega arith
width_most Start = omega arith

pub operation_bits_are : (o : Operation) → Bits (operation_bits o)
unfolding operation_bits
operation_bits_are o = below_append 2 (bits 3 (code o)) (index_bits o) (bits_are 3 (code o)) (of o)
  where
    of : (o : Operation) → Bits (index_bits o)
    of New = tt
    of Forward = tt
    of Backward = tt
    of Border = tt
    of (Split i) = bits_are place_bits i
    of Close = tt
    of (Union p j) = below_append 2 (bits loop_bits p) (bits place_bits j) (bits_are loop_bits p) (bits_are place_bits j)
    of Start = tt

pub operations_bits_are : (os : List Operation) → Bits (operations_bits os)
unfolding operations_bits
operations_bits_are [] = tt
operations_bits_are (o ∷ os) = below_append 2 (operation_bits o) (operations_bits os) (operation_bits_are o) (operations_bits_are os)

pub operations_append : (os ps : List Operation) → operations_bits (os ++ ps) ≡ operations_bits os ++ operations_bits ps
unfolding operations_bits
operations_append [] ps = refl
operations_append (o ∷ os) ps =
    ap (λ (xs : List ℕ). operation_bits o ++ xs) (operations_append os ps)
    ∙ sym (append_assoc (operation_bits o) (operations_bits os) (operations_bits ps))

-- one more operation at the end
pub operations_more : (os : List Operation) (o : Operation) → operations_bits (os ++ (o ∷ [])) ≡ operations_bits os ++ operation_bits o
unfolding operations_bits
operations_more os o = operations_append os (o ∷ []) ∙ ap (λ (xs : List ℕ). operations_bits os ++ xs) (append-nil (operation_bits o))

-- an operation that was written is read
pub read_operation_lem : (o : Operation) (xs : List ℕ) → Fits o → read_operation (operation_bits o ++ xs) ≡ read o xs
unfolding operation_bits read_operation read_number bits kind_in
read_operation_lem New xs h = refl
read_operation_lem Forward xs h = refl
read_operation_lem Backward xs h = refl
read_operation_lem Border xs h = refl
read_operation_lem (Split i) xs h = ap read_split (read_bits place_bits i xs h)
read_operation_lem Close xs h = refl
read_operation_lem (Union p j) xs h =
    ap read_union (ap (read_number loop_bits 0) (append_assoc (bits loop_bits p) (bits place_bits j) xs)
    ∙ read_bits loop_bits p (bits place_bits j ++ xs) h.0)
    ∙ ap (read_place p) (read_bits place_bits j xs h.1)
read_operation_lem Start xs h = refl

-- an operation that is read was written
pub record OperationRead (o : Operation) (xs ys : List ℕ) : Type 0 where
  pub from : xs ≡ operation_bits o ++ ys
  pub fits : Fits o

written : (k o : Operation) (xs zs ys : List ℕ) → xs ≡ operation_bits k ++ zs → Fits k → read k zs ≡ read o ys → OperationRead o xs ys
written k o xs zs ys e h f =
    let p : k ≡ o = cc in
    let q : zs ≡ ys = cc in
    record { from = e ∙ ap₂ (λ (o : Operation) (zs : List ℕ). operation_bits o ++ zs) p q; fits = subst Fits p h }

never_read : (o : Operation) (xs ys : List ℕ) → breaks_off ≡ read o ys → OperationRead o xs ys
never_read o xs ys e = let z : ◌≡◌ {A = ℕ} 0 1 = cc in absurd (omega arith)

split_from : (o : Operation) (xs zs ys : List ℕ) (n : Number) → Bits zs → xs ≡ bits 3 4 ++ zs → read_number place_bits 0 zs ≡ n
    → read_split n ≡ read o ys
    → OperationRead o xs ys
unfolding operation_bits
split_from o xs zs ys broken_off h e f g = never_read o xs ys g
split_from o xs zs ys (number i ws) h e f g =
    let r : NumberRead place_bits i zs ws = read_inverse place_bits i zs ws h f in
    written (Split i) o xs ws ys
    (e ∙ ap (λ (us : List ℕ). bits 3 4 ++ us) r.from ∙ sym (append_assoc (bits 3 4) (bits place_bits i) ws)) r.small g

place_from : (o : Operation) (xs zs ys : List ℕ) (p : ℕ) (n : Number) → Bits zs → p < 2 ^ loop_bits
    → xs ≡ bits 3 6 ++ (bits loop_bits p ++ zs)
    → read_number place_bits 0 zs ≡ n → read_place p n ≡ read o ys → OperationRead o xs ys
unfolding operation_bits
place_from o xs zs ys p broken_off h l e f g = never_read o xs ys g
place_from o xs zs ys p (number j ws) h l e f g =
    let r : NumberRead place_bits j zs ws = read_inverse place_bits j zs ws h f in
    let a : bits loop_bits p ++ zs ≡ (bits loop_bits p ++ bits place_bits j) ++ ws =
    ap (λ (us : List ℕ). bits loop_bits p ++ us) r.from ∙ sym (append_assoc (bits loop_bits p) (bits place_bits j) ws) in
    written (Union p j) o xs ws ys
    (e ∙ ap (λ (us : List ℕ). bits 3 6 ++ us) a ∙ sym (append_assoc (bits 3 6) (bits loop_bits p ++ bits place_bits j) ws)) (l, r.small) g

union_from : (o : Operation) (xs zs ys : List ℕ) (n : Number) → Bits zs → xs ≡ bits 3 6 ++ zs → read_number loop_bits 0 zs ≡ n
    → read_union n ≡ read o ys
    → OperationRead o xs ys
union_from o xs zs ys broken_off h e f g = never_read o xs ys g
union_from o xs zs ys (number p ws) h e f g =
    let r : NumberRead loop_bits p zs ws = read_inverse loop_bits p zs ws h f in
    let hw : Bits ws = below_rest 2 (bits loop_bits p) ws (subst (λ (us : List ℕ). Bits us) r.from h) in
    place_from o xs ws ys p (read_number place_bits 0 ws) hw r.small (e ∙ ap (λ (us : List ℕ). bits 3 6 ++ us) r.from) refl g

plain_from : (k o : Operation) (xs zs ys : List ℕ) (c : ℕ) → index_bits k ≡ [] → Fits k → code k ≡ c → xs ≡ bits 3 c ++ zs
    → read k zs ≡ read o ys
    → OperationRead o xs ys
unfolding operation_bits
plain_from k o xs zs ys c i h d e f =
    written k o xs zs ys
    (e ∙ ap₂ (λ (a : ℕ) (us : List ℕ). bits 3 a ++ us) (sym d) (ap (λ (us : List ℕ). us ++ zs) (sym i))
    ∙ sym (append_assoc (bits 3 (code k)) (index_bits k) zs)) h f

kind_from : (c : ℕ) (o : Operation) (xs zs ys : List ℕ) → Bits zs → c < 8 → xs ≡ bits 3 c ++ zs
    → read_indices (kind_in c kinds) zs ≡ read o ys → OperationRead o xs ys
unfolding kind_in
kind_from zero o xs zs ys h l e f = plain_from New o xs zs ys 0 refl tt refl e f
kind_from (suc zero) o xs zs ys h l e f = plain_from Forward o xs zs ys 1 refl tt refl e f
kind_from (suc (suc zero)) o xs zs ys h l e f = plain_from Backward o xs zs ys 2 refl tt refl e f
kind_from (suc (suc (suc zero))) o xs zs ys h l e f = plain_from Border o xs zs ys 3 refl tt refl e f
kind_from (suc (suc (suc (suc zero)))) o xs zs ys h l e f = split_from o xs zs ys (read_number place_bits 0 zs) h e refl f
kind_from (suc (suc (suc (suc (suc zero))))) o xs zs ys h l e f = plain_from Close o xs zs ys 5 refl tt refl e f
kind_from (suc (suc (suc (suc (suc (suc zero)))))) o xs zs ys h l e f = union_from o xs zs ys (read_number loop_bits 0 zs) h e refl f
kind_from (suc (suc (suc (suc (suc (suc (suc zero))))))) o xs zs ys h l e f = plain_from Start o xs zs ys 7 refl tt refl e f
kind_from (suc (suc (suc (suc (suc (suc (suc (suc c)))))))) o xs zs ys h l e f = absurd (omega arith)

code_from : (o : Operation) (xs ys : List ℕ) (n : Number) → Bits xs → read_number 3 0 xs ≡ n → read_code n ≡ read o ys
    → OperationRead o xs ys
code_from o xs ys broken_off h e f = never_read o xs ys f
code_from o xs ys (number c zs) h e f =
    let r : NumberRead 3 c xs zs = read_inverse 3 c xs zs h e in
    kind_from c o xs zs ys (below_rest 2 (bits 3 c) zs (subst (λ (us : List ℕ). Bits us) r.from h)) r.small r.from f

pub operation_read : (o : Operation) (xs ys : List ℕ) → Bits xs → read_operation xs ≡ read o ys → OperationRead o xs ys
unfolding read_operation
operation_read o xs ys h e = code_from o xs ys (read_number 3 0 xs) h refl e

-- how many bits it took
pub length_read : (o : Operation) (xs ys : List ℕ) → OperationRead o xs ys → length xs ≡ width_of o + length ys
length_read o xs ys r = omega (arith, ap length r.from, length-append (operation_bits o) ys, length_operation o)
