-- The field that may follow the first two: what is written is found, and what is found was written.
-- Assumes nothing.
use Prim.Native.Nat.{ℕ, ◌-◌, ◌<◌}
use native.Mathlib.Omega.{arith}
use mathlib.Core.Bool.{Bool, true, false}
use mathlib.Core.List.{List, [], ◌∷◌, ◌++◌, append_assoc, append-nil}
use mathlib.Core.Path.{◌≡◌, refl, sym, ap, ap₂, ◌∙◌, subst}
use lib.Dec.{eqb}
use lib.ListN.{length, take, length-append}
use lib.Seq.{take_at}
use Rattle.rules.specs.declared.Counts.{Counts}
use Rattle.rules.specs.Fields.{counts_tag, operations_tag, field_of, counts_of, pack_bytes, Field, no_field, field, take_field}
use Rattle.rules.specs.Fields.{Fields, no_pack, fields, last_field, first_field, fields_of}
use Rattle.rules.specs.Later.{positions_tag, Given, not_given, given, no_parts, parts, last_part, later_part}
use Rattle.rules.specs.Later.{after_operations, after_counts, parts_of}
use Rattle.wire_theory.specs.Shape.{Bytes}
use Rattle.wire_theory.specs.Later.{later_bytes, LaterFits}
use Rattle.wire_theory.proofs.Lists.{below_rest}
use Rattle.wire_theory.proofs.Fields.{take_field_lem, field_found}

-- the bytes before some others
pub front_part : (xs ys : List ℕ) → take (length (xs ++ ys) - length ys) (xs ++ ys) ≡ xs
front_part xs ys = take_at xs ys (length (xs ++ ys) - length ys) (omega (arith, length-append xs ys))

-- after the operations
later_written : (two : List ℕ) (g : Given (List ℕ)) → LaterFits g → later_part two (later_bytes g) ≡ parts two g
unfolding later_part
later_written two not_given h = refl
later_written two (given ps) h =
    ap (last_part two) (ap (take_field positions_tag) (sym (append-nil (field_of positions_tag ps))) ∙ take_field_lem positions_tag ps [] h)

-- what is written is found
pub parts_written : (s : Counts) (ops : List ℕ) (g : Given (List ℕ)) → length ops < 65536 → LaterFits g
    → parts_of (pack_bytes s ops ++ later_bytes g) ≡ parts (pack_bytes s ops) g
unfolding parts_of pack_bytes
parts_written s ops g l h =
    let cs = field_of counts_tag (counts_of s) in
    let os = field_of operations_tag ops in
    let bytes = (cs ++ os) ++ later_bytes g in
    ap (after_counts bytes)
    (ap (take_field counts_tag) (append_assoc cs os (later_bytes g))
    ∙ take_field_lem counts_tag (counts_of s) (os ++ later_bytes g) (omega arith))
    ∙ ap (after_operations bytes) (take_field_lem operations_tag ops (later_bytes g) l)
    ∙ ap (λ (two : List ℕ). later_part two (later_bytes g)) (front_part (cs ++ os) (later_bytes g)) ∙ later_written (cs ++ os) g h

take_all : (xs : List ℕ) → take (length xs - length {A = ℕ} []) xs ≡ xs
take_all xs = let e = front_part xs [] in subst (λ (ys : List ℕ). take (length ys - length {A = ℕ} []) ys ≡ xs) (append-nil xs) e

-- the first two fields alone, whatever bytes they are
pub two_parts : (bytes : List ℕ) (s : Counts) (ops : List ℕ) → fields_of bytes ≡ fields s ops → parts_of bytes ≡ parts bytes not_given
unfolding fields_of parts_of later_part
two_parts bytes s ops h = first (take_field counts_tag bytes) h
  where
    never : {A : Type 0} → no_pack ≡ fields s ops → A
    never e = let z : ◌≡◌ {A = ℕ} 0 1 = cc in absurd (omega arith)

    second : (cs : List ℕ) (f : Field) → last_field cs f ≡ fields s ops → after_operations bytes f ≡ parts bytes not_given
    second cs no_field k = never k
    second cs (field os (b ∷ bs)) k = never k
    second cs (field os []) k = ap (λ (two : List ℕ). parts two not_given) (take_all bytes)

    eight : (t : Bool) (cs more : List ℕ)
        → ◌≡◌ {A = Fields} (elim t [ true ↦ last_field cs (take_field operations_tag more) | false ↦ no_pack ]) (fields s ops)
        → after_operations bytes (take_field operations_tag more) ≡ parts bytes not_given
    eight true cs more k = second cs (take_field operations_tag more) k
    eight false cs more k = never k

    first : (f : Field) → first_field f ≡ fields s ops → after_counts bytes f ≡ parts bytes not_given
    first no_field k = never k
    first (field cs more) k = eight (eqb (length cs) 8) cs more k

-- what is found was written
pub record PartsFound (bytes two : List ℕ) (g : Given (List ℕ)) : Type 0 where
  pub from : bytes ≡ two ++ later_bytes g
  pub fits : LaterFits g

pub never_parts : {A : Type 0} {two : List ℕ} {g : Given (List ℕ)} → no_parts ≡ parts two g → A
never_parts e = let z : ◌≡◌ {A = ℕ} 0 1 = cc in absurd (omega arith)

found_by : (bytes old two : List ℕ) (h g : Given (List ℕ)) → bytes ≡ old ++ later_bytes h → LaterFits h → parts old h ≡ parts two g
    → PartsFound bytes two g
found_by bytes old two h g e k q =
    let a : old ≡ two = cc in
    let b : h ≡ g = cc in
    record { from = e ∙ ap₂ (λ (us : List ℕ) (x : Given (List ℕ)). us ++ later_bytes x) a b; fits = subst LaterFits b k }

later_found : (old more two : List ℕ) (g : Given (List ℕ)) → Bytes more → later_part old more ≡ parts two g → PartsFound (old ++ more) two g
unfolding later_part
later_found old [] two g h e = found_by (old ++ []) old two not_given g refl tt e
later_found old (b ∷ bs) two g h e = go (take_field positions_tag (b ∷ bs)) refl e
  where
    go : (f : Field) → take_field positions_tag (b ∷ bs) ≡ f → last_part old f ≡ parts two g → PartsFound (old ++ (b ∷ bs)) two g
    go no_field p q = never_parts q
    go (field ps (c ∷ cs)) p q = never_parts q
    go (field ps []) p q =
        let f = field_found positions_tag (b ∷ bs) ps [] h p in
        found_by (old ++ (b ∷ bs)) old two (given ps) g
        (ap (λ (us : List ℕ). old ++ us) (f.from ∙ append-nil (field_of positions_tag ps))) f.short q

pub parts_found : (bytes two : List ℕ) (g : Given (List ℕ)) → Bytes bytes → parts_of bytes ≡ parts two g → PartsFound bytes two g
unfolding parts_of
parts_found bytes two g h e = first (take_field counts_tag bytes) refl e
  where
    -- the bytes after the first field, and those after the second
    second : (cs more : List ℕ) (f : Field) → bytes ≡ field_of counts_tag cs ++ more → Bytes more → take_field operations_tag more ≡ f
        → after_operations bytes f ≡ parts two g → PartsFound bytes two g
    second cs more no_field b k p q = never_parts q
    second cs more (field os rest) b k p q =
        let f = field_found operations_tag more os rest k p in
        let old = field_of counts_tag cs ++ field_of operations_tag os in
        let whole : bytes ≡ old ++ rest =
        b ∙ ap (λ (us : List ℕ). field_of counts_tag cs ++ us) f.from
        ∙ sym (append_assoc (field_of counts_tag cs) (field_of operations_tag os) rest) in
        let cut : take (length bytes - length rest) bytes ≡ old =
        ap (λ (us : List ℕ). take (length us - length rest) us) whole ∙ front_part old rest in
        subst (λ (us : List ℕ). PartsFound us two g) (sym whole)
        (later_found old rest two g (below_rest 256 (field_of operations_tag os) rest (subst (λ (us : List ℕ). Bytes us) f.from k))
        (subst (λ (us : List ℕ). later_part us rest ≡ parts two g) cut q))

    first : (f : Field) → take_field counts_tag bytes ≡ f → after_counts bytes f ≡ parts two g → PartsFound bytes two g
    first no_field p q = never_parts q
    first (field cs more) p q =
        let f = field_found counts_tag bytes cs more h p in
        second cs more (take_field operations_tag more) f.from
        (below_rest 256 (field_of counts_tag cs) more (subst (λ (us : List ℕ). Bytes us) f.from h)) refl q
