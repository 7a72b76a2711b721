-- The note after the other fields: what is written is found, and what is found stands there.
-- Assumes nothing.
use Prim.Native.Nat.{ℕ, ◌+◌, ◌-◌, ◌*◌, ◌<◌}
use native.Mathlib.Omega.{arith}
use mathlib.Core.Bool.{Bool, true, false}
use mathlib.Core.List.{List, [], ◌∷◌, ◌++◌, append_assoc, append-nil}
use mathlib.Core.Logic.{◌⊎◌, inl, inr}
use mathlib.Core.Path.{◌≡◌, refl, sym, ap, ap₂, ◌∙◌, subst}
use lib.Dec.{eqb, leb}
use lib.ListN.{length, take, drop, length-append, take-append-drop}
use lib.Seq.{take-append-le, drop-append-le}
use borrow.Author.Tests.{leb-true, le-leb}
use Rattle.rules.specs.Fields.{counts_tag, operations_tag, field_of, Field, no_field, field, take_field}
use Rattle.rules.specs.Later.{positions_tag, Given, not_given, given, parts, last_part, later_part}
use Rattle.rules.specs.Later.{after_operations, after_counts, parts_of}
use Rattle.rules.specs.Note.{note_tag, with_note, NoteTaken, past_field, past, last_note, past_others, take_note}
use Rattle.wire_theory.specs.Shape.{Bytes}
use Rattle.wire_theory.proofs.Lists.{below_rest}
use Rattle.wire_theory.proofs.Fields.{take_field_lem, field_found}
use Rattle.wire_theory.proofs.Later.{front_part, never_parts}

-- a field at the front of some bytes: three bytes, its contents cs, and the bytes ds; whatever follows these, it is found
pub record Here (tag : ℕ) (bs cs ds : List ℕ) : Type 0 where
  pub head : List ℕ
  pub three : length head ≡ 3
  pub from : bs ≡ head ++ (cs ++ ds)
  pub more : (xs : List ℕ) → take_field tag (bs ++ xs) ≡ field cs (ds ++ xs)

never_here : {A : Type 0} {cs ds : List ℕ} → no_field ≡ field cs ds → A
never_here e = let z : ◌≡◌ {A = ℕ} 0 1 = cc in absurd (omega arith)

pub found_here : (tag : ℕ) (bs cs ds : List ℕ) → take_field tag bs ≡ field cs ds → Here tag bs cs ds
unfolding take_field
found_here tag [] cs ds e = never_here e
found_here tag (t ∷ []) cs ds e = never_here e
found_here tag (t ∷ (h ∷ [])) cs ds e = never_here e
found_here tag (t ∷ (h ∷ (l ∷ us))) cs ds e = by_tag (eqb t tag) refl e
  where
    n : ℕ
    n = 256 * h + l

    taken : Bool → List ℕ → Field
    taken b vs = elim b [ true ↦ field (take n vs) (drop n vs) | false ↦ no_field ]

    by_length : (b : Bool) → leb n (length us) ≡ b → eqb t tag ≡ true → taken b us ≡ field cs ds
        → Here tag (t ∷ (h ∷ (l ∷ us))) cs ds
    by_length false k f g = never_here g
    by_length true k f g =
        let a : take n us ≡ cs = cc in
        let b : drop n us ≡ ds = cc in
        let s = leb-true n (length us) k in
        record {
          head = t ∷ (h ∷ (l ∷ []));
          three = refl;
          from = ap (λ (vs : List ℕ). t ∷ (h ∷ (l ∷ vs))) (sym (take-append-drop n us) ∙ ap₂ (λ (x y : List ℕ). x ++ y) a b);
          more =
              λ xs. ap (λ (q : Bool). elim q as (λ _. Field) [ true ↦ taken (leb n (length (us ++ xs))) (us ++ xs) | false ↦ no_field ]) f
              ∙ ap (λ (q : Bool). taken q (us ++ xs)) (le-leb n (length (us ++ xs)) (omega (arith, length-append us xs, s)))
              ∙ ap₂ field (take-append-le n us xs s ∙ a) (drop-append-le n us xs s ∙ ap (λ (y : List ℕ). y ++ xs) b);
        }

    by_tag : (b : Bool) → eqb t tag ≡ b
        → elim b as (λ _. Field) [ true ↦ taken (leb n (length us)) us | false ↦ no_field ] ≡ field cs ds
        → Here tag (t ∷ (h ∷ (l ∷ us))) cs ds
    by_tag false f g = never_here g
    by_tag true f g = by_length (leb n (length us)) refl f g

-- past a field that is there
past_found : (tag : ℕ) (bs cs ds : List ℕ) → take_field tag bs ≡ field cs ds → past tag bs ≡ ds
past_found tag bs cs ds e = ap (past_field bs) e

-- a pack without a note has nothing after its fields, and what follows it stands there
pub record Others (bytes : List ℕ) : Type 0 where
  pub past_all : past_others bytes ≡ []
  pub before : (ns : List ℕ) → past_others (bytes ++ field_of note_tag ns) ≡ field_of note_tag ns

no_positions : (ns : List ℕ) → past positions_tag (field_of note_tag ns) ≡ field_of note_tag ns
unfolding take_field
no_positions ns = refl

pub others : (bytes two : List ℕ) (g : Given (List ℕ)) → parts_of bytes ≡ parts two g → Others bytes
unfolding parts_of later_part take_field
others bytes two g e = first (take_field counts_tag bytes) refl e
  where
    -- what follows the operations: nothing, or the positions
    third : (old more : List ℕ) → later_part old more ≡ parts two g
        → (past positions_tag more ≡ []) × ((ns : List ℕ) → past positions_tag (more ++ field_of note_tag ns) ≡ field_of note_tag ns)
    third old [] q = (refl, no_positions)
    third old (b ∷ bs) q = go (take_field positions_tag (b ∷ bs)) refl q
      where
        go : (f : Field) → take_field positions_tag (b ∷ bs) ≡ f → last_part old f ≡ parts two g
            → (past positions_tag (b ∷ bs) ≡ []) × ((ns : List ℕ)
            → past positions_tag ((b ∷ bs) ++ field_of note_tag ns) ≡ field_of note_tag ns)
        go no_field p q = never_parts q
        go (field ps (c ∷ cs)) p q = never_parts q
        go (field ps []) p q = (
          past_found positions_tag (b ∷ bs) ps [] p,
          λ ns. past_found positions_tag ((b ∷ bs) ++ field_of note_tag ns) ps (field_of note_tag ns)
              ((found_here positions_tag (b ∷ bs) ps [] p).more (field_of note_tag ns)),
        )

    second : (cs more : List ℕ) (f : Field) → take_field counts_tag bytes ≡ field cs more → take_field operations_tag more ≡ f
        → after_operations bytes f ≡ parts two g → Others bytes
    second cs more no_field k p q = never_parts q
    second cs more (field os rest) k p q =
        let t = third (take (length bytes - length rest) bytes) rest q in
        record {
          past_all =
              ap (λ (us : List ℕ). past positions_tag (past operations_tag us)) (past_found counts_tag bytes cs more k)
              ∙ ap (past positions_tag) (past_found operations_tag more os rest p) ∙ t.0;
          before =
              λ ns. let x = field_of note_tag ns in
              ap (λ (us : List ℕ). past positions_tag (past operations_tag us))
              (past_found counts_tag (bytes ++ x) cs (more ++ x) ((found_here counts_tag bytes cs more k).more x))
              ∙ ap (past positions_tag)
              (past_found operations_tag (more ++ x) os (rest ++ x) ((found_here operations_tag more os rest p).more x))
              ∙ t.1 ns;
        }

    first : (f : Field) → take_field counts_tag bytes ≡ f → after_counts bytes f ≡ parts two g → Others bytes
    first no_field p q = never_parts q
    first (field cs more) p q = second cs more (take_field operations_tag more) p refl q

-- no note is found where none was written
pub no_note : (bytes two : List ℕ) (g : Given (List ℕ)) → parts_of bytes ≡ parts two g
    → take_note bytes ≡ record { before = bytes; note = not_given }
unfolding take_note take_field
no_note bytes two g e =
    ap (λ (more : List ℕ). last_note bytes (take (length bytes - length more) bytes) (take_field note_tag more))
    (others bytes two g e).past_all

-- what is written is found
pub note_written : (front two ns : List ℕ) (g : Given (List ℕ)) → parts_of front ≡ parts two g → length ns < 65536
    → take_note (front ++ field_of note_tag ns) ≡ record { before = front; note = given ns }
unfolding take_note
note_written front two ns g e l =
    let x = field_of note_tag ns in
    let bytes = front ++ x in
    ap (λ (more : List ℕ). last_note bytes (take (length bytes - length more) bytes) (take_field note_tag more))
    ((others front two g e).before ns)
    ∙ ap (last_note bytes (take (length bytes - length x) bytes))
    (ap (take_field note_tag) (sym (append-nil x)) ∙ take_field_lem note_tag ns [] l)
    ∙ (λ i. record { before = front_part front x i; note = given ns })

-- the bytes before those that are left
past_part : (tag : ℕ) (bs : List ℕ) → (xs : List ℕ) × (bs ≡ xs ++ past tag bs)
past_part tag bs = go (take_field tag bs) refl
  where
    go : (f : Field) → take_field tag bs ≡ f → (xs : List ℕ) × (bs ≡ xs ++ past_field bs f)
    go no_field e = ([], refl)
    go (field cs ds) e =
        let h = found_here tag bs cs ds e in
        (h.head ++ cs, h.from ∙ sym (append_assoc h.head cs ds))

others_part : (bytes : List ℕ) → (xs : List ℕ) × (bytes ≡ xs ++ past_others bytes)
others_part bytes =
    let a = past_part counts_tag bytes in
    let b = past_part operations_tag (past counts_tag bytes) in
    let c = past_part positions_tag (past operations_tag (past counts_tag bytes)) in
    let more = past_others bytes in (
      a.0 ++ (b.0 ++ c.0),
      a.1 ∙ ap (λ (us : List ℕ). a.0 ++ us) (b.1 ∙ ap (λ (us : List ℕ). b.0 ++ us) c.1 ∙ sym (append_assoc b.0 c.0 more))
          ∙ sym (append_assoc a.0 (b.0 ++ c.0) more),
    )

-- a note that is found: three bytes, and its contents to the end
pub record NoteThere (bytes : List ℕ) : Type 0 where
  pub front : List ℕ
  pub note : List ℕ
  pub is : take_note bytes ≡ record { before = front; note = given note }
  pub head : List ℕ
  pub three : length head ≡ 3
  pub from : bytes ≡ front ++ (head ++ note)
  pub written : Bytes bytes → bytes ≡ with_note (given note) front

abbrev pub NoNote : List ℕ → Type 0
NoNote bytes = take_note bytes ≡ record { before = bytes; note = not_given }

-- a note is found or not
pub note_found : (bytes : List ℕ) → NoNote bytes ⊎ NoteThere bytes
unfolding take_note
note_found bytes = go (take_field note_tag (past_others bytes)) refl
  where
    taken : Field → NoteTaken
    taken f = last_note bytes (take (length bytes - length (past_others bytes)) bytes) f

    go : (f : Field) → take_field note_tag (past_others bytes) ≡ f → NoNote bytes ⊎ NoteThere bytes
    go no_field e = inl (ap taken e)
    go (field ns (b ∷ bs)) e = inl (ap taken e)
    go (field ns []) e =
        let p = others_part bytes in
        let h = found_here note_tag (past_others bytes) ns [] e in
        let x : past_others bytes ≡ h.head ++ ns = h.from ∙ ap (λ (us : List ℕ). h.head ++ us) (append-nil ns) in
        let c : take (length bytes - length (past_others bytes)) bytes ≡ p.0 =
        ap (λ (us : List ℕ). take (length us - length (past_others bytes)) us) p.1 ∙ front_part p.0 (past_others bytes) in
        inr (record {
          front = p.0;
          note = ns;
          is = ap taken e ∙ (λ i. record { before = c i; note = given ns });
          head = h.head;
          three = h.three;
          from = p.1 ∙ ap (λ (us : List ℕ). p.0 ++ us) x;
          written =
              λ hb. let f = field_found note_tag (past_others bytes) ns [] (below_rest 256 p.0 (past_others bytes) (subst Bytes p.1 hb))
              e in
              p.1 ∙ ap (λ (us : List ℕ). p.0 ++ us) (f.from ∙ append-nil (field_of note_tag ns));
        })
