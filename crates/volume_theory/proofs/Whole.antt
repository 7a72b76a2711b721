-- Packs that may have positions, unpacked: what an accepted one is, that those of two fields read as before, and that each is the only pack
-- of its list and positions.
-- Assumes nothing.
use Prim.Native.Nat.{ℕ, ◌*◌}
use native.Mathlib.Omega.{arith}
use mathlib.Core.Bool.{Bool, true, false}
use mathlib.Core.List.{List, ◌++◌}
use mathlib.Core.Path.{◌≡◌, refl, sym, ap, ap₂, ◌∙◌, subst}
use lib.Dec.{eqb}
use lib.ListN.{length}
use borrow.Author.Tests.{eqb-true}
use Rattle.rules.specs.declared.Counts.{Counts}
use Rattle.rules.specs.declared.Model.{Model}
use Rattle.rules.specs.Answer.{Answer, refusal, unpacked}
use Rattle.rules.specs.Buffer.{Buffers}
use Rattle.rules.specs.Fields.{fields, fields_of}
use Rattle.rules.specs.Unpack.{UnpackResult, unpack}
use Rattle.rules.specs.Grid.{all_in_grid, position_bytes, positions_from}
use Rattle.rules.specs.Later.{Given, not_given, given, Parts, no_parts, parts, parts_of}
use Rattle.rules.specs.UnpackWhole.{field_fits, model_in, left_by20, then_tested, unpack_parts, unpack_whole}
use Rattle.rules.specs.Note.{NoteTaken, note_fits}
use Rattle.rules.specs.Reading.{unpack_noted, positions_in, measured, volume}
use Rattle.wire_theory.specs.Shape.{Bytes}
use Rattle.wire_theory.specs.Later.{later_bytes}
use Rattle.wire_theory.proofs.Lists.{below_front, below_rest}
use Rattle.wire_theory.proofs.Later.{two_parts, parts_found}
use Rattle.wire_theory.proofs.Note.{no_note}
use Rattle.wire_theory.proofs.Positions.{positions_again}
use Rattle.counting.proofs.Bools.{and_left}
use Rattle.roundtrip.specs.Claims.{list_in}
use Rattle.roundtrip.proofs.Back.{no_two_packs_of_one_list}
use Rattle.volume_theory.specs.Whole.{PacksOfTwoFieldsReadAsBefore, PacksWithoutANoteReadAsBefore, positions_given}
use Rattle.volume_theory.specs.Whole.{NoTwoPacksOfOneListAndPositions}

-- a test that every model passes
pub tested_none : (k : ℕ) (r : Buffers) (u : UnpackResult) (x : Given Model) → then_tested k (λ m. true) r u x ≡ u
unfolding then_tested
tested_none k r u not_given = refl
tested_none k r u (given m) = refl

-- an accepted model that passes
pub tested_fits : (k : ℕ) (fits : Model → Bool) (r : Buffers) (u : UnpackResult) (m : Model) → u.answer ≡ unpacked m → fits m ≡ true
    → then_tested k fits r u (model_in u.answer) ≡ u
unfolding then_tested
tested_fits k fits r u m e f =
    ap (λ (a : Answer). then_tested k fits r u (model_in a)) e
    ∙ ap (λ (t : Bool). elim t as (λ _. UnpackResult) [ true ↦ u | false ↦ record { answer = refusal k; buffers = left_by20 m r } ]) f

pub two_fields_whole : (bytes : List ℕ) (s : Counts) (ops : List ℕ) → fields_of bytes ≡ fields s ops → (r : Buffers)
    → unpack_whole bytes r ≡ unpack bytes r
unfolding unpack_parts
two_fields_whole bytes s ops e r =
    ap (unpack_parts r) (two_parts bytes s ops e) ∙ tested_none 23 r (unpack bytes r) (model_in (unpack bytes r).answer)

-- a pack without a note
module _ (bytes two : List ℕ) (g : Given (List ℕ)) (r : Buffers) (found : parts_of bytes ≡ parts two g) where
  abbrev noted : NoteTaken → UnpackResult
  noted d = let u = unpack_whole d.before r in then_tested 25 (λ m. note_fits d.note) r u (model_in u.answer)

  pub unpack_unnoted : unpack_noted bytes r ≡ unpack_whole bytes r
  unpack_unnoted =
      ap noted (no_note bytes two g found) ∙ tested_none 25 r (unpack_whole bytes r) (model_in (unpack_whole bytes r).answer)

  pub volume_unnoted : volume bytes r
      ≡ measured (positions_in (parts_of bytes)) r (unpack_whole bytes r) (model_in (unpack_whole bytes r).answer)
  volume_unnoted =
      ap₂ (λ (d : NoteTaken) (u : UnpackResult). measured (positions_in (parts_of d.before)) r u (model_in u.answer))
      (no_note bytes two g found) unpack_unnoted

pub packs_without_a_note_read_as_before : PacksWithoutANoteReadAsBefore
packs_without_a_note_read_as_before bytes two g e r = unpack_unnoted bytes two g r e

pub packs_of_two_fields_read_as_before : PacksOfTwoFieldsReadAsBefore
packs_of_two_fields_read_as_before bytes s ops e r =
    unpack_unnoted bytes bytes not_given r (two_parts bytes s ops e) ∙ two_fields_whole bytes s ops e r

-- a pack that is accepted
pub record Accepts (bytes : List ℕ) (r : Buffers) (m : Model) : Type 0 where
  pub two : List ℕ
  pub field : Given (List ℕ)
  pub found : parts_of bytes ≡ parts two field
  pub accepted : (unpack two r).answer ≡ unpacked m
  pub fits : field_fits m.vertices field ≡ true
  pub same : unpack_whole bytes r ≡ unpack two r

none_or_one : {m : Model} → not_given ≡ given m → ⊥
none_or_one e = let z : ◌≡◌ {A = ℕ} 0 1 = ap (λ (g : Given Model). elim g [ not_given ↦ 0 | given x ↦ 1 ]) e in omega arith

pub never : {A : Type 0} (k : ℕ) (m : Model) → refusal k ≡ unpacked m → A
never k m e = absurd (none_or_one (ap model_in e))

-- a test passes
pub record Passes (fits : Model → Bool) (u : UnpackResult) (m : Model) (w : UnpackResult) : Type 0 where
  pub accepted : u.answer ≡ unpacked m
  pub fit : fits m ≡ true
  pub same : w ≡ u

pub passes : (k : ℕ) (fits : Model → Bool) (r : Buffers) (u : UnpackResult) (m : Model) (x : Given Model) → model_in u.answer ≡ x
    → (then_tested k fits r u x).answer ≡ unpacked m → Passes fits u m (then_tested k fits r u x)
unfolding then_tested
passes k fits r u m not_given f g = absurd (none_or_one (sym f ∙ ap model_in g))
passes k fits r u m (given m') f g = go (fits m') refl g
  where
    w : Bool → UnpackResult
    w t = elim t [ true ↦ u | false ↦ record { answer = refusal k; buffers = left_by20 m' r } ]

    go : (t : Bool) → fits m' ≡ t → (w t).answer ≡ unpacked m → Passes fits u m (w t)
    go true h a =
        let e : given m' ≡ given m = sym f ∙ ap model_in a in
        let q : m' ≡ m = cc in
        record { accepted = a; fit = ap fits (sym q) ∙ h; same = refl }
    go false h a = never k m a

pub accepts : (bytes : List ℕ) (r : Buffers) (m : Model) → (unpack_whole bytes r).answer ≡ unpacked m → Accepts bytes r m
unfolding unpack_parts
accepts bytes r m e = go (parts_of bytes) refl e
  where
    go : (p : Parts) → parts_of bytes ≡ p → (unpack_parts r p).answer ≡ unpacked m → Accepts bytes r m
    go no_parts f g = never 12 m g
    go (parts two ps) f g =
        let u = unpack two r in
        let k = passes 23 (λ x. field_fits x.vertices ps) r u m (model_in u.answer) refl g in
        record {
          two = two;
          field = ps;
          found = f;
          accepted = k.accepted;
          fits = k.fit;
          same = ap (unpack_parts r) f ∙ k.same;
        }

-- the field's contents are those of its positions
pub field_again : (v : ℕ) (bs : List ℕ) → Bytes bs → field_fits v (given bs) ≡ true → position_bytes (positions_from bs) ≡ bs
field_again v bs h k =
    let l = eqb-true (length bs) (6 * v) (and_left (eqb (length bs) (6 * v)) (all_in_grid (positions_from bs)) k) in
    positions_again bs (3 * v) h (omega arith)

same_fields : (v v' : ℕ) (g g' : Given (List ℕ)) → Bytes (later_bytes g) → Bytes (later_bytes g') → field_fits v g ≡ true
    → field_fits v' g' ≡ true → positions_given g ≡ positions_given g' → g ≡ g'
same_fields v v' not_given not_given h h' k k' e = refl
same_fields v v' not_given (given bs) h h' k k' e = let z : ◌≡◌ {A = ℕ} 0 1 = cc in absurd (omega arith)
same_fields v v' (given bs) not_given h h' k k' e = let z : ◌≡◌ {A = ℕ} 0 1 = cc in absurd (omega arith)
same_fields v v' (given bs) (given bs') h h' k k' e =
    let p : positions_from bs ≡ positions_from bs' = cc in
    ap given
    (sym (field_again v bs h.1.1.1 k) ∙ ap position_bytes p ∙ field_again v' bs' h'.1.1.1 k')

pub no_two_packs_of_one_list_and_positions : NoTwoPacksOfOneListAndPositions
no_two_packs_of_one_list_and_positions bytes bytes' hb hb' r r' m m' e e' l g =
    let a = accepts bytes r m e in
    let b = accepts bytes' r' m' e' in
    let f = parts_found bytes a.two a.field hb a.found in
    let f' = parts_found bytes' b.two b.field hb' b.found in
    let h = subst Bytes f.from hb in
    let h' = subst Bytes f'.from hb' in
    let two : a.two ≡ b.two =
    no_two_packs_of_one_list a.two b.two (below_front 256 a.two (later_bytes a.field) h)
    (below_front 256 b.two (later_bytes b.field) h') r r' m m' a.accepted b.accepted
    (ap (list_in m) (sym a.same) ∙ l ∙ ap (list_in m') b.same) in
    let field : a.field ≡ b.field =
    same_fields m.vertices m'.vertices a.field b.field (below_rest 256 a.two (later_bytes a.field) h)
    (below_rest 256 b.two (later_bytes b.field) h') a.fits b.fits
    (ap (λ (p : Parts). positions_given (positions_in p)) (sym a.found) ∙ g
    ∙ ap (λ (p : Parts). positions_given (positions_in p)) b.found) in
    f.from ∙ ap₂ (λ (us : List ℕ) (x : Given (List ℕ)). us ++ later_bytes x) two field ∙ sym f'.from
