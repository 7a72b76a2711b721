-- The fields of a pack: what is written is found, and what is found was written.
-- Assumes nothing.
use Prim.Native.Nat.{ℕ, ◌+◌, ◌*◌, ◌/◌, ◌%◌, ◌≤◌, ◌<◌}
use native.Mathlib.Omega.{arith}
use mathlib.Core.Bool.{Bool, true, false}
use mathlib.Core.List.{List, [], ◌∷◌, ◌++◌, append-nil}
use mathlib.Core.Path.{◌≡◌, refl, sym, ap, ap₂, ◌∙◌, subst}
use lib.Dec.{eqb, leb}
use lib.ListN.{length, take, drop, get_or, length-append, take-append-drop}
use lib.Seq.{take-append_seam, drop-append_seam, length-take-le}
use borrow.Author.Tests.{eq-eqb, le-leb, eqb-true, leb-true}
use Rattle.rules.specs.declared.Counts.{Counts}
use Rattle.rules.specs.Fields.{counts_tag, operations_tag, word, field_of, counts_of, pack_bytes, Field, no_field, field, take_field}
use Rattle.rules.specs.Fields.{Fields}
use Rattle.rules.specs.Fields.{no_pack, fields, counts_from, last_field, first_field, fields_of}
use Rattle.wire_theory.specs.Shape.{Bytes}
use Rattle.wire_theory.specs.Header.{header_of}
use Rattle.wire_theory.proofs.Lists.{below_front, below_rest, below_get_d}

-- each count fits two bytes
pub record CountsFit (s : Counts) : Type 0 where
  pub vertices : s.vertices < 65536
  pub triangles : s.triangles < 65536
  pub places : s.places < 65536
  pub loops : s.loops < 65536

-- the 14 bytes before the operations, and the operations
pub pack_header : (s : Counts) (ops : List ℕ) → pack_bytes s ops ≡ header_of s (length ops) ++ ops
unfolding pack_bytes header_of
pack_header s ops = refl

pub length_header : (s : Counts) (n : ℕ) → length (header_of s n) ≡ 14
unfolding header_of
length_header s n = refl

pub length_pack : (s : Counts) (ops : List ℕ) → length (pack_bytes s ops) ≡ 14 + length ops
length_pack s ops = omega (arith, ap length (pack_header s ops), length-append (header_of s (length ops)) ops, length_header s (length ops))

-- a number in two bytes, read again; two bytes, written again
pub word_back : (v : ℕ) → v < 65536 → 256 * (v / 256 % 256) + v % 256 ≡ v
word_back v h = omega arith

pub word_again : (a b : ℕ) → a < 256 → b < 256 → word (256 * a + b) ≡ a ∷ (b ∷ [])
word_again a b h k =
    let p : (256 * a + b) / 256 % 256 ≡ a = omega arith in
    let q : (256 * a + b) % 256 ≡ b = omega arith in
    ap₂ (λ (x y : ℕ). x ∷ (y ∷ [])) p q

pub counts_back : (s : Counts) → CountsFit s → counts_from (counts_of s) ≡ s
counts_back s h = λ i. record {
  vertices = word_back s.vertices h.vertices i;
  triangles = word_back s.triangles h.triangles i;
  places = word_back s.places h.places i;
  loops = word_back s.loops h.loops i;
}

counts_again : (cs : List ℕ) → length cs ≡ 8 → Bytes cs → counts_of (counts_from cs) ≡ cs
counts_again [] l h = absurd (omega arith)
counts_again (a0 ∷ []) l h = absurd (omega arith)
counts_again (a0 ∷ (a1 ∷ [])) l h = absurd (omega arith)
counts_again (a0 ∷ (a1 ∷ (a2 ∷ []))) l h = absurd (omega arith)
counts_again (a0 ∷ (a1 ∷ (a2 ∷ (a3 ∷ [])))) l h = absurd (omega arith)
counts_again (a0 ∷ (a1 ∷ (a2 ∷ (a3 ∷ (a4 ∷ []))))) l h = absurd (omega arith)
counts_again (a0 ∷ (a1 ∷ (a2 ∷ (a3 ∷ (a4 ∷ (a5 ∷ [])))))) l h = absurd (omega arith)
counts_again (a0 ∷ (a1 ∷ (a2 ∷ (a3 ∷ (a4 ∷ (a5 ∷ (a6 ∷ []))))))) l h = absurd (omega arith)
counts_again (a0 ∷ (a1 ∷ (a2 ∷ (a3 ∷ (a4 ∷ (a5 ∷ (a6 ∷ (a7 ∷ [])))))))) l h =
    ap₂ (λ (us vs : List ℕ). us ++ vs) (word_again a0 a1 h.0 h.1.0)
    (ap₂ (λ (us vs : List ℕ). us ++ vs) (word_again a2 a3 h.1.1.0 h.1.1.1.0)
    (ap₂ (λ (us vs : List ℕ). us ++ vs) (word_again a4 a5 h.1.1.1.1.0 h.1.1.1.1.1.0)
    (word_again a6 a7 h.1.1.1.1.1.1.0 h.1.1.1.1.1.1.1.0)))
counts_again (a0 ∷ (a1 ∷ (a2 ∷ (a3 ∷ (a4 ∷ (a5 ∷ (a6 ∷ (a7 ∷ (a8 ∷ cs))))))))) l h = absurd (omega arith)

counts_fit_lem : (cs : List ℕ) → ((i : ℕ) → get_or cs i 0 < 256) → CountsFit (counts_from cs)
counts_fit_lem cs h = record {
  vertices = omega (arith, h 0, h (0 + 1));
  triangles = omega (arith, h 2, h (2 + 1));
  places = omega (arith, h 4, h (4 + 1));
  loops = omega (arith, h 6, h (6 + 1));
}

-- a field of this tag and length at the front of some bytes
field_here : (tag h l : ℕ) (bs cs ds : List ℕ) → 256 * h + l ≡ length cs → bs ≡ cs ++ ds
    → take_field tag (tag ∷ (h ∷ (l ∷ bs))) ≡ field cs ds
unfolding take_field
field_here tag h l bs cs ds n e =
    let k : 256 * h + l ≤ length bs = omega (arith, ap length e, length-append cs ds) in
    let t : take (256 * h + l) bs ≡ cs = ap₂ take n e ∙ take-append_seam cs ds in
    let d : drop (256 * h + l) bs ≡ ds = ap₂ drop n e ∙ drop-append_seam cs ds in
    rw (eq-eqb tag tag refl, take_field, le-leb (256 * h + l) (length bs) k, t, d)

pub take_field_lem : (tag : ℕ) (cs ds : List ℕ) → length cs < 65536 → take_field tag (field_of tag cs ++ ds) ≡ field cs ds
take_field_lem tag cs ds h = field_here tag (length cs / 256 % 256) (length cs % 256) (cs ++ ds) cs ds (word_back (length cs) h) refl

-- what is written is found
pub fields_of_pack : (s : Counts) (ops : List ℕ) → CountsFit s → length ops < 65536 → fields_of (pack_bytes s ops) ≡ fields s ops
unfolding fields_of pack_bytes
fields_of_pack s ops h l =
    let f : take_field operations_tag (field_of operations_tag ops) ≡ field ops [] =
    ap (take_field operations_tag) (sym (append-nil (field_of operations_tag ops))) ∙ take_field_lem operations_tag ops [] l in
    ap first_field (take_field_lem counts_tag (counts_of s) (field_of operations_tag ops) (omega arith)) ∙ ap (last_field (counts_of s)) f
    ∙ ap (λ (t : Counts). fields t ops) (counts_back s h)

-- a field that is found, and the bytes in which it is found
pub record FieldFound (tag : ℕ) (bs cs ds : List ℕ) : Type 0 where
  pub from : bs ≡ field_of tag cs ++ ds
  pub short : length cs < 65536

never_found : (tag : ℕ) (bs cs ds : List ℕ) → no_field ≡ field cs ds → FieldFound tag bs cs ds
never_found tag bs cs ds e = let z : ◌≡◌ {A = ℕ} 0 1 = cc in absurd (omega arith)

found_here : (tag t h l : ℕ) (bs cs ds : List ℕ) → h < 256 → l < 256 → t ≡ tag → 256 * h + l ≤ length bs
    → field (take (256 * h + l) bs) (drop (256 * h + l) bs) ≡ field cs ds → FieldFound tag (t ∷ (h ∷ (l ∷ bs))) cs ds
found_here tag t h l bs cs ds hh hl e k f =
    let n = 256 * h + l in
    let p : take n bs ≡ cs = cc in
    let q : drop n bs ≡ ds = cc in
    let m : length cs ≡ n = ap length (sym p) ∙ length-take-le n bs k in
    let w : word (length cs) ≡ h ∷ (l ∷ []) = ap word m ∙ word_again h l hh hl in
    record {
      from =
          ap₂ (λ (a : ℕ) (xs : List ℕ). a ∷ (h ∷ (l ∷ xs))) e (sym (take-append-drop n bs) ∙ ap₂ (λ (us vs : List ℕ). us ++ vs) p q)
          ∙ ap (λ (us : List ℕ). tag ∷ (us ++ (cs ++ ds))) (sym w);
      short = omega arith;
    }

found_by : (tag t h l : ℕ) (bs cs ds : List ℕ) (x y : Bool) → h < 256 → l < 256 → eqb t tag ≡ x → leb (256 * h + l) (length bs) ≡ y
    → ◌≡◌ {A = Field} (elim x
    [ true ↦ elim y [ true ↦ field (take (256 * h + l) bs) (drop (256 * h + l) bs) | false ↦ no_field ] | false ↦ no_field ])
    (field cs ds)
    → FieldFound tag (t ∷ (h ∷ (l ∷ bs))) cs ds
found_by tag t h l bs cs ds true true hh hl e f g =
    found_here tag t h l bs cs ds hh hl (eqb-true t tag e) (leb-true (256 * h + l) (length bs) f) g
found_by tag t h l bs cs ds true false hh hl e f g = never_found tag (t ∷ (h ∷ (l ∷ bs))) cs ds g
found_by tag t h l bs cs ds false y hh hl e f g = never_found tag (t ∷ (h ∷ (l ∷ bs))) cs ds g

pub field_found : (tag : ℕ) (bs cs ds : List ℕ) → Bytes bs → take_field tag bs ≡ field cs ds → FieldFound tag bs cs ds
unfolding take_field
field_found tag [] cs ds h e = never_found tag [] cs ds e
field_found tag (t ∷ []) cs ds h e = never_found tag (t ∷ []) cs ds e
field_found tag (t ∷ (a ∷ [])) cs ds h e = never_found tag (t ∷ (a ∷ [])) cs ds e
field_found tag (t ∷ (a ∷ (l ∷ bs))) cs ds h e =
    found_by tag t a l bs cs ds (eqb t tag) (leb (256 * a + l) (length bs)) h.1.0 h.1.1.0 refl refl e

-- what is found was written
pub record PackFound (bs : List ℕ) (s : Counts) (ops : List ℕ) : Type 0 where
  pub from : bs ≡ pack_bytes s ops
  pub counts : CountsFit s
  pub short : length ops < 65536

never_pack : (bs : List ℕ) (s : Counts) (ops : List ℕ) → no_pack ≡ fields s ops → PackFound bs s ops
never_pack bs s ops e = let z : ◌≡◌ {A = ℕ} 0 1 = cc in absurd (omega arith)

last_found : (bs cs ds : List ℕ) (s : Counts) (ops : List ℕ) (r : Field) → Bytes cs → Bytes ds → length cs ≡ 8
    → bs ≡ field_of counts_tag cs ++ ds
    → take_field operations_tag ds ≡ r → last_field cs r ≡ fields s ops → PackFound bs s ops
unfolding pack_bytes
last_found bs cs ds s ops no_field hc hd l e f g = never_pack bs s ops g
last_found bs cs ds s ops (field os []) hc hd l e f g =
    let r : FieldFound operations_tag ds os [] = field_found operations_tag ds os [] hd f in
    let p : counts_from cs ≡ s = cc in
    let q : os ≡ ops = cc in
    let c : cs ≡ counts_of s = sym (counts_again cs l hc) ∙ ap counts_of p in
    let d : ds ≡ field_of operations_tag ops = r.from ∙ append-nil (field_of operations_tag os) ∙ ap (field_of operations_tag) q in
    record {
      from = e ∙ ap₂ (λ (us vs : List ℕ). field_of counts_tag us ++ vs) c d;
      counts = subst CountsFit p (counts_fit_lem cs (λ i. below_get_d 256 cs i (omega arith) hc));
      short = omega (arith, ap length q, r.short);
    }
last_found bs cs ds s ops (field os (b ∷ us)) hc hd l e f g = never_pack bs s ops g

eight_found : (bs cs ds : List ℕ) (s : Counts) (ops : List ℕ) (x : Bool) → Bytes bs → eqb (length cs) 8 ≡ x
    → bs ≡ field_of counts_tag cs ++ ds
    → ◌≡◌ {A = Fields} (elim x [ true ↦ last_field cs (take_field operations_tag ds) | false ↦ no_pack ]) (fields s ops)
    → PackFound bs s ops
eight_found bs cs ds s ops true h f e g =
    let hb : Bytes (field_of counts_tag cs ++ ds) = subst (λ (us : List ℕ). Bytes us) e h in
    let hc : Bytes (cs ++ ds) = hb.1.1.1 in
    last_found bs cs ds s ops (take_field operations_tag ds) (below_front 256 cs ds hc) (below_rest 256 cs ds hc) (eqb-true (length cs) 8 f)
    e
    refl g
eight_found bs cs ds s ops false h f e g = never_pack bs s ops g

first_found : (bs : List ℕ) (s : Counts) (ops : List ℕ) (r : Field) → Bytes bs → take_field counts_tag bs ≡ r → first_field r ≡ fields s ops
    → PackFound bs s ops
first_found bs s ops no_field h f g = never_pack bs s ops g
first_found bs s ops (field cs ds) h f g =
    eight_found bs cs ds s ops (eqb (length cs) 8) h refl (field_found counts_tag bs cs ds h f).from g

pub pack_found : (bs : List ℕ) (s : Counts) (ops : List ℕ) → Bytes bs → fields_of bs ≡ fields s ops → PackFound bs s ops
unfolding fields_of
pack_found bs s ops h e = first_found bs s ops (take_field counts_tag bs) h refl e

-- two packs with the same bytes have the same counts and operations
pub same_pack : (s t : Counts) (ops ops' : List ℕ) → CountsFit s → CountsFit t → length ops < 65536 → length ops' < 65536
    → pack_bytes s ops ≡ pack_bytes t ops' → (s ≡ t) × (ops ≡ ops')
same_pack s t ops ops' h k l m e =
    let f : fields s ops ≡ fields t ops' = sym (fields_of_pack s ops h l) ∙ ap fields_of e ∙ fields_of_pack t ops' k m in
    (cc, cc)
