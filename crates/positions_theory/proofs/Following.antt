-- Packing with positions that fit, by packing the list alone into the front of the buffer.
-- Assumes nothing.
use Prim.Native.Nat.{ℕ, ◌+◌, ◌-◌, ◌*◌, ◌/◌, ◌≤◌, ◌<◌}
use native.Mathlib.Omega.{arith}
use mathlib.Core.Bool.{Bool, true, false, ◌&&◌}
use mathlib.Core.List.{List, ◌++◌, append_assoc}
use mathlib.Core.Path.{◌≡◌, refl, sym, ap, ap₂, ◌∙◌, subst}
use lib.Dec.{eqb, leb, ltb}
use lib.IntN.{ℤ}
use lib.ListN.{length, take, drop, get_or, length-append, length-drop, take-append-drop}
use lib.Seq.{length-take-le, take-append-le, drop-append-le, drop-drop}
use borrow.Author.Tests.{eqb-true, leb-true}
use Rattle.rules.specs.Checked.{Checked}
use Rattle.rules.specs.Checked as C
use Rattle.rules.specs.Packed.{Packed}
use Rattle.rules.specs.Packed as P
use Rattle.rules.specs.Limits.{max_places}
use Rattle.rules.specs.Triangle.{triangles_of}
use Rattle.rules.specs.Check.{check}
use Rattle.rules.specs.Answer.{packed, packed_answer}
use Rattle.rules.specs.Buffer.{over, zeroed}
use Rattle.rules.specs.Fields.{field_of}
use Rattle.rules.specs.Grid.{all_in_grid, position_bytes}
use Rattle.rules.specs.Volume.{point_at}
use Rattle.rules.specs.Later.{positions_tag}
use Rattle.rules.specs.Pack.{most, PackBuffers, PackResult, pack_long_enough, order_long_enough, pack}
use Rattle.rules.specs.PackWhole.{positions_fit, pack_whole}
use Rattle.counting.proofs.Bools.{and_left}
use Rattle.wire_theory.proofs.Positions.{length_positions}
use Rattle.roundtrip.specs.Claims.{OneToOne}
use Rattle.roundtrip.proofs.Results.{packed_by}
use Rattle.pack_theory.specs.Packing.Lent.{lent, cleared_by, IsResult, PackedOn}
use Rattle.pack_theory.specs.Packing.Rooms.{rooms_checked}
use Rattle.pack_theory.proofs.Packing.Lending.{is_past}
use Rattle.pack_theory.proofs.Packing.Clearing.{packed_clears}
use Rattle.pack_theory.proofs.Packing.Ending.{few_counts, zeroed_all}
use Rattle.volume_theory.specs.Whole.{field_length, PassesRooms}
use Rattle.volume_theory.specs.Shorter.{shorter, most_pack, Appended}
use Rattle.volume_theory.proofs.Beside.{placed}
use Rattle.volume_theory.proofs.Shorter.{packs_shorter}
use Rattle.positions_theory.specs.Filling.{Renumbered, FieldRoom, FieldPut}
use Rattle.positions_theory.specs.Packing.{PackedWholeOn, buffer_after, Followable, Follows}
use Rattle.positions_theory.proofs.Packing.{rooms_pass, alone_down, no_pass, whole_down}
use Rattle.positions_theory.proofs.Renumbering.{field_room, renumbered}

-- what follows, by the answer
module _ (zs : List ℤ) (ns bs : List ℕ) (r : Packed) (k : ℕ) where
  pub room_of : r ≡ P.Length k → Followable r zs ns bs → FieldRoom bs k zs ns × (k ≤ most_pack)
  room_of e h = subst (λ (x : Packed). Followable x zs ns bs) e h

  pub length_follows : r ≡ P.Length k → (s : Packed) (bs' : List ℕ) → s ≡ P.Length (k + 3 + 2 * length zs) → FieldPut bs k zs ns bs'
      → Follows r zs ns bs s bs'
  length_follows e s bs' f g = subst (λ (x : Packed). Follows x zs ns bs s bs') (sym e) (f, g)

  pub refused_follows : r ≡ P.Refused k → (bs' : List ℕ) → bs' ≡ buffer_after r bs → Follows r zs ns bs r bs'
  refused_follows e bs' g =
      subst (λ (x : Packed). Follows x zs ns bs x bs') (sym e) (refl, g ∙ ap (λ (x : Packed). buffer_after x bs) e)

-- the bytes before a field of k bytes are of the buffer
pub within_buffer : (bs : List ℕ) (k e : ℕ) → e ≡ length bs - k → e ≤ length bs
within_buffer bs k e h = omega (arith, h)

-- a buffer whose front part of e bytes became b, of which the first k are the pack and the others stayed
module _ (bs b : List ℕ) (e k : ℕ) (fits : e ≤ length bs) (short : k ≤ e) (long : length b ≡ length (take e bs))
    (past : drop k b ≡ drop k (take e bs)) where
  long_is : length b ≡ e
  long_is = long ∙ length-take-le e bs fits

  pub front : take k (b ++ drop e bs) ≡ take k b
  front = take-append-le k b (drop e bs) (omega (arith, long_is))

  pub rest : (j : ℕ) → drop (k + j) (b ++ drop e bs) ≡ drop (k + j) bs
  rest j =
      sym (drop-drop j k (b ++ drop e bs))
      ∙ ap (drop j)
      (drop-append-le k b (drop e bs) (omega (arith, long_is)) ∙ ap (λ (l : List ℕ). l ++ drop e bs) past
      ∙ sym (drop-append-le k (take e bs) (drop e bs) (omega (arith, length-take-le e bs fits)))
      ∙ ap (drop k) (take-append-drop e bs))
      ∙ drop-drop j k bs

-- whether 1 to 8 and 22 are passed
module _ (v : ℕ) (xs : List ℕ) (n : ℕ) (ns bs qs : List ℕ) where
  abbrev R : PackBuffers
  R = lent n ns bs qs

  pub passes_past : PassesRooms v xs (lent n ns bs qs) → is_past (check v xs) v (triangles_of xs) R ≡ true
  passes_past h = ap (λ (c : Checked). is_past c v (triangles_of xs) R) h.list ∙ ap₂ ◌&&◌ h.rooms h.order

  pub fails_past : (PassesRooms v xs (lent n ns bs qs) → ⊥) → is_past (check v xs) v (triangles_of xs) R ≡ false
  fails_past h = go (check v xs) refl
    where
      rooms : (s t : Bool) → (s ≡ true → t ≡ true → ⊥) → s && t ≡ false
      rooms true true f = absurd (f refl refl)
      rooms true false f = refl
      rooms false t f = refl

      go : (c : Checked) → check v xs ≡ c → is_past c v (triangles_of xs) R ≡ false
      go (C.Refused k) e = refl
      go C.Accepted e =
          rooms (pack_long_enough v R) (order_long_enough (triangles_of xs) R) (λ a b. h (record { list = e; rooms = a; order = b }))

-- the list alone was packed, into the e bytes before the field: b is what they hold now
module _ (v : ℕ) (xs : List ℕ) (zs : List ℤ) (n : ℕ) (ns bs qs : List ℕ) (fit : positions_fit v zs ≡ true) (e : ℕ)
    (before : e ≡ length bs - (3 + 2 * length zs)) (ns' b qs' : List ℕ) (long-n : length ns' ≡ length ns)
    (long-b : length b ≡ length (take e bs)) where
  abbrev r₀ : PackBuffers
  r₀ = lent n ns bs qs

  abbrev whole : PackResult
  whole = pack_whole v xs (placed zs) (lent n ns bs qs)

  -- the pack buffer now
  abbrev bs₁ : List ℕ
  bs₁ = b ++ drop e bs

  long : length zs ≡ 3 * v
  long = eqb-true (length zs) (3 * v) (and_left (eqb (length zs) (3 * v)) (all_in_grid zs) fit)

  fits : e ≤ length bs
  fits = within_buffer bs (3 + 2 * length zs) e before

  long_now : length (b ++ drop e bs) ≡ length bs
  long_now = length-append b (drop e bs) ∙ omega (arith, long-b, length-take-le e bs fits, length-drop e bs, fits)

  end_is : e ≡ length bs - field_length v
  end_is = omega (arith, before, long)

  -- the packing of the list alone, in the buffers without the field's bytes
  Alone : Packed → Type 0
  Alone r = PackedOn v xs ns (take e bs) qs n r ns' b qs'

  shorter_on : (r : Packed) → Alone r → IsResult (pack v xs (shorter v r₀)) r ns' b qs'
  unfolding Alone
  shorter_on r p = subst (λ (k : ℕ). PackedOn v xs ns (take k bs) qs n r ns' b qs') end_is p

  -- 1 to 8 and 22, by the lengths of the buffers
  abbrev tests : Checked
  tests = rooms_checked v xs (length ns) (length qs) n

  clears : (r : Packed) → Alone r → (t : Bool) → is_past (check v xs) v (triangles_of xs) (shorter v r₀) ≡ t
      → cleared_by r ≡ elim t [ true ↦ max_places | false ↦ 0 ]
  clears r p t h =
      packed_clears v xs ns (shorter v r₀).pack qs r₀.places r (shorter_on r p).answer
      ∙ ap (λ (t : Bool). elim t [ true ↦ max_places | false ↦ 0 ]) h

  -- accepted: the field has room, and follows
  module _ (k : ℕ) (p : Alone (P.Length k)) where
    answered : (pack v xs (shorter v r₀)).answer ≡ packed k
    answered = sym (shorter_on (P.Length k) p).answer

    rooms : PassesRooms v xs r₀
    rooms =
        let d = packed_by most v xs (shorter v r₀) k answered in
        record { list = d.accepted; rooms = d.enough; order = d.ordered }

    appended : Appended v k zs r₀ whole (pack v xs (shorter v r₀))
    appended = (packs_shorter v xs zs r₀ fit rooms).packs k answered

    one : OneToOne v (λ x. get_or ns' x 0)
    one = subst (λ (l : List ℕ). OneToOne v (λ x. get_or l x 0)) (sym (shorter_on (P.Length k) p).numbering) appended.numbers

    accepted_room : Followable (P.Length k) zs ns' bs₁
    accepted_room = (
      field_room v zs ns' long one bs₁ k
          (omega (arith, long-n, leb-true v (length ns) (and_left (leb v (length ns)) _ rooms.rooms)))
          (few_counts v xs rooms.list (length xs / 3) refl).0 (omega (arith, appended.room, long_now)),
      appended.short,
    )

    abbrev ps : List ℤ
    ps = appended.followed.positions

    moved : Renumbered zs ns' appended.followed.positions
    moved =
        renumbered v zs ns' long one ps appended.followed.count
        (subst (λ (l : List ℕ). (x : ℕ) → x < v → point_at ps (get_or l x 0) ≡ point_at zs x) (sym (shorter_on (P.Length k) p).numbering)
        appended.followed.points)

    abbrev field : List ℕ
    field = field_of positions_tag (position_bytes appended.followed.positions)

    bytes : take k bs₁ ++ (field ++ drop (k + 3 + 2 * length zs) bs₁) ≡ over (take k b ++ field) bs
    bytes =
        let in-part : k ≤ e = omega (arith, end_is, appended.room) in
        let past =
        subst (λ (j : ℕ). drop k b ≡ drop k (take j bs)) (sym end_is)
        (ap (drop k) (shorter_on (P.Length k) p).bytes ∙ appended.past) in
        let size : length (take k b ++ field) ≡ k + (3 + 2 * length zs) =
        length-append (take k b) field
        ∙ omega (
          arith,
          long,
          length-take-le k b (omega (arith, long-b, length-take-le e bs fits, in-part)),
          length_positions ps,
          appended.followed.count,
        ) in
        let sum : k + 3 + 2 * length zs ≡ k + (3 + 2 * length zs) = omega arith in
        ap₂ (λ (x y : List ℕ). x ++ (field ++ y)) (front bs b e k fits in-part long-b past)
        (ap (λ (j : ℕ). drop j bs₁) sum ∙ rest bs b e k fits in-part long-b past (3 + 2 * length zs)
        ∙ ap (λ (j : ℕ). drop j bs) (sym size))
        ∙ sym (append_assoc (take k b) field (drop (length (take k b ++ field)) bs))

    accepted_follows : (s : Packed) (bs' : List ℕ) → Follows (P.Length k) zs ns' bs₁ s bs'
        → PackedWholeOn v xs (placed zs) ns bs qs n s ns' bs' qs'
    accepted_follows s bs' f =
        let a = appended.followed in
        let i = shorter_on (P.Length k) p in
        let sum : k + 3 + 2 * length zs ≡ k + field_length v = omega (arith, long) in
        record {
          answer = ap packed_answer f.0 ∙ ap packed sum ∙ sym a.answer;
          numbering = i.numbering ∙ sym a.numbering;
          bytes =
              f.1 ps moved ∙ bytes ∙ ap (λ (l : List ℕ). over (take k l ++ field) bs) i.bytes ∙ sym a.bytes;
          order = i.order ∙ sym a.order;
        }

  -- refused by 1 to 8 or 22: nothing changes
  early : (k : ℕ) → Alone (P.Refused k) → (j : ℕ) → tests ≡ C.Refused j → (s : Packed) (bs' : List ℕ)
      → Follows (P.Refused k) zs ns' bs₁ s bs' → PackedWholeOn v xs (placed zs) ns bs qs n s ns' bs' qs'
  early k p j h s bs' f =
      let i = shorter_on (P.Refused k) p in
      let same = whole_down v xs n ns bs qs j h (placed zs) in
      let q = alone_down v xs n ns (shorter v r₀).pack qs j h in
      let none : cleared_by (P.Refused k) ≡ 0 =
      clears (P.Refused k) p false
      (fails_past v xs n ns (shorter v r₀).pack qs (no_pass v xs n ns (shorter v r₀).pack qs j h)) in
      let stays : bs₁ ≡ bs =
      ap (λ (l : List ℕ). l ++ drop e bs) (i.bytes ∙ ap (λ (x : PackResult). x.buffers.pack) q ∙ ap (λ (j : ℕ). take j bs) (sym end_is))
      ∙ take-append-drop e bs in
      record {
        answer =
            ap packed_answer f.0 ∙ i.answer ∙ ap (λ (x : PackResult). x.answer) q ∙ sym (ap (λ (x : PackResult). x.answer) same);
        numbering =
            i.numbering ∙ ap (λ (x : PackResult). x.buffers.numbering) q ∙ sym (ap (λ (x : PackResult). x.buffers.numbering) same);
        bytes =
            f.1 ∙ ap (λ (j : ℕ). elim (ltb 0 j) [ true ↦ zeroed (length bs₁) bs₁ | false ↦ bs₁ ]) none ∙ stays
            ∙ sym (ap (λ (x : PackResult). x.buffers.pack) same);
        order =
            i.order ∙ ap (λ (x : PackResult). x.buffers.order) q ∙ sym (ap (λ (x : PackResult). x.buffers.order) same);
      }

  -- refused by 9 to 11: all is cleared
  late : (k : ℕ) → Alone (P.Refused k) → tests ≡ C.Accepted → (s : Packed) (bs' : List ℕ) → Follows (P.Refused k) zs ns' bs₁ s bs'
      → PackedWholeOn v xs (placed zs) ns bs qs n s ns' bs' qs'
  late k p h s bs' f =
      let i = shorter_on (P.Refused k) p in
      let c = (packs_shorter v xs zs r₀ fit (rooms_pass v xs n ns bs qs h)).refused k (sym i.answer) in
      let some : cleared_by (P.Refused k) ≡ max_places =
      clears (P.Refused k) p true
      (passes_past v xs n ns (shorter v r₀).pack qs (rooms_pass v xs n ns (shorter v r₀).pack qs h)) in
      record {
        answer = ap packed_answer f.0 ∙ sym (ap (λ (x : PackResult). x.answer) c.0);
        numbering =
            i.numbering ∙ ap (λ (x : PackResult). x.buffers.numbering) c.1
            ∙ sym (ap (λ (x : PackResult). x.buffers.numbering) c.0);
        bytes =
            f.1 ∙ ap (λ (j : ℕ). elim (ltb 0 j) [ true ↦ zeroed (length bs₁) bs₁ | false ↦ bs₁ ]) some
            ∙ zeroed_all bs bs₁ long_now ∙ sym (ap (λ (x : PackResult). x.buffers.pack) c.0);
        order =
            i.order ∙ ap (λ (x : PackResult). x.buffers.order) c.1 ∙ sym (ap (λ (x : PackResult). x.buffers.order) c.0);
      }

  -- for every answer
  pub may_follow : (r : Packed) → PackedOn v xs ns (take e bs) qs n r ns' b qs' → Followable r zs ns' bs₁
  unfolding Alone
  may_follow (P.Length k) p = accepted_room k p
  may_follow (P.Refused k) p = tt

  pub follows : (r : Packed) → PackedOn v xs ns (take e bs) qs n r ns' b qs' → (s : Packed) (bs' : List ℕ)
      → Follows r zs ns' bs₁ s bs' → PackedWholeOn v xs (placed zs) ns bs qs n s ns' bs' qs'
  unfolding Alone
  follows (P.Length k) p s bs' f = accepted_follows k p s bs' f
  follows (P.Refused k) p s bs' f = go tests refl
    where
      go : (c : Checked) → tests ≡ c → PackedWholeOn v xs (placed zs) ns bs qs n s ns' bs' qs'
      go (C.Refused j) h = early k p j h s bs' f
      go C.Accepted h = late k p h s bs' f
