-- Packing with a note that fits, by packing all else into the front of the buffer.
-- Assumes nothing.
use Prim.Native.Nat.{ℕ, ◌+◌, ◌-◌, ◌≤◌, ◌<◌}
use native.Mathlib.Omega.{arith}
use mathlib.Core.Bool.{Bool, true, false, ◌&&◌}
use mathlib.Core.List.{List, ◌++◌, append_assoc}
use mathlib.Core.Logic.{◌⊎◌, inl, inr}
use mathlib.Core.Path.{◌≡◌, refl, sym, ap, ap₂, ◌∙◌, subst}
use lib.Dec.{ltb}
use lib.IntN.{ℤ}
use lib.ListN.{length, take, drop, length-append, length-drop, take-append-drop}
use lib.Seq.{length-take-le}
use Rattle.rules.specs.Packed.{Packed}
use Rattle.rules.specs.Packed as P
use Rattle.rules.specs.Limits.{max_places}
use Rattle.rules.specs.Triangle.{triangles_of}
use Rattle.rules.specs.Check.{check}
use Rattle.rules.specs.Answer.{packed_answer}
use Rattle.rules.specs.Buffer.{over, zeroed}
use Rattle.rules.specs.Fields.{field_of}
use Rattle.rules.specs.Pack.{PackBuffers, PackResult}
use Rattle.rules.specs.Later.{Given, not_given, given}
use Rattle.rules.specs.Note.{note_tag, note_fits}
use Rattle.rules.specs.PackWhole.{extras, given_fit, pack_whole}
use Rattle.pack_theory.specs.Packing.Lent.{lent, cleared_by, IsResult, PackedOn}
use Rattle.pack_theory.proofs.Packing.Lending.{is_past}
use Rattle.pack_theory.proofs.Packing.Clearing.{cleared_by_lem, cleared_after}
use Rattle.pack_theory.proofs.Packing.Ending.{zeroed_all}
use Rattle.volume_theory.proofs.Beside.{given_neither_packs_the_list}
use Rattle.positions_theory.specs.Packing.{PackedWholeOn, buffer_after}
use Rattle.positions_theory.proofs.Following.{within_buffer, front as front_kept, rest as rest-kept, passes_past, fails_past}
use Rattle.positions_theory.proofs.PackLending.{whole_clears}
use Rattle.notes_theory.specs.Claims.{note_length, NoteFollowed, PassesTo25}
use Rattle.notes_theory.specs.Packing.{put_at, RoomAfter, NoteRoom, NoteFollows}
use Rattle.notes_theory.proofs.Beside.{Stopped, decided, late, Packs, packs_by, past, bounds, passes_25, follows as note-follows}
use Rattle.notes_theory.proofs.Reading.{short}

-- what follows, by the answer
module _ (ns bs : List ℕ) (r : Packed) (k : ℕ) where
  pub room_of : r ≡ P.Length k → NoteRoom r ns bs → RoomAfter k ns bs
  room_of e h = subst (λ (x : Packed). NoteRoom x ns bs) e h

  pub length_follows : r ≡ P.Length k → (s : Packed) (bs' : List ℕ) → s ≡ P.Length (k + note_length ns)
      → bs' ≡ put_at bs k (field_of note_tag ns) → NoteFollows r ns bs s bs'
  length_follows e s bs' f g = subst (λ (x : Packed). NoteFollows x ns bs s bs') (sym e) (f, g)

  pub refused_follows : r ≡ P.Refused k → (bs' : List ℕ) → bs' ≡ buffer_after r bs → NoteFollows r ns bs r bs'
  refused_follows e bs' g =
      subst (λ (x : Packed). NoteFollows x ns bs x bs') (sym e) (refl, g ∙ ap (λ (x : Packed). buffer_after x bs) e)

-- the whole length, as it is added up
pub sum : (k n : ℕ) → P.Length (k + 3 + n) ≡ P.Length (k + (3 + n))
sum k n = let e : k + 3 + n ≡ k + (3 + n) = omega arith in ap P.Length e

-- the list alone was packed
pub given_neither_on : (v : ℕ) (xs ns bs qs : List ℕ) (n : ℕ) (r : Packed) (ns' bs' qs' : List ℕ) → PackedOn v xs ns bs qs n r ns' bs' qs'
    → IsResult (pack_whole v xs (extras not_given not_given) (lent n ns bs qs)) r ns' bs' qs'
given_neither_on v xs ns bs qs n r ns' bs' qs' h =
    subst (λ (p : PackResult). IsResult p r ns' bs' qs') (sym (given_neither_packs_the_list v xs (lent n ns bs qs))) h

-- all but the note was packed, into the e bytes before its field: b is what they hold now
module _ (v : ℕ) (xs : List ℕ) (g : Given (List ℤ)) (note : List ℕ) (n : ℕ) (ns bs qs : List ℕ) (fit : note_fits (given note) ≡ true)
    (e : ℕ)
    (before : e ≡ length bs - note_length note) (ns' b qs' : List ℕ) (long-b : length b ≡ length (take e bs)) where
  abbrev R : PackBuffers
  R = lent n ns bs qs

  abbrev R₀ : PackBuffers
  R₀ = lent n ns (take e bs) qs

  abbrev p : PackResult
  p = pack_whole v xs (extras g (given note)) (lent n ns bs qs)

  abbrev q : PackResult
  q = pack_whole v xs (extras g not_given) (lent n ns (take e bs) qs)

  -- the pack buffer now
  abbrev bs₁ : List ℕ
  bs₁ = b ++ drop e bs

  fits : e ≤ length bs
  fits = within_buffer bs (note_length note) e before

  long_front : length (take e bs) ≡ e
  long_front = length-take-le e bs fits

  long_now : length (b ++ drop e bs) ≡ length bs
  long_now = length-append b (drop e bs) ∙ omega (arith, long-b, long_front, length-drop e bs, fits)

  cut : (k : ℕ) → length (take e bs) < k → length bs < k + note_length note
  cut k h = omega (arith, h, long_front, before)

  -- whether 25 is reached does not depend on the buffer for the pack
  reached : PassesTo25 v xs g R₀ → PassesTo25 v xs g R
  reached x = record {
    rooms = record { list = x.rooms.list; rooms = x.rooms.rooms; order = x.rooms.order };
    positions = x.positions;
  }

  abbrev Alone : Packed → Type 0
  Alone r = IsResult (pack_whole v xs (extras g not_given) (lent n ns (take e bs) qs)) r ns' b qs'

  abbrev Whole : Packed → List ℕ → Type 0
  Whole s bs' = PackedWholeOn v xs (extras g (given note)) ns bs qs n s ns' bs' qs'

  -- accepted: the note has room, and follows
  module _ (k : ℕ) (h : Alone (P.Length k)) where
    pass : PassesTo25 v xs g R
    pass = reached (passes_25 v xs g R₀ k (sym h.answer))

    packs : Packs v xs g note R pass fit (take e bs) k
    packs = packs_by v xs g note R pass fit (take e bs) k (sym h.answer)

    limits : (0 < k) × (k < 1000000)
    limits = bounds v xs g note R pass fit (take e bs) k packs

    room : k + note_length note ≤ length bs
    room = omega (arith, packs.room, long_front, before, limits.0)

    accepted_room : NoteRoom (P.Length k) note bs₁
    accepted_room = record { few = short note fit; room = omega (arith, room, long_now); short = limits.1 }

    followed : NoteFollowed k note R p q
    followed = note-follows v xs g note R pass fit (take e bs) k packs room

    bytes : put_at bs₁ k (field_of note_tag note) ≡ over (take k b ++ field_of note_tag note) bs
    bytes =
        let field = field_of note_tag note in
        let in-part : k ≤ e = omega (arith, packs.room, long_front) in
        let kept = ap (drop k) h.bytes ∙ past v xs g note R pass fit (take e bs) k packs in
        let size : length (take k b ++ field) ≡ k + length field =
        length-append (take k b) field ∙ omega (arith, length-take-le k b (omega (arith, long-b, long_front, in-part))) in
        ap₂ (λ (x y : List ℕ). x ++ (field ++ y)) (front_kept bs b e k fits in-part long-b kept)
        (rest-kept bs b e k fits in-part long-b kept (length field) ∙ ap (λ (j : ℕ). drop j bs) (sym size))
        ∙ sym (append_assoc (take k b) field (drop (length (take k b ++ field)) bs))

    accepted_follows : (s : Packed) (bs' : List ℕ) → NoteFollows (P.Length k) note bs₁ s bs' → Whole s bs'
    accepted_follows s bs' f = record {
      answer = ap packed_answer f.0 ∙ sym followed.answer;
      numbering = h.numbering ∙ sym followed.numbering;
      bytes =
          f.1 ∙ bytes ∙ ap (λ (l : List ℕ). over (take k l ++ field_of note_tag note) bs) h.bytes ∙ sym followed.bytes;
      order = h.order ∙ sym followed.order;
    }

  -- refused
  module _ (k : ℕ) (h : Alone (P.Refused k)) (s : Packed) (bs' : List ℕ) (f : NoteFollows (P.Refused k) note bs₁ s bs') where
    abbrev past_25 : Bool
    past_25 = is_past (check v xs) v (triangles_of xs) R₀ && (given_fit v g && true)

    clears : cleared_by (P.Refused k) ≡ elim past_25 [ true ↦ max_places | false ↦ 0 ]
    clears = cleared_by_lem (P.Refused k) ∙ ap cleared_after h.answer ∙ (whole_clears v xs (extras g not_given) R₀).answer

    abbrev kept_or_cleared : ℕ → List ℕ
    kept_or_cleared j = elim (ltb 0 j) [ true ↦ zeroed (length bs₁) bs₁ | false ↦ bs₁ ]

    -- by 1 to 8, 22 or 23: nothing changes
    early : past_25 ≡ false → Stopped v xs g R₀ → Whole s bs'
    early t x =
        let a = x.down (given note) bs in
        let c = x.down not_given (take e bs) in
        let none : cleared_by (P.Refused k) ≡ 0 = clears ∙ ap (λ (x : Bool). elim x [ true ↦ max_places | false ↦ 0 ]) t in
        let stays : bs₁ ≡ bs = ap (λ (l : List ℕ). l ++ drop e bs) (h.bytes ∙ ap (λ (x : PackResult). x.buffers.pack) c)
        ∙ take-append-drop e bs in
        record {
          answer = ap packed_answer f.0 ∙ h.answer ∙ ap (λ (x : PackResult). x.answer) c ∙ sym (ap (λ (x : PackResult). x.answer) a);
          numbering =
              h.numbering ∙ ap (λ (x : PackResult). x.buffers.numbering) c ∙ sym (ap (λ (x : PackResult). x.buffers.numbering) a);
          bytes = f.1 ∙ ap kept_or_cleared none ∙ stays ∙ sym (ap (λ (x : PackResult). x.buffers.pack) a);
          order = h.order ∙ ap (λ (x : PackResult). x.buffers.order) c ∙ sym (ap (λ (x : PackResult). x.buffers.order) a);
        }

    -- by 9 to 11: all is cleared
    after : past_25 ≡ true → PassesTo25 v xs g R → Whole s bs'
    after t x =
        let c = late v xs g note R x fit (take e bs) cut k (sym h.answer) in
        let some : cleared_by (P.Refused k) ≡ max_places = clears ∙ ap (λ (y : Bool). elim y [ true ↦ max_places | false ↦ 0 ]) t in
        record {
          answer = ap packed_answer f.0 ∙ sym (ap (λ (y : PackResult). y.answer) c.0);
          numbering =
              h.numbering ∙ ap (λ (y : PackResult). y.buffers.numbering) c.1
              ∙ sym (ap (λ (y : PackResult). y.buffers.numbering) c.0);
          bytes = f.1 ∙ ap kept_or_cleared some ∙ zeroed_all bs bs₁ long_now ∙ sym (ap (λ (y : PackResult). y.buffers.pack) c.0);
          order = h.order ∙ ap (λ (y : PackResult). y.buffers.order) c.1 ∙ sym (ap (λ (y : PackResult). y.buffers.order) c.0);
        }

    passed : PassesTo25 v xs g R₀ → past_25 ≡ true
    passed x =
        ap₂ (λ (y z : Bool). y && (z && true)) (passes_past v xs n ns (take e bs) qs x.rooms) x.positions

    failed : (PassesTo25 v xs g R₀ → ⊥) → past_25 ≡ false
    failed x = go (given_fit v g) refl
      where
        after_none : (y : Bool) → y && false ≡ false
        after_none true = refl
        after_none false = refl

        go : (z : Bool) → given_fit v g ≡ z → is_past (check v xs) v (triangles_of xs) R₀ && (z && true) ≡ false
        go false w = after_none (is_past (check v xs) v (triangles_of xs) R₀)
        go true w = ap (λ (y : Bool). y && true) (fails_past v xs n ns (take e bs) qs (λ y. x (record { rooms = y; positions = w })))

    refused_on : Whole s bs'
    refused_on = by_decision (decided v xs g R₀)
      where
        by_decision : PassesTo25 v xs g R₀ ⊎ Stopped v xs g R₀ → Whole s bs'
        by_decision (inl x) = after (passed x) (reached x)
        by_decision (inr x) = early (failed x.fails) x

  -- for every answer
  pub may_follow : (r : Packed) → IsResult (pack_whole v xs (extras g not_given) (lent n ns (take e bs) qs)) r ns' b qs'
      → NoteRoom r note (b ++ drop e bs)
  may_follow (P.Length k) h = accepted_room k h
  may_follow (P.Refused k) h = tt

  pub follows : (r : Packed) → IsResult (pack_whole v xs (extras g not_given) (lent n ns (take e bs) qs)) r ns' b qs'
      → (s : Packed) (bs' : List ℕ) → NoteFollows r note (b ++ drop e bs) s bs'
      → PackedWholeOn v xs (extras g (given note)) ns bs qs n s ns' bs' qs'
  follows (P.Length k) h s bs' f = accepted_follows k h s bs' f
  follows (P.Refused k) h s bs' f = refused_on k h s bs' f
