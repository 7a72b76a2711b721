-- Packing with positions beside packing the same list without.
-- Assumes nothing.
use Prim.Native.Nat.{ℕ, ◌+◌, ◌*◌, ◌≤◌, ◌<◌}
use native.Mathlib.Omega.{arith}
use mathlib.Core.Bool.{Bool, true, false}
use mathlib.Core.List.{List, ◌++◌}
use mathlib.Core.Logic.{◌⊎◌, inl, inr}
use mathlib.Core.Path.{◌≡◌, refl, sym, ap, ap₂, ◌∙◌, subst}
use lib.Dec.{eqb, leb}
use lib.IntN.{ℤ}
use lib.ListN.{length, length-append}
use borrow.Author.Tests.{le-leb, lt-leb, leb-true, leb-false}
use Rattle.rules.specs.declared.Triangle.{Triangle}
use Rattle.rules.specs.declared.Operation.{Operation}
use Rattle.rules.specs.Checked.{Checked}
use Rattle.rules.specs.Checked.{Accepted, Refused}
use Rattle.rules.specs.Triangle.{triangles_of}
use Rattle.rules.specs.Check.{check}
use Rattle.rules.specs.Answer.{refusal, packed}
use Rattle.rules.specs.Buffer.{over}
use Rattle.rules.specs.Fields.{field_of}
use Rattle.rules.specs.Choice.{Packing}
use Rattle.rules.specs.Pack.{Chosen, stopped, chosen, most, chosen_for, order_for, pack_of, PackBuffers, PackResult, turned_down}
use Rattle.rules.specs.Pack.{pack_refused}
use Rattle.rules.specs.Pack.{PackContents, pack_done, pack_stored, contents_of, pack_chosen, pack_long_enough, order_long_enough}
use Rattle.rules.specs.Pack.{pack_checked, pack}
use Rattle.rules.specs.Grid.{all_in_grid, position_bytes}
use Rattle.counting.proofs.Bools.{and_right}
use Rattle.rules.specs.Volume.{point_at}
use Rattle.rules.specs.Later.{positions_tag, not_given, given}
use Rattle.rules.specs.Note.{note_fits}
use Rattle.rules.specs.PackWhole.{Extras, extras, positions_fit, given_fit, positions_of, whole_pack_of, whole_contents_of, whole_chosen}
use Rattle.rules.specs.PackWhole.{whole_checked, pack_whole}
use Rattle.roundtrip.proofs.Results.{PackedBy, packed_by, not_packed, stored_done, stored_refused}
use Rattle.roundtrip.proofs.Each.{front_bytes, numbered, count, number_is}
use Rattle.volume_theory.specs.Whole.{GivenNeitherPacksTheList, field_length, PassesRooms, Followed, PositionsFollowThePack}
use Rattle.volume_theory.specs.Shorter.{besides}
use Rattle.volume_theory.proofs.Positions.{length_positions_of, length_field, point_numbered, positions_in_grid}

-- 8 and 22, then p
abbrev pub by_rooms : PackBuffers → Bool → Bool → PackResult → PackResult
by_rooms r a b p = elim a [ true ↦ elim b [ true ↦ p | false ↦ turned_down 22 r ] | false ↦ turned_down 8 r ]

-- 23 and 25, then p
abbrev pub by_extras : PackBuffers → Bool → Bool → PackResult → PackResult
by_extras r a b p = elim a [ true ↦ elim b [ true ↦ p | false ↦ turned_down 25 r ] | false ↦ turned_down 23 r ]

-- positions and no note
abbrev pub placed : List ℤ → Extras
placed zs = extras (given zs) not_given

module _ (v : ℕ) (xs : List ℕ) (r : PackBuffers) where
  abbrev ts : List Triangle
  ts = triangles_of xs

  abbrev qs : List ℕ
  qs = order_for most (triangles_of xs)

  rooms_pass : (a b : Bool) (p : PackResult) → a ≡ true → b ≡ true → by_rooms r a b p ≡ p
  rooms_pass a b p h k = ap (λ (t : Bool). by_rooms r t b p) h ∙ ap (λ (t : Bool). by_rooms r true t p) k

  rooms_fail : (a b : Bool) (p q : PackResult) → (a ≡ true → b ≡ true → ⊥) → by_rooms r a b p ≡ by_rooms r a b q
  rooms_fail true true p q h = absurd (h refl refl)
  rooms_fail true false p q h = refl
  rooms_fail false b p q h = refl

  rooms_same : (a b : Bool) (p q : PackResult) (k : ℕ) → (by_rooms r a b q).answer ≡ refusal k → (q.answer ≡ refusal k → p ≡ q)
      → by_rooms r a b p ≡ by_rooms r a b q
  rooms_same true true p q k e h = h e
  rooms_same true false p q k e h = refl
  rooms_same false b p q k e h = refl

  -- whatever is given besides the list
  module _ (e : Extras) where
    abbrev pub run : PackResult
    run = whole_chosen v (triangles_of xs) e r (order_for most (triangles_of xs)) (chosen_for most (triangles_of xs))

    earlier_at : (c : Checked) → (c ≡ Accepted → pack_long_enough v r ≡ true → order_long_enough ts r ≡ true → ⊥)
        → whole_checked most v ts e r c ≡ pack_checked most v ts r c
    unfolding whole_checked pack_checked
    earlier_at (Refused n) h = refl
    earlier_at Accepted h =
        rooms_fail (pack_long_enough v r) (order_long_enough ts r) (by_extras r (given_fit v e.positions) (note_fits e.note) run)
        (pack_chosen v ts r qs (chosen_for most ts)) (h refl)

    -- 1 to 8 and 22 are those of the list alone
    pub earlier : (PassesRooms v xs r → ⊥) → pack_whole v xs e r ≡ pack v xs r
    earlier h = earlier_at (check v xs) (λ a b c. h (record { list = a; rooms = b; order = c }))

    -- 23 and 25 come after them
    pub passed : PassesRooms v xs r → pack_whole v xs e r ≡ by_extras r (given_fit v e.positions) (note_fits e.note) run
    unfolding whole_checked
    passed h =
        ap (whole_checked most v ts e r) h.list
        ∙ rooms_pass (pack_long_enough v r) (order_long_enough ts r) (by_extras r (given_fit v e.positions) (note_fits e.note) run)
        h.rooms h.order

    pub runs : given_fit v e.positions ≡ true → note_fits e.note ≡ true → PassesRooms v xs r → pack_whole v xs e r ≡ run
    runs f g h = passed h ∙ ap₂ (λ (s t : Bool). by_extras r s t run) f g

  -- given neither, packing is that of the list
  neither_chosen : (c : Chosen) → whole_chosen v ts (extras not_given not_given) r qs c ≡ pack_chosen v ts r qs c
  unfolding whole_chosen pack_chosen
  neither_chosen (stopped n) = refl
  neither_chosen (chosen os s) = refl

  neither_checked : (c : Checked) → whole_checked most v ts (extras not_given not_given) r c ≡ pack_checked most v ts r c
  unfolding whole_checked pack_checked
  neither_checked (Refused n) = refl
  neither_checked Accepted = ap (by_rooms r (pack_long_enough v r) (order_long_enough ts r)) (neither_chosen (chosen_for most ts))

  neither : pack_whole v xs (extras not_given not_given) r ≡ pack v xs r
  neither = neither_checked (check v xs)

  -- positions and no note
  module _ (zs : List ℤ) where
    unfit : positions_fit v zs ≡ false → PassesRooms v xs r → pack_whole v xs (placed zs) r ≡ turned_down 23 r
    unfit f h = passed (placed zs) h ∙ ap (λ (t : Bool). by_extras r t true (run (placed zs))) f

    module _ (fit : positions_fit v zs ≡ true) where
      -- the pack with the positions is no shorter
      abbrev field : Packing → List ℕ
      field s = field_of positions_tag (position_bytes (positions_of zs s.numbered))

      pub longer : (os : List Operation) (s : Packing)
          → length (whole_pack_of v ts (placed zs) os s) ≡ length (pack_of v ts os s) + (3 + 6 * length s.numbered)
      longer os s = length-append (pack_of v ts os s) (field s) ∙ omega (arith, length_field positions_tag zs s.numbered)

      refused_at : (c : Chosen) (k : ℕ) → (pack_chosen v ts r qs c).answer ≡ refusal k
          → whole_chosen v ts (placed zs) r qs c ≡ pack_chosen v ts r qs c
      unfolding whole_chosen pack_chosen
      refused_at (stopped n) k e = refl
      refused_at (chosen os s) k e = go (leb (length (pack_of v ts os s)) (length r.pack)) refl
        where
          go : (t : Bool) → leb (length (pack_of v ts os s)) (length r.pack) ≡ t
              → pack_stored v ts (whole_contents_of v ts (placed zs) qs os s) r ≡ pack_stored v ts (contents_of v ts qs os s) r
          go true f =
              absurd (not_packed (length (pack_of v ts os s)) k
              (sym e ∙ ap (λ (p : PackResult). p.answer) (stored_done v ts (contents_of v ts qs os s) r f)))
          go false f =
              stored_refused v ts (whole_contents_of v ts (placed zs) qs os s) r
              (lt-leb (length (whole_pack_of v ts (placed zs) os s)) (length r.pack)
              (omega (arith, longer os s, leb-false (length (pack_of v ts os s)) (length r.pack) f)))
              ∙ sym (stored_refused v ts (contents_of v ts qs os s) r f)

      refused_checked : (c : Checked) (k : ℕ) → (pack_checked most v ts r c).answer ≡ refusal k
          → whole_checked most v ts (placed zs) r c ≡ pack_checked most v ts r c
      unfolding whole_checked pack_checked
      refused_checked (Refused n) k e = refl
      refused_checked Accepted k e =
          rooms_same (pack_long_enough v r) (order_long_enough ts r) (by_extras r (positions_fit v zs) true (run (placed zs)))
          (pack_chosen v ts r qs (chosen_for most ts)) k e
          (λ f. ap (λ (t : Bool). by_extras r t true (run (placed zs))) fit ∙ refused_at (chosen_for most ts) k f)

      refused : (k : ℕ) → (pack v xs r).answer ≡ refusal k → pack_whole v xs (placed zs) r ≡ pack v xs r
      refused k e = refused_checked (check v xs) k e

      -- the list alone is packed into the same buffers but for that of the pack, which is bs
      module _ (bs : List ℕ) (n : ℕ) (p : PackedBy most v xs (besides r bs) n) where
        abbrev whole : List ℕ
        whole = whole_pack_of v (triangles_of xs) (placed zs) p.operations p.last

        stores : pack_whole v xs (placed zs) r ≡ pack_stored v ts (whole_contents_of v ts (placed zs) qs p.operations p.last) r
        unfolding whole_chosen
        stores =
            runs (placed zs) fit refl (record { list = p.accepted; rooms = p.enough; order = p.ordered })
            ∙ ap (whole_chosen v ts (placed zs) r qs) p.chose

        whole_length : length whole ≡ n + field_length v
        whole_length = omega (arith, longer p.operations p.last, p.long, count v xs (besides r bs) n p)

        too_long : length r.pack < n + field_length v → pack_whole v xs (placed zs) r ≡ pack_refused 11 v ts r
        too_long h =
            stores
            ∙ stored_refused v ts (whole_contents_of v ts (placed zs) qs p.operations p.last) r
            (lt-leb (length whole) (length r.pack) (omega (arith, whole_length)))

        done : n + field_length v ≤ length r.pack
            → pack_whole v xs (placed zs) r ≡ pack_done (whole_contents_of v ts (placed zs) qs p.operations p.last) r
        done h =
            stores ∙ stored_done v ts (whole_contents_of v ts (placed zs) qs p.operations p.last) r
            (le-leb (length whole) (length r.pack) (omega (arith, whole_length)))

        pub follows : n + field_length v ≤ length r.pack → Followed v n zs r (pack_whole v xs (placed zs) r) (pack v xs (besides r bs))
        follows h = record {
          positions = positions_of zs p.last.numbered;
          count = omega (arith, length_positions_of zs p.last.numbered, count v xs (besides r bs) n p);
          range = positions_in_grid zs p.last.numbered (and_right (eqb (length zs) (3 * v)) (all_in_grid zs) fit);
          points =
              λ x l. ap (point_at (positions_of zs p.last.numbered)) (number_is v xs (besides r bs) n p x l)
              ∙ point_numbered zs x p.last.numbered (numbered v xs (besides r bs) n p x l);
          answer = ap (λ (x : PackResult). x.answer) (done h) ∙ ap packed whole_length;
          bytes =
              ap (λ (x : PackResult). x.buffers.pack) (done h)
              ∙ ap (λ (k : List ℕ). over (k ++ field p.last) r.pack) (sym (front_bytes v xs (besides r bs) n p));
          numbering =
              ap (λ (x : PackResult). x.buffers.numbering) (done h) ∙ sym (ap (λ (x : PackResult). x.buffers.numbering) p.result);
          order =
              ap (λ (x : PackResult). x.buffers.order) (done h) ∙ sym (ap (λ (x : PackResult). x.buffers.order) p.result);
          places =
              ap (λ (x : PackResult). x.buffers.places) (done h) ∙ sym (ap (λ (x : PackResult). x.buffers.places) p.result);
        }

pub given_neither_packs_the_list : GivenNeitherPacksTheList
given_neither_packs_the_list = neither

-- what is answered
abbrev pub Refuses : PackResult → Type 0
Refuses p = (k : ℕ) × (p.answer ≡ refusal k)

abbrev pub Answers : PackResult → Type 0
Answers p = Refuses p ⊎ ((n : ℕ) × (p.answer ≡ packed n))

pub stored_answer : (v : ℕ) (ts : List Triangle) (w : PackContents) (r : PackBuffers) → Answers (pack_stored v ts w r)
stored_answer v ts w r = go (leb (length w.pack) (length r.pack))
  where
    go : (t : Bool) → Answers (elim t [ true ↦ pack_done w r | false ↦ pack_refused 11 v ts r ])
    go true = inr (length w.pack, refl)
    go false = inl (11, refl)

module _ (v : ℕ) (xs : List ℕ) (zs : List ℤ) (r : PackBuffers) where
  rooms_answer : (A : PackResult → Type 0) → A (turned_down 8 r) → A (turned_down 22 r) → (a b : Bool) (p : PackResult) → A p
      → A (by_rooms r a b p)
  rooms_answer A x y true true p h = h
  rooms_answer A x y true false p h = y
  rooms_answer A x y false b p h = x

  chosen_answer : (c : Chosen) → Answers (pack_chosen v (triangles_of xs) r (order_for most (triangles_of xs)) c)
  unfolding pack_chosen
  chosen_answer (stopped n) = inl (n, refl)
  chosen_answer (chosen os s) =
      stored_answer v (triangles_of xs) (contents_of v (triangles_of xs) (order_for most (triangles_of xs)) os s) r

  pack_answers : (c : Checked) → Answers (pack_checked most v (triangles_of xs) r c)
  unfolding pack_checked
  pack_answers (Refused n) = inl (n, refl)
  pack_answers Accepted =
      rooms_answer Answers (inl (8, refl)) (inl (22, refl)) (pack_long_enough v r) (order_long_enough (triangles_of xs) r) _
      (chosen_answer (chosen_for most (triangles_of xs)))

  unfit_refused : positions_fit v zs ≡ false → (c : Checked) → Refuses (whole_checked most v (triangles_of xs) (placed zs) r c)
  unfolding whole_checked
  unfit_refused f (Refused n) = (n, refl)
  unfit_refused f Accepted =
      rooms_answer Refuses (8, refl) (22, refl) (pack_long_enough v r) (order_long_enough (triangles_of xs) r)
      (by_extras r (positions_fit v zs) true (run v xs r (placed zs)))
      (subst (λ (t : Bool). Refuses (by_extras r t true (run v xs r (placed zs)))) (sym f) (23, refl))

-- a packing with positions that was not refused
pub record PackedWhole (v : ℕ) (xs : List ℕ) (zs : List ℤ) (r : PackBuffers) (k : ℕ) : Type 0 where
  pub fit : positions_fit v zs ≡ true
  pub n : ℕ
  pub alone : (pack v xs r).answer ≡ packed n
  pub long : k ≡ n + field_length v
  pub followed : Followed v n zs r (pack_whole v xs (placed zs) r) (pack v xs r)

pub packed_whole : (v : ℕ) (xs : List ℕ) (zs : List ℤ) (r : PackBuffers) (k : ℕ) → (pack_whole v xs (placed zs) r).answer ≡ packed k
    → PackedWhole v xs zs r k
packed_whole v xs zs r k e = by_fit (positions_fit v zs) refl
  where
    p : PackResult
    p = pack_whole v xs (placed zs) r

    never : {A : Type 0} → Refuses p → A
    never h = absurd (not_packed k h.0 (sym h.1 ∙ e))

    by_length : positions_fit v zs ≡ true → (n : ℕ) → (pack v xs r).answer ≡ packed n → (t : Bool)
        → leb (n + field_length v) (length r.pack) ≡ t → PackedWhole v xs zs r k
    by_length f n a true l =
        let g = follows v xs r zs f r.pack n (packed_by most v xs r n a) (leb-true (n + field_length v) (length r.pack) l) in
        let q : packed k ≡ packed (n + field_length v) = sym e ∙ g.answer in
        record { fit = f; n = n; alone = a; long = cc; followed = g }
    by_length f n a false l =
        never (
          11,
          ap (λ (x : PackResult). x.answer)
              (too_long v xs r zs f r.pack n (packed_by most v xs r n a) (leb-false (n + field_length v) (length r.pack) l)),
        )

    by_answer : positions_fit v zs ≡ true → Answers (pack v xs r) → PackedWhole v xs zs r k
    by_answer f (inl h) = never (h.0, ap (λ (x : PackResult). x.answer) (refused v xs r zs f h.0 h.1) ∙ h.1)
    by_answer f (inr h) = by_length f h.0 h.1 (leb (h.0 + field_length v) (length r.pack)) refl

    by_fit : (t : Bool) → positions_fit v zs ≡ t → PackedWhole v xs zs r k
    by_fit true f = by_answer f (pack_answers v xs zs r (check v xs))
    by_fit false f = never (unfit_refused v xs zs r f (check v xs))

pub positions_follow_the_pack : PositionsFollowThePack
positions_follow_the_pack v xs zs r = record {
  earlier = earlier v xs r (placed zs);
  unfit = unfit v xs r zs;
  refused = refused v xs r zs;
  too_long = λ f n e. too_long v xs r zs f r.pack n (packed_by most v xs r n e);
  follows = λ f n e. follows v xs r zs f r.pack n (packed_by most v xs r n e);
}
