-- Packing with a note beside packing the same without, in the same buffers or with a shorter one for the pack.
-- Assumes nothing.
use Prim.Native.Nat.{ℕ, ◌+◌, ◌*◌, ◌≤◌, ◌<◌}
use native.Mathlib.Omega.{arith}
use mathlib.Core.Bool.{Bool, true, false, true≢false}
use mathlib.Core.List.{List, ◌++◌}
use mathlib.Core.Logic.{◌⊎◌, inl, inr}
use mathlib.Core.Path.{◌≡◌, refl, sym, ap, ◌∙◌, subst}
use lib.Dec.{leb}
use lib.IntN.{ℤ}
use lib.ListN.{length, take, drop, length-append}
use lib.Seq.{take_at, drop_at}
use borrow.Author.Tests.{le-leb, lt-leb, leb-true, leb-false}
use Rattle.rules.specs.declared.Triangle.{Triangle}
use Rattle.rules.specs.declared.Operation.{Operation}
use Rattle.rules.specs.Checked.{Checked}
use Rattle.rules.specs.Checked.{Accepted, Refused}
use Rattle.rules.specs.Limits.{min_vertices, max_vertices}
use Rattle.rules.specs.Triangle.{triangles_of}
use Rattle.rules.specs.Check.{check}
use Rattle.rules.specs.Answer.{refusal, packed}
use Rattle.rules.specs.Bits.{bytes_of}
use Rattle.rules.specs.Code.{operations_bits}
use Rattle.rules.specs.Buffer.{over}
use Rattle.rules.specs.Fields.{field_of}
use Rattle.rules.specs.Choice.{Packing}
use Rattle.rules.specs.Pack.{Chosen, stopped, chosen, most, chosen_for, order_for, pack_of, PackBuffers, PackResult, turned_down}
use Rattle.rules.specs.Pack.{pack_refused}
use Rattle.rules.specs.Pack.{PackContents, pack_done, pack_stored, pack_long_enough, order_long_enough}
use Rattle.rules.specs.Grid.{position_bytes}
use Rattle.rules.specs.Later.{positions_tag, Given, not_given, given}
use Rattle.rules.specs.Note.{note_tag, note_fits}
use Rattle.rules.specs.PackWhole.{Extras, extras, given_fit, positions_of, with_positions}
use Rattle.rules.specs.PackWhole.{whole_pack_of, whole_contents_of, whole_chosen, whole_checked, pack_whole}
use Rattle.wire_theory.proofs.Fields.{length_pack}
use Rattle.choice_theory.proofs.Runs.RoundTrip.{stated_by, numbered_all, accepted_complete}
use Rattle.choice_theory.proofs.Runs.Accepted.{accepted_packable}
use Rattle.counting.proofs.Ranges.{of_between}
use Rattle.mesh_theory.proofs.Fans.Checks.{check_accepted, accepted_refused}
use Rattle.roundtrip.proofs.Results.{not_packed, stored_done, stored_refused}
use Rattle.volume_theory.specs.Shorter.{besides, most_pack}
use Rattle.volume_theory.proofs.Positions.{length_field}
use Rattle.volume_theory.proofs.Beside.{by_rooms, by_extras, run, runs, passed, Answers, stored_answer}
use Rattle.volume_theory.proofs.Shorter.{short_pack}
use Rattle.notes_theory.specs.Claims.{note_length, NoteFollowed, PassesTo25, NoteFollowsThePack}

-- 1 to 8, 22 and 23 are passed; or one of them refuses, whatever the note and the buffer for the pack
module _ (v : ℕ) (xs : List ℕ) (g : Given (List ℤ)) (r : PackBuffers) where
  abbrev ts : List Triangle
  ts = triangles_of xs

  abbrev pub Down : ℕ → Type 0
  Down k = (n : Given (List ℕ)) (bs : List ℕ) → pack_whole v xs (extras g n) (besides r bs) ≡ turned_down k (besides r bs)

  abbrev tests : Given (List ℕ) → List ℕ → Bool → Bool → Bool → PackResult
  tests n bs a b f =
      by_rooms (besides r bs) a b (by_extras (besides r bs) f (note_fits n) (run v xs (besides r bs) (extras g n)))

  tested : check v xs ≡ Accepted → (a b f : Bool) → pack_long_enough v r ≡ a → order_long_enough ts r ≡ b → given_fit v g ≡ f
      → (n : Given (List ℕ)) (bs : List ℕ) → pack_whole v xs (extras g n) (besides r bs) ≡ tests n bs a b f
  unfolding whole_checked
  tested e a b f p q h n bs =
      ap (whole_checked most v ts (extras g n) (besides r bs)) e ∙ (λ i. tests n bs (p i) (q i) (h i))

  pub record Stopped : Type 0 where
    pub number : ℕ
    pub down : Down number
    pub fails : PassesTo25 v xs g r → ⊥

  pub decided : PassesTo25 v xs g r ⊎ Stopped
  unfolding whole_checked
  decided = by_check (check v xs) refl
    where
      by_tests : check v xs ≡ Accepted → (a b f : Bool) → pack_long_enough v r ≡ a → order_long_enough ts r ≡ b → given_fit v g ≡ f
          → PassesTo25 v xs g r ⊎ Stopped
      by_tests e true true true p q h = inl (record { rooms = record { list = e; rooms = p; order = q }; positions = h })
      by_tests e true true false p q h =
          inr (record { number = 23; down = tested e true true false p q h; fails = λ x. true≢false (sym x.positions ∙ h) })
      by_tests e true false f p q h =
          inr (record { number = 22; down = tested e true false f p q h; fails = λ x. true≢false (sym x.rooms.order ∙ q) })
      by_tests e false b f p q h =
          inr (record { number = 8; down = tested e false b f p q h; fails = λ x. true≢false (sym x.rooms.rooms ∙ p) })

      by_check : (c : Checked) → check v xs ≡ c → PassesTo25 v xs g r ⊎ Stopped
      by_check (Refused k) e =
          inr (record {
            number = k;
            down = λ n bs. ap (whole_checked most v ts (extras g n) (besides r bs)) e;
            fails = λ x. accepted_refused k (sym x.rooms.list ∙ e);
          })
      by_check Accepted e = by_tests e (pack_long_enough v r) (order_long_enough ts r) (given_fit v g) refl refl refl

-- past 25
module _ (v : ℕ) (xs : List ℕ) (g : Given (List ℤ)) (ns : List ℕ) (r : PackBuffers) (pass : PassesTo25 v xs g r) where
  abbrev us : List Triangle
  us = triangles_of xs

  abbrev qs : List ℕ
  qs = order_for most (triangles_of xs)

  -- what is packed with the note and without
  abbrev noted : Extras
  noted = extras g (given ns)

  abbrev alone : Extras
  alone = extras g not_given

  abbrev field : List ℕ
  field = field_of note_tag ns

  pub unfit : note_fits (given ns) ≡ false → pack_whole v xs noted r ≡ turned_down 25 r
  unfit h =
      passed v xs r noted pass.rooms
      ∙ (λ i. by_extras r (pass.positions i) (h i) (run v xs r noted))

  alone_runs : (bs : List ℕ) → pack_whole v xs alone (besides r bs) ≡ whole_chosen v us alone (besides r bs) qs (chosen_for most us)
  alone_runs bs =
      runs v xs (besides r bs) alone pass.positions refl
      (record { list = pass.rooms.list; rooms = pass.rooms.rooms; order = pass.rooms.order })

  module _ (fits : note_fits (given ns) ≡ true) where
    noted_runs : pack_whole v xs noted r ≡ whole_chosen v us noted r qs (chosen_for most us)
    noted_runs = runs v xs r noted pass.positions fits pass.rooms

    longer : (os : List Operation) (s : Packing)
        → length (whole_pack_of v us noted os s) ≡ length (whole_pack_of v us alone os s) + note_length ns
    longer os s = length-append (whole_pack_of v us alone os s) field ∙ omega arith

    -- a buffer that is too short for all but the note is so for both
    module _ (bs : List ℕ) (cut : (b : ℕ) → length bs < b → length r.pack < b + note_length ns) where
      abbrev Refuses : Chosen → ℕ → Type 0
      Refuses c k =
          (whole_chosen v us noted r qs c ≡ pack_refused k v us r)
          × (whole_chosen v us alone (besides r bs) qs c ≡ pack_refused k v us (besides r bs))

      refuses : (c : Chosen) (k : ℕ) → (whole_chosen v us alone (besides r bs) qs c).answer ≡ refusal k → Refuses c k
      unfolding whole_chosen
      refuses (stopped n) k e =
          let q : refusal n ≡ refusal k = e in
          let j : n ≡ k = cc in
          (ap (λ (i : ℕ). pack_refused i v us r) j, ap (λ (i : ℕ). pack_refused i v us (besides r bs)) j)
      refuses (chosen os s) k e = go (leb (length (whole_pack_of v us alone os s)) (length bs)) refl
        where
          go : (t : Bool) → leb (length (whole_pack_of v us alone os s)) (length bs) ≡ t → Refuses (chosen os s) k
          go true l =
              absurd (not_packed (length (whole_pack_of v us alone os s)) k
              (sym e ∙ ap (λ (p : PackResult). p.answer) (stored_done v us (whole_contents_of v us alone qs os s) (besides r bs) l)))
          go false l =
              let d = stored_refused v us (whole_contents_of v us alone qs os s) (besides r bs) l in
              let a : refusal 11 ≡ refusal k = sym (ap (λ (p : PackResult). p.answer) d) ∙ e in
              let j : 11 ≡ k = cc in (
                stored_refused v us (whole_contents_of v us noted qs os s) r
                    (lt-leb (length (whole_pack_of v us noted os s)) (length r.pack)
                    (omega (
                      arith,
                      longer os s,
                      cut (length (whole_pack_of v us alone os s)) (leb-false (length (whole_pack_of v us alone os s)) (length bs) l),
                    )))
                    ∙ ap (λ (i : ℕ). pack_refused i v us r) j,
                d ∙ ap (λ (i : ℕ). pack_refused i v us (besides r bs)) j,
              )

      pub late : (k : ℕ) → (pack_whole v xs alone (besides r bs)).answer ≡ refusal k
          → (pack_whole v xs noted r ≡ pack_refused k v us r) × (pack_whole v xs alone (besides r bs) ≡ pack_refused k v us (besides r bs))
      late k e =
          let c = refuses (chosen_for most us) k (sym (ap (λ (p : PackResult). p.answer) (alone_runs bs)) ∙ e) in
          (noted_runs ∙ c.0, alone_runs bs ∙ c.1)

    -- all but the note is packed into bs, and has n bytes
    pub record Packs (bs : List ℕ) (n : ℕ) : Type 0 where
      pub operations : List Operation
      pub last : Packing
      pub chose : chosen_for most (triangles_of xs) ≡ chosen operations last
      pub long : length (whole_pack_of v (triangles_of xs) (extras g not_given) operations last) ≡ n
      pub room : n ≤ length bs
      pub result : pack_whole v xs (extras g not_given) (besides r bs)
          ≡ pack_done (whole_contents_of v (triangles_of xs) (extras g not_given) (order_for most (triangles_of xs)) operations last)
          (besides r bs)

    module _ (bs : List ℕ) (n : ℕ) where
      pub packs_by : (pack_whole v xs (extras g not_given) (besides r bs)).answer ≡ packed n → Packs bs n
      unfolding whole_chosen
      packs_by e = by (chosen_for most us) refl (sym (ap (λ (p : PackResult). p.answer) (alone_runs bs)) ∙ e)
        where
          by : (c : Chosen) → chosen_for most us ≡ c → (whole_chosen v us alone (besides r bs) qs c).answer ≡ packed n → Packs bs n
          by (stopped k) f q = absurd (not_packed n k q)
          by (chosen os s) f q = go (leb (length (whole_pack_of v us alone os s)) (length bs)) refl
            where
              w : PackContents
              w = whole_contents_of v us alone qs os s

              go : (t : Bool) → leb (length (whole_pack_of v us alone os s)) (length bs) ≡ t → Packs bs n
              go true l =
                  let d = stored_done v us w (besides r bs) l in
                  let a : packed (length w.pack) ≡ packed n = sym (ap (λ (p : PackResult). p.answer) d) ∙ q in
                  let j : length w.pack ≡ n = cc in
                  record {
                    operations = os;
                    last = s;
                    chose = f;
                    long = j;
                    room = omega (arith, j, leb-true (length w.pack) (length bs) l);
                    result = alone_runs bs ∙ ap (whole_chosen v us alone (besides r bs) qs) f ∙ d;
                  }
              go false l =
                  absurd (not_packed n 11 (sym (ap (λ (p : PackResult). p.answer) (stored_refused v us w (besides r bs) l)) ∙ q))

      module _ (w : Packs bs n) where
        abbrev q : PackResult
        q = pack_whole v xs (extras g not_given) (besides r bs)

        abbrev contents : PackContents
        contents = whole_contents_of v us noted qs w.operations w.last

        stores : pack_whole v xs (extras g (given ns)) r ≡ pack_stored v us contents r
        unfolding whole_chosen
        stores = noted_runs ∙ ap (whole_chosen v us noted r qs) w.chose

        long_noted : length contents.pack ≡ n + note_length ns
        long_noted = omega (arith, longer w.operations w.last, w.long)

        pub too_long : length r.pack < n + note_length ns → pack_whole v xs (extras g (given ns)) r ≡ pack_refused 11 v us r
        too_long h =
            stores ∙ stored_refused v us contents r (lt-leb (length contents.pack) (length r.pack) (omega (arith, long_noted)))

        done : n + note_length ns ≤ length r.pack → pack_whole v xs (extras g (given ns)) r ≡ pack_done contents r
        done h = stores ∙ stored_done v us contents r (le-leb (length contents.pack) (length r.pack) (omega (arith, long_noted)))

        -- the bytes before the note
        pub front : take n q.buffers.pack ≡ whole_pack_of v us alone w.operations w.last
        front =
            let b = whole_pack_of v us alone w.operations w.last in
            ap (λ (p : PackResult). take n p.buffers.pack) w.result ∙ take_at b (drop (length b) bs) n w.long

        pub past : drop n q.buffers.pack ≡ drop n bs
        past =
            let b = whole_pack_of v us alone w.operations w.last in
            ap (λ (p : PackResult). drop n p.buffers.pack) w.result ∙ drop_at b (drop (length b) bs) n w.long
            ∙ ap (λ (k : ℕ). drop k bs) w.long

        pub follows : n + note_length ns ≤ length r.pack → NoteFollowed n ns r (pack_whole v xs (extras g (given ns)) r) q
        follows h = record {
          answer = ap (λ (x : PackResult). x.answer) (done h) ∙ ap packed long_noted;
          bytes = ap (λ (x : PackResult). x.buffers.pack) (done h) ∙ ap (λ (us : List ℕ). over (us ++ field) r.pack) (sym front);
          numbering =
              ap (λ (x : PackResult). x.buffers.numbering) (done h) ∙ sym (ap (λ (x : PackResult). x.buffers.numbering) w.result);
          order = ap (λ (x : PackResult). x.buffers.order) (done h) ∙ sym (ap (λ (x : PackResult). x.buffers.order) w.result);
          places = ap (λ (x : PackResult). x.buffers.places) (done h) ∙ sym (ap (λ (x : PackResult). x.buffers.places) w.result);
        }

        -- how long all but the note may be
        abbrev own : List ℕ
        own = pack_of v us w.operations w.last

        own_long : length own ≡ 14 + length (bytes_of (operations_bits w.operations))
        own_long = length_pack (stated_by v us w.last) (bytes_of (operations_bits w.operations))

        own_short : length own ≤ most_pack
        own_short = short_pack v xs w.operations w.last pass.rooms.list w.chose

        few : length w.last.numbered ≤ max_vertices
        few =
            let a = pass.rooms.list in
            omega (
              arith,
              numbered_all most v us (accepted_packable v xs a) w.operations w.last
                  (accepted_complete most v xs w.operations w.last a w.chose),
              (of_between min_vertices v max_vertices ((check_accepted v xs).0 a).range).1,
            )

        with_positions_lem : (x : Given (List ℤ))
            → (length own ≤ length (with_positions x w.last.numbered own))
            × (length (with_positions x w.last.numbered own) ≤ length own + (3 + 6 * length w.last.numbered))
        with_positions_lem not_given = (omega arith, omega arith)
        with_positions_lem (given zs) =
            let f = field_of positions_tag (position_bytes (positions_of zs w.last.numbered)) in
            let l = length-append own f in
            let k = length_field positions_tag zs w.last.numbered in
            (omega (arith, l), omega (arith, l, k))

        pub bounds : (0 < n) × (n < 1000000)
        bounds =
            let p = with_positions_lem g in (
              omega (arith, w.long, own_long, p.0),
              omega (arith, w.long, own_short, p.1, few),
            )

-- what was packed without a note has passed
pub passes_25 : (v : ℕ) (xs : List ℕ) (g : Given (List ℤ)) (r : PackBuffers) (n : ℕ)
    → (pack_whole v xs (extras g not_given) r).answer ≡ packed n → PassesTo25 v xs g r
passes_25 v xs g r n e = by_decision (decided v xs g r)
  where
    by_decision : PassesTo25 v xs g r ⊎ Stopped v xs g r → PassesTo25 v xs g r
    by_decision (inl p) = p
    by_decision (inr x) =
        absurd (not_packed n x.number (sym (ap (λ (p : PackResult). p.answer) (x.down not_given r.pack)) ∙ e))

pub front_long : (v : ℕ) (xs : List ℕ) (g : Given (List ℤ)) (ns : List ℕ) (r : PackBuffers) (n : ℕ) → note_fits (given ns) ≡ true
    → (pack_whole v xs (extras g not_given) r).answer ≡ packed n
    → length (take n (pack_whole v xs (extras g not_given) r).buffers.pack) ≡ n
front_long v xs g ns r n f e =
    let p = passes_25 v xs g r n e in
    let w = packs_by v xs g ns r p f r.pack n e in
    ap length (front v xs g ns r p f r.pack n w) ∙ w.long

pub note_follows_the_pack : NoteFollowsThePack
note_follows_the_pack v xs g ns r = record {
  earlier = λ h. by_decision h (decided v xs g r);
  unfit = λ f p. unfit v xs g ns r p f;
  refused = λ f k e. refused f k e (decided v xs g r);
  too_long = λ f n e. let p = passes_25 v xs g r n e in too_long v xs g ns r p f r.pack n (packs_by v xs g ns r p f r.pack n e);
  follows = λ f n e. let p = passes_25 v xs g r n e in follows v xs g ns r p f r.pack n (packs_by v xs g ns r p f r.pack n e);
}
  where
    by_decision : (PassesTo25 v xs g r → ⊥) → PassesTo25 v xs g r ⊎ Stopped v xs g r
        → pack_whole v xs (extras g (given ns)) r ≡ pack_whole v xs (extras g not_given) r
    by_decision h (inl p) = absurd (h p)
    by_decision h (inr x) = x.down (given ns) r.pack ∙ sym (x.down not_given r.pack)

    refused : note_fits (given ns) ≡ true → (k : ℕ) → (pack_whole v xs (extras g not_given) r).answer ≡ refusal k
        → PassesTo25 v xs g r ⊎ Stopped v xs g r
        → pack_whole v xs (extras g (given ns)) r ≡ pack_whole v xs (extras g not_given) r
    refused f k e (inl p) = let l = late v xs g ns r p f r.pack (λ b h. omega arith) k e in l.0 ∙ sym l.1
    refused f k e (inr x) = x.down (given ns) r.pack ∙ sym (x.down not_given r.pack)

-- what packing without a note answers
module _ (v : ℕ) (xs : List ℕ) (g : Given (List ℤ)) (r : PackBuffers) where
  chosen_answers : (c : Chosen) → Answers (whole_chosen v (triangles_of xs) (extras g not_given) r (order_for most (triangles_of xs)) c)
  unfolding whole_chosen
  chosen_answers (stopped n) = inl (n, refl)
  chosen_answers (chosen os s) =
      stored_answer v (triangles_of xs) (whole_contents_of v (triangles_of xs) (extras g not_given) (order_for most (triangles_of xs)) os s)
      r

  pub whole_answers : Answers (pack_whole v xs (extras g not_given) r)
  whole_answers = by_decision (decided v xs g r)
    where
      by_decision : PassesTo25 v xs g r ⊎ Stopped v xs g r → Answers (pack_whole v xs (extras g not_given) r)
      by_decision (inl p) =
          subst Answers (sym (runs v xs r (extras g not_given) p.positions refl p.rooms))
          (chosen_answers (chosen_for most (triangles_of xs)))
      by_decision (inr x) = inl (x.number, ap (λ (p : PackResult). p.answer) (x.down not_given r.pack))
