-- Packing with positions by packing the list alone into a shorter buffer.
-- Assumes nothing.
use Prim.Native.Nat.{ℕ, ◌+◌, ◌-◌, ◌≤◌}
use native.Mathlib.Omega.{arith}
use mathlib.Core.Bool.{Bool, true, false}
use mathlib.Core.List.{List}
use mathlib.Core.Path.{◌≡◌, refl, sym, ap, ◌∙◌}
use lib.Dec.{leb}
use lib.IntN.{ℤ}
use lib.ListN.{length, drop, length-take}
use lib.Seq.{drop_at}
use borrow.Author.Tests.{lt-leb, leb-false}
use Rattle.rules.specs.declared.Triangle.{Triangle}
use Rattle.rules.specs.declared.Operation.{Operation}
use Rattle.rules.specs.Triangle.{triangles_of}
use Rattle.rules.specs.Check.{check}
use Rattle.rules.specs.Checked.{Accepted}
use Rattle.rules.specs.Answer.{refusal, packed}
use Rattle.rules.specs.Bits.{bytes_of}
use Rattle.rules.specs.Code.{operations_bits}
use Rattle.rules.specs.Choice.{Packing}
use Rattle.rules.specs.Pack.{Chosen, stopped, chosen, most, chosen_for, order_for, pack_of, PackBuffers, PackResult}
use Rattle.rules.specs.Pack.{pack_refused, pack_stored, contents_of, pack_chosen, pack}
use Rattle.rules.specs.PackWhole.{positions_fit, whole_pack_of, whole_contents_of, whole_chosen, pack_whole}
use Rattle.wire_theory.proofs.Fields.{length_pack}
use Rattle.choice_theory.proofs.Runs.RoundTrip.{stated_by, numbered_all, accepted_complete}
use Rattle.choice_theory.proofs.Runs.Accepted.{accepted_packable}
use Rattle.roundtrip.proofs.Results.{PackedBy, packed_by, not_packed, stored_done, stored_refused, within_checked}
use Rattle.roundtrip.proofs.Each.{one_to_one}
use Rattle.roundtrip.proofs.Fitting.{short_enough}
use Rattle.volume_theory.specs.Whole.{field_length, PassesRooms}
use Rattle.volume_theory.specs.Shorter.{shorter, most_pack, Appended, Shorter}
use Rattle.volume_theory.proofs.Beside.{placed, runs, longer, follows}

-- the bytes of the operations are fewer than 65,536
pub short_pack : (v : ℕ) (xs : List ℕ) (os : List Operation) (s : Packing) → check v xs ≡ Accepted
    → chosen_for most (triangles_of xs) ≡ chosen os s → length (pack_of v (triangles_of xs) os s) ≤ most_pack
short_pack v xs os s a e =
    let c = accepted_complete most v xs os s a e in
    omega (
      arith,
      length_pack (stated_by v (triangles_of xs) s) (bytes_of (operations_bits os)),
      short_enough v xs os s a e c,
    )

module _ (v : ℕ) (xs : List ℕ) (zs : List ℤ) (r : PackBuffers) (fit : positions_fit v zs ≡ true) (rooms : PassesRooms v xs r) where
  abbrev ts : List Triangle
  ts = triangles_of xs

  abbrev qs : List ℕ
  qs = order_for most (triangles_of xs)

  abbrev r₀ : PackBuffers
  r₀ = shorter v r

  q_is : pack v xs (shorter v r) ≡ pack_chosen v ts r₀ qs (chosen_for most ts)
  q_is = within_checked most v xs (shorter v r) rooms.list rooms.rooms rooms.order

  p_is : pack_whole v xs (placed zs) r ≡ whole_chosen v ts (placed zs) r qs (chosen_for most ts)
  p_is = runs v xs r (placed zs) fit refl rooms

  room₀ : length r₀.pack ≡ length r.pack - field_length v
  room₀ = length-take (length r.pack - field_length v) r.pack ∙ omega arith

  -- the pack with the positions is longer by the field
  longer_by : (os : List Operation) (s : Packing) → chosen_for most ts ≡ chosen os s
      → length (whole_pack_of v ts (placed zs) os s) ≡ length (pack_of v ts os s) + field_length v
  longer_by os s e =
      let n = numbered_all most v ts (accepted_packable v xs rooms.list) os s (accepted_complete most v xs os s rooms.list e) in
      omega (arith, longer v xs r zs fit os s, n)

  refused_at : (c : Chosen) → chosen_for most ts ≡ c → (k : ℕ) → (pack_chosen v ts r₀ qs c).answer ≡ refusal k
      → (whole_chosen v ts (placed zs) r qs c ≡ pack_refused k v ts r) × (pack_chosen v ts r₀ qs c ≡ pack_refused k v ts r₀)
  unfolding whole_chosen pack_chosen
  refused_at (stopped n) e k f =
      let q : refusal n ≡ refusal k = f in
      let j : n ≡ k = cc in
      (ap (λ (i : ℕ). pack_refused i v ts r) j, ap (λ (i : ℕ). pack_refused i v ts r₀) j)
  refused_at (chosen os s) e k f = go (leb (length (pack_of v ts os s)) (length r₀.pack)) refl
    where
      go : (t : Bool) → leb (length (pack_of v ts os s)) (length r₀.pack) ≡ t
          → (pack_stored v ts (whole_contents_of v ts (placed zs) qs os s) r ≡ pack_refused k v ts r)
          × (pack_stored v ts (contents_of v ts qs os s) r₀ ≡ pack_refused k v ts r₀)
      go true l =
          absurd (not_packed (length (pack_of v ts os s)) k
          (sym f ∙ ap (λ (p : PackResult). p.answer) (stored_done v ts (contents_of v ts qs os s) r₀ l)))
      go false l =
          let alone = stored_refused v ts (contents_of v ts qs os s) r₀ l in
          let a : refusal 11 ≡ refusal k = sym (ap (λ (p : PackResult). p.answer) alone) ∙ f in
          let j : 11 ≡ k = cc in (
            stored_refused v ts (whole_contents_of v ts (placed zs) qs os s) r
                (lt-leb (length (whole_pack_of v ts (placed zs) os s)) (length r.pack)
                (omega (arith, longer_by os s e, room₀, leb-false (length (pack_of v ts os s)) (length r₀.pack) l)))
                ∙ ap (λ (i : ℕ). pack_refused i v ts r) j,
            alone ∙ ap (λ (i : ℕ). pack_refused i v ts r₀) j,
          )

  refused : (k : ℕ) → (pack v xs (shorter v r)).answer ≡ refusal k
      → (pack_whole v xs (placed zs) r ≡ pack_refused k v ts r) × (pack v xs (shorter v r) ≡ pack_refused k v ts (shorter v r))
  refused k e =
      let c = refused_at (chosen_for most ts) refl k (sym (ap (λ (p : PackResult). p.answer) q_is) ∙ e) in
      (p_is ∙ c.0, q_is ∙ c.1)

  module _ (n : ℕ) (e : (pack v xs (shorter v r)).answer ≡ packed n) where
    p : PackedBy most v xs (shorter v r) n
    p = packed_by most v xs (shorter v r) n e

    -- a pack is never empty, so that the shorter buffer is the whole one without the field
    room : n + field_length v ≤ length r.pack
    room =
        omega (
          arith,
          p.long,
          p.fits,
          room₀,
          length_pack (stated_by v ts p.last) (bytes_of (operations_bits p.operations)),
        )

    short : n ≤ most_pack
    short = omega (arith, p.long, short_pack v xs p.operations p.last p.accepted p.chose)

    past : drop n (pack v xs (shorter v r)).buffers.pack ≡ drop n (shorter v r).pack
    past =
        let bytes = pack_of v ts p.operations p.last in
        ap (λ (x : PackResult). drop n x.buffers.pack) p.result
        ∙ drop_at bytes (drop (length bytes) (shorter v r).pack) n (sym p.long)
        ∙ ap (λ (k : ℕ). drop k (shorter v r).pack) (sym p.long)

    packs : Appended v n zs r (pack_whole v xs (placed zs) r) (pack v xs (shorter v r))
    packs = record {
      followed = follows v xs r zs fit r₀.pack n p room;
      numbers = one_to_one v xs (shorter v r) n p;
      short = short;
      room = room;
      past = past;
    }

pub packs_shorter : (v : ℕ) (xs : List ℕ) (zs : List ℤ) (r : PackBuffers) → positions_fit v zs ≡ true → PassesRooms v xs r
    → Shorter v xs zs r (pack_whole v xs (placed zs) r) (pack v xs (shorter v r))
packs_shorter v xs zs r fit rooms = record { refused = refused v xs zs r fit rooms; packs = packs v xs zs r fit rooms }
