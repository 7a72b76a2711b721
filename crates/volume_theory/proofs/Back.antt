-- Every accepted pack is the pack of its list and its positions.
-- Assumes nothing.
use Prim.Native.Nat.{ℕ, zero, suc, ◌+◌, ◌*◌, ◌/◌, ◌%◌, ◌≤◌, ◌<◌}
use native.Mathlib.Omega.{arith}
use mathlib.Core.Bool.{true}
use mathlib.Core.List.{List, ◌++◌, append-nil}
use mathlib.Core.Path.{◌≡◌, refl, sym, ap, ap₂, ◌∙◌, subst}
use lib.Dec.{eqb}
use lib.IntN.{ℤ, pos}
use lib.ListN.{length, take, drop, get_or, length-append}
use lib.Seq.{take_at, ext_get_or}
use borrow.Author.Tests.{eq-eqb, eqb-true}
use Rattle.rules.specs.Answer.{packed}
use Rattle.rules.specs.Fields.{field_of}
use Rattle.rules.specs.Pack.{PackBuffers, pack}
use Rattle.rules.specs.Unpack.{UnpackResult}
use Rattle.rules.specs.Grid.{all_in_grid, position_bytes, positions_from}
use Rattle.rules.specs.declared.Point.{Point}
use Rattle.rules.specs.Volume.{point_at}
use Rattle.rules.specs.Later.{positions_tag, Given, not_given, given, Parts, parts_of}
use Rattle.rules.specs.PackWhole.{extras, positions_fit, pack_whole}
use Rattle.rules.specs.UnpackWhole.{field_fits, unpack_whole}
use Rattle.rules.specs.Reading.{positions_in}
use Rattle.counting.proofs.Bools.{and_left, and_right, and_both}
use Rattle.wire_theory.specs.Shape.{Bytes}
use Rattle.wire_theory.specs.Later.{later_bytes}
use Rattle.wire_theory.proofs.Lists.{below_front, below_rest}
use Rattle.wire_theory.proofs.Later.{parts_found}
use Rattle.wire_theory.proofs.Positions.{length_from}
use Rattle.roundtrip.specs.Claims.{Gives, PackOf, list_in}
use Rattle.roundtrip.proofs.Back.{every_accepted_pack_is_the_pack_of_its_list}
use Rattle.volume_theory.specs.Whole.{field_length, Followed, positions_given, WholePackOf}
use Rattle.volume_theory.specs.Whole.{EveryAcceptedPackIsThePackOfItsListAndPositions}
use Rattle.volume_theory.proofs.Beside.{placed, given_neither_packs_the_list, positions_follow_the_pack}
use Rattle.volume_theory.proofs.Whole.{Accepts, accepts, field_again}

-- lists of positions with the same points
same_points : (v : ℕ) (ys zs : List ℤ) → length ys ≡ 3 * v → length zs ≡ 3 * v
    → ((x : ℕ) → x < v → point_at ys x ≡ point_at zs x) → ys ≡ zs
same_points v ys zs l k h = ext_get_or (pos 0) ys zs (l ∙ sym k) (λ i b. at i (omega arith))
  where
    at : (i : ℕ) → i < 3 * v → get_or ys i (pos 0) ≡ get_or zs i (pos 0)
    at i b = by (i % 3) refl
      where
        read : {j : ℕ} → j ≡ i → get_or ys j (pos 0) ≡ get_or zs j (pos 0) → get_or ys i (pos 0) ≡ get_or zs i (pos 0)
        read e q = subst (λ (j : ℕ). get_or ys j (pos 0) ≡ get_or zs j (pos 0)) e q

        by : (j : ℕ) → i % 3 ≡ j → get_or ys i (pos 0) ≡ get_or zs i (pos 0)
        by zero e = read {j = 3 * (i / 3)} (omega arith) (ap (λ (p : Point). p.x) (h (i / 3) (omega arith)))
        by (suc zero) e = read {j = 3 * (i / 3) + 1} (omega arith) (ap (λ (p : Point). p.y) (h (i / 3) (omega arith)))
        by (suc (suc zero)) e = read {j = 3 * (i / 3) + 2} (omega arith) (ap (λ (p : Point). p.z) (h (i / 3) (omega arith)))
        by (suc (suc (suc j))) e = absurd (omega arith)

module _ (v n : ℕ) (xs two bs : List ℕ) (r : PackBuffers) (hb : Bytes bs) (fits : field_fits v (given bs) ≡ true)
    (base : Gives two v n (pack v xs r)) (long : length (two ++ field_of positions_tag bs) ≤ length r.pack) where
  abbrev zs : List ℤ
  zs = positions_from bs

  six : length bs ≡ 6 * v
  six = eqb-true (length bs) (6 * v) (and_left (eqb (length bs) (6 * v)) (all_in_grid (positions_from bs)) fits)

  three : length (positions_from bs) ≡ 3 * v
  three = length_from bs (3 * v) (omega (arith, six))

  fit : positions_fit v (positions_from bs) ≡ true
  fit =
      and_both (eqb (length zs) (3 * v)) (all_in_grid zs) (eq-eqb (length zs) (3 * v) three)
      (and_right (eqb (length bs) (6 * v)) (all_in_grid (positions_from bs)) fits)

  whole_long : length (two ++ field_of positions_tag bs) ≡ length two + field_length v
  whole_long = length-append two (field_of positions_tag bs) ∙ omega (arith, six)

  followed : Followed v (length two) zs r (pack_whole v xs (placed zs) r) (pack v xs r)
  followed = (positions_follow_the_pack v xs zs r).follows fit (length two) base.same_length (omega (arith, long, whole_long))

  same_positions : followed.positions ≡ zs
  same_positions =
      same_points v followed.positions zs followed.count three
      (λ x l. ap (point_at followed.positions) (sym (base.same_numbers x l)) ∙ followed.points x l)

  same_whole : take (length two) (pack v xs r).buffers.pack ++ field_of positions_tag (position_bytes followed.positions)
      ≡ two ++ field_of positions_tag bs
  same_whole =
      ap₂ (λ (us vs : List ℕ). us ++ field_of positions_tag vs) base.same_bytes
      (ap position_bytes same_positions ∙ field_again v bs hb fits)

  gives : Gives (two ++ field_of positions_tag bs) v n (pack_whole v xs (placed zs) r)
  gives = record {
    same_length = followed.answer ∙ ap packed (sym whole_long);
    same_bytes =
        ap (take (length (two ++ field_of positions_tag bs)))
        (followed.bytes ∙ ap (λ (us : List ℕ). us ++ drop (length us) r.pack) same_whole)
        ∙ take_at (two ++ field_of positions_tag bs) (drop (length (two ++ field_of positions_tag bs)) r.pack)
        (length (two ++ field_of positions_tag bs)) refl;
    same_numbers = λ x l. ap (λ (ns : List ℕ). get_or ns x 0) followed.numbering ∙ base.same_numbers x l;
    same_order = λ i l. ap (λ (qs : List ℕ). get_or qs i 0) followed.order ∙ base.same_order i l;
  }

pub every_accepted_pack_is_the_pack_of_its_list_and_positions : EveryAcceptedPackIsThePackOfItsListAndPositions
every_accepted_pack_is_the_pack_of_its_list_and_positions bytes hb r m e =
    go a.field a.fits f (below_rest 256 a.two (later_bytes a.field) h) g
  where
    a : Accepts bytes r m
    a = accepts bytes r m e

    f : bytes ≡ a.two ++ later_bytes a.field
    f = (parts_found bytes a.two a.field hb a.found).from

    h : Bytes (a.two ++ later_bytes a.field)
    h = subst Bytes f hb

    base : PackOf a.two m (list_in m (unpack_whole bytes r))
    base =
        subst (λ (u : UnpackResult). PackOf a.two m (list_in m u)) (sym a.same)
        (every_accepted_pack_is_the_pack_of_its_list a.two (below_front 256 a.two (later_bytes a.field) h) r m a.accepted)

    g : positions_given (positions_in (parts_of bytes)) ≡ positions_given a.field
    g = ap (λ (p : Parts). positions_given (positions_in p)) a.found

    go : (x : Given (List ℕ)) → field_fits m.vertices x ≡ true → bytes ≡ a.two ++ later_bytes x → Bytes (later_bytes x)
        → positions_given (positions_in (parts_of bytes)) ≡ positions_given x
        → WholePackOf bytes m (list_in m (unpack_whole bytes r)) (extras (positions_given (positions_in (parts_of bytes))) not_given)
    go not_given t b c d =
        subst (λ (y : Given (List ℤ)). WholePackOf bytes m (list_in m (unpack_whole bytes r)) (extras y not_given)) (sym d)
        (record {
          accepted = base.accepted;
          count = base.count;
          packs =
              λ r' k o l. let q : bytes ≡ a.two = b ∙ append-nil a.two in
              let xs = list_in m (unpack_whole bytes r) in
              subst (Gives bytes m.vertices m.triangles) (sym (given_neither_packs_the_list m.vertices xs r'))
              (subst (λ (us : List ℕ). Gives us m.vertices m.triangles (pack m.vertices xs r')) (sym q)
              (base.packs r' k o (omega (arith, l, ap length q))));
        })
    go (given bs) t b c d =
        subst (λ (y : Given (List ℤ)). WholePackOf bytes m (list_in m (unpack_whole bytes r)) (extras y not_given)) (sym d)
        (record {
          accepted = base.accepted;
          count = base.count;
          packs =
              λ r' k o l. let q = ap length b ∙ length-append a.two (field_of positions_tag bs) in
              subst
              (λ (us : List ℕ). Gives us m.vertices m.triangles
              (pack_whole m.vertices (list_in m (unpack_whole bytes r)) (placed (positions_from bs)) r')) (sym b)
              (gives m.vertices m.triangles (list_in m (unpack_whole bytes r)) a.two bs r' c.1.1.1 t
              (base.packs r' k o (omega (arith, l, q))) (omega (arith, l, ap length b)));
        })
