-- Claim 2: unpacking the pack of a list gives each of its triangles once, under a numbering that is one to one, and the order names them.
-- Assumes nothing.
use Prim.Native.Nat.{ℕ, ◌*◌, ◌<◌}
use native.Mathlib.Omega.{arith}
use mathlib.Core.Bool.{true}
use mathlib.Core.List.{List, [], ◌∷◌}
use mathlib.Core.Path.{◌≡◌, refl, sym, ap, ◌∙◌, subst}
use mathlib.Core.Logic.{◌⊎◌, inl, inr}
use lib.ListN.{length, take, drop, get_or}
use lib.Seq.{take_at, drop_at}
use Rattle.rules.specs.declared.Triangle.{Triangle}
use Rattle.rules.specs.declared.Operation.{Operation}
use Rattle.rules.specs.Triangle.{triangles_of, In}
use Rattle.rules.specs.Machine.{totals}
use Rattle.rules.specs.Choice.{Packing, has}
use Rattle.rules.specs.Pack.{most, nothing_built, enough, order_for, pack_of, index_of, new_numbers, PackBuffers, PackResult, pack}
use Rattle.rules.specs.Buffer.{Buffers}
use Rattle.rules.specs.Unpack.{numbers_of, UnpackResult, unpack_done, unpack}
use Rattle.mesh_theory.specs.Fans.Corner.{Once}
use Rattle.choice_theory.proofs.Steps.Choosing.{onto}
use Rattle.choice_theory.proofs.Places.Numbering.{Met, index_below}
use Rattle.choice_theory.proofs.Runs.Following.{run_length}
use Rattle.choice_theory.proofs.Runs.Machine.{Facts, facts}
use Rattle.choice_theory.proofs.Runs.Whole.{Complete, complete_all, complete_only}
use Rattle.choice_theory.proofs.Runs.Accepted.{Packable}
use Rattle.choice_theory.proofs.Places.Renaming.{triangles, length_triangles}
use Rattle.choice_theory.proofs.Runs.RoundTrip.{numbered_all, numbers_tell}
use Rattle.choice_theory.proofs.Runs.RoundTrip as T
use Rattle.choice_theory.proofs.Runs.Rechecking.{length_numbers}
use Rattle.choice_theory.proofs.Runs.Repacking.{in_onto, run_onto, numbers_in, triangles_in, numbers_onto, built_order, works_facts}
use Rattle.choice_theory.proofs.Runs.Repacking.{works_order}
use Rattle.roundtrip.specs.Run.{build_order}
use Rattle.roundtrip.specs.Claims.{under, renumbered, Rotated, nth, Rearranged, OneToOne, written, new_number, input_number}
use Rattle.roundtrip.specs.Claims.{LongEnoughFor, EachOnce, EachTriangleOnce}
use Rattle.roundtrip.proofs.Numbers.{get_d_front, length_new, new_at, has_at, index_at}
use Rattle.roundtrip.proofs.Renumber.{named_is_renumbered, renumbered_agree, nth_renumbered, turned_under}
use Rattle.roundtrip.proofs.Order.{HasNumber, Names, names_length, names_at, order_names}
use Rattle.roundtrip.proofs.Rotated.{turned_back, named_once}
use Rattle.roundtrip.proofs.Results.{PackedBy, packed_by}
use Rattle.roundtrip.proofs.Forth.{whole, ok, reached, unpacks_done}

-- the bytes at the front of the pack buffer
pub front_bytes : (v : ℕ) (xs : List ℕ) (r : PackBuffers) (n : ℕ) (p : PackedBy most v xs r n)
    → take n (pack v xs r).buffers.pack ≡ pack_of v (triangles_of xs) p.operations p.last
front_bytes v xs r n p =
    let bytes = pack_of v (triangles_of xs) p.operations p.last in
    ap (λ (x : PackResult). take n x.buffers.pack) p.result ∙ take_at bytes (drop (length bytes) r.pack) n (sym p.long)

named_onto : (f : ℕ → ℕ) (R B : List Triangle) → triangles f (onto R B) ≡ onto (triangles f R) (triangles f B)
named_onto f [] B = refl
named_onto f (t ∷ R) B = named_onto f R (t ∷ B)

module _ (v : ℕ) (xs : List ℕ) (r : PackBuffers) (n : ℕ) (p : PackedBy most v xs r n) where
  abbrev ts : List Triangle
  ts = triangles_of xs

  abbrev os : List Operation
  os = p.operations

  abbrev s : Packing
  s = p.last

  c : Complete (nothing_built most (triangles_of xs)) [] [] [] p.operations p.last
  c = whole v xs os s p.accepted p.chose

  good : Packable v (triangles_of xs)
  good = ok v xs os s p.accepted p.chose

  all : (x y z : ℕ) → In x y z (triangles_of xs) → In x y z c.built
  all = complete_all most ts os s c

  only : (x y z : ℕ) → In x y z c.built → In x y z (triangles_of xs)
  only = complete_only most ts os s c

  met : (x : ℕ) → x < v → Met x c.built
  met x l = let m = good.met x l in (m.0, m.1, all x m.0 m.1 m.2)

  pub numbered : (x : ℕ) → x < v → has x p.last.numbered ≡ true
  numbered x l = c.fits.numbers.numbered x (met x l)

  pub count : length p.last.numbered ≡ v
  count = numbered_all most v ts good os s c

  pub number_is : (x : ℕ) → x < v → new_number (pack v xs r) x ≡ index_of x p.last.numbered
  number_is x l =
      let ns = new_numbers v s.numbered in
      ap (λ (k : PackResult). get_or k.buffers.numbering x 0) p.result
      ∙ (get_d_front ns (drop (length ns) r.numbering) x (omega (arith, length_new v s.numbered)) ∙ new_at v x s.numbered l)

  pub one_to_one : OneToOne v (new_number (pack v xs r))
  one_to_one = record {
    below = λ x l. omega (arith, number_is x l, index_below x s.numbered (numbered x l), count);
    tells = λ x y l k e. numbers_tell most v ts good os s c x y (met x l) (sym (number_is x l) ∙ (e ∙ number_is y k));
    onto = at;
  }
    where
      at : (k : ℕ) → k < v → (x : ℕ) × (x < v) × (new_number (pack v xs r) x ≡ k)
      at k l =
          let x = get_or s.numbered k 0 in
          let b : k < length s.numbered = omega (arith, count) in
          let m = c.fits.numbers.met x (has_at k s.numbered b) in
          let j : x < v = good.below x m.0 m.1 (only x m.0 m.1 m.2) in
          (x, j, number_is x j ∙ index_at k s.numbered c.fits.distinct b)

  run_facts : Facts c.built c.runs.order []
  run_facts = facts c.runs.run (λ x y. inl refl) tt

  in_order_lem : (x y z : ℕ) → In x y z (triangles_of xs) → In x y z c.runs.order
  in_order_lem x y z i = go (in_onto c.runs.order [] x y z (subst (In x y z) (run_onto c.runs.run) (all x y z i)))
    where
      go : In x y z c.runs.order ⊎ In x y z [] → In x y z c.runs.order
      go (inl j) = j
      go (inr j) = elim j [ ]

  -- the run builds in the packer's order
  order_is : c.runs.order ≡ build_order (triangles_of xs)
  order_is =
      sym (built_order c.built c.runs.order (run_onto c.runs.run))
      ∙ built_order c.built (build_order ts) (c.adds (enough ts) (omega (arith, run_length c.runs.run, c.runs.count)))

  rearranged : Rearranged (triangles_of xs) (build_order (triangles_of xs))
  rearranged =
      subst (Rearranged ts) order_is
      (record {
        count = c.runs.count;
        all = λ x y z. (in_order_lem x y z, λ i. only x y z (run_facts.sub_r x y z i));
        once = run_facts.once;
      })

  -- the order
  built_names : Names (triangles_of xs) (order_for most (triangles_of xs)) (build_order (triangles_of xs))
  built_names = order_names (enough ts) (nothing_built most ts) good.once (λ x y z i. i)

  order_length : length (order_for most (triangles_of xs)) ≡ length (triangles_of xs)
  order_length = names_length built_names ∙ rearranged.count

  pub front_order : take (length (triangles_of xs)) (pack v xs r).buffers.order ≡ order_for most (triangles_of xs)
  front_order =
      let qs = order_for most ts in
      ap (λ (x : PackResult). take (length ts) x.buffers.order) p.result
      ∙ take_at qs (drop (length qs) r.order) (length ts) order_length

  pub beyond_order : drop (length (triangles_of xs)) (pack v xs r).buffers.order ≡ drop (length (triangles_of xs)) r.order
  beyond_order =
      let qs = order_for most ts in
      ap (λ (x : PackResult). drop (length ts) x.buffers.order) p.result
      ∙ (drop_at qs (drop (length qs) r.order) (length ts) order_length ∙ ap (λ (k : ℕ). drop k r.order) order_length)

  built_named : (i : ℕ) → i < length (triangles_of xs)
      → HasNumber (triangles_of xs) (input_number (pack v xs r) i) (nth (build_order (triangles_of xs)) i)
  built_named i l =
      let qs = order_for most ts in
      let e : input_number (pack v xs r) i ≡ get_or qs i 0 =
      ap (λ (x : PackResult). get_or x.buffers.order i 0) p.result
      ∙ get_d_front qs (drop (length qs) r.order) i (omega (arith, order_length)) in
      subst (λ (n : ℕ). HasNumber ts n (nth (build_order ts) i)) (sym e) (names_at built_names i (omega (arith, rearranged.count)))

  -- the list that is written
  abbrev named : List Triangle
  named = triangles (T.new_number s) c.runs.order

  numbers_written : numbers_of (reached v xs os s p.accepted p.chose).end.triangles ≡ numbers_in named
  unfolding c numbers_of
  numbers_written =
      ap numbers_of
      ((reached v xs os s p.accepted p.chose).all_built
      ∙ (ap (triangles (T.new_number s)) (run_onto c.runs.run) ∙ named_onto (T.new_number s) c.runs.order []))
      ∙ numbers_onto named []

  named_is : named ≡ renumbered (new_number (pack v xs r)) c.runs.order
  named_is =
      named_is_renumbered (T.new_number s) c.runs.order
      ∙ renumbered_agree (T.new_number s) (new_number (pack v xs r)) c.runs.order
      (λ x y z i. sym (number_is x (good.below x y z (only x y z (run_facts.sub_r x y z i)))))

  module _ (r' : Buffers) (enough : LongEnoughFor (length (triangles_of xs)) r') where
    done : unpack (take n (pack v xs r).buffers.pack) r'
        ≡ unpack_done (T.stated_by v (triangles_of xs) p.last)
        (totals (reached v xs p.operations p.last p.accepted p.chose).end)
        (reached v xs p.operations p.last p.accepted p.chose).end.triangles r'
    done =
        ap (λ (bs : List ℕ). unpack bs r') (front_bytes v xs r n p)
        ∙ unpacks_done v xs os s p.accepted p.chose r' enough.0 enough.1

    list_is : take (3 * length (triangles_of xs)) (unpack (take n (pack v xs r).buffers.pack) r').buffers.triangles
        ≡ numbers_of (reached v xs p.operations p.last p.accepted p.chose).end.triangles
    list_is =
        let l = numbers_of (reached v xs os s p.accepted p.chose).end.triangles in
        ap (λ (u : UnpackResult). take (3 * length ts) u.buffers.triangles) done
        ∙ take_at l (drop (length l) r'.triangles) (3 * length ts)
        (ap length numbers_written
        ∙ (length_numbers named ∙ ap (λ (k : ℕ). 3 * k) (length_triangles (T.new_number s) c.runs.order ∙ c.runs.count)))

    written_is : written (length (triangles_of xs)) (unpack (take n (pack v xs r).buffers.pack) r')
        ≡ renumbered (new_number (pack v xs r)) (build_order (triangles_of xs))
    written_is =
        ap triangles_of (list_is ∙ numbers_written)
        ∙ (triangles_in named ∙ (named_is ∙ ap (renumbered (new_number (pack v xs r))) order_is))

    names_written : (i : ℕ) → i < length (triangles_of xs)
        → Rotated (nth (written (length (triangles_of xs)) (unpack (take n (pack v xs r).buffers.pack) r')) i)
        (under (new_number (pack v xs r)) (nth (triangles_of xs) (input_number (pack v xs r) i)))
    names_written i l =
        let f = new_number (pack v xs r) in
        let t = nth ts (input_number (pack v xs r) i) in
        subst (λ (u : Triangle). Rotated u (under f t))
        (sym (ap (λ (us : List Triangle). nth us i) written_is ∙ nth_renumbered f (build_order ts) i (omega (arith, rearranged.count))))
        (turned_under f (turned_back (built_named i l).seen))

    pub each_once : EachOnce v (triangles_of xs) (pack v xs r) (unpack (take n (pack v xs r).buffers.pack) r')
    each_once = record {
      totals = totals (reached v xs os s p.accepted p.chose).end;
      accepted = ap (λ (u : UnpackResult). u.answer) done;
      numbering = one_to_one;
      rearranged = rearranged;
      unpacked = written_is;
      once =
          let w = reached v xs os s p.accepted p.chose in
          subst Once (sym (ap triangles_of list_is ∙ works_order (T.stated_by v ts s) os w.end w.works w.no_loop))
          (works_facts (T.stated_by v ts s) os w.end w.works w.no_loop).once;
      order = named_once ts (build_order ts) (input_number (pack v xs r)) good.once rearranged built_named;
      names = names_written;
    }

pub each_triangle_once : EachTriangleOnce
each_triangle_once v xs r n e r' enough = each_once v xs r n (packed_by most v xs r n e) r' enough
