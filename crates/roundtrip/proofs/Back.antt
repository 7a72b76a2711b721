-- Claim 3: every accepted pack is the pack of its list.
-- Assumes nothing.
use Prim.Native.Nat.{ℕ, zero, suc, ◌+◌, ◌*◌, ◌≤◌, ◌<◌}
use native.Mathlib.Omega.{arith}
use mathlib.Core.Bool.{true, ◌&&◌}
use mathlib.Core.List.{List, [], ◌∷◌, ◌++◌, append_assoc}
use mathlib.Core.Path.{◌≡◌, refl, sym, ap, ap₂, ◌∙◌, subst}
use lib.ListN.{length, take, drop, get_or, replicate, length-append}
use lib.Seq.{take_at}
use lib.Dec.{eqb, leb, ltb}
use borrow.Author.Tests.{eqb-true, ltb-true, leb-true, le-leb}
use Rattle.rules.specs.declared.Triangle.{Triangle}
use Rattle.rules.specs.declared.Counts.{Counts}
use Rattle.rules.specs.declared.Place.{Place}
use Rattle.rules.specs.declared.Model.{Model}
use Rattle.rules.specs.declared.Operation.{Operation}
use Rattle.rules.specs.Checked.{Accepted}
use Rattle.rules.specs.Triangle.{tri, triangles_of, at_p}
use Rattle.rules.specs.Limits.{max_places}
use Rattle.rules.specs.Fan.{one_fan_each}
use Rattle.rules.specs.Check.{check}
use Rattle.rules.specs.Machine.{Machine, empty, complete, as_stated}
use Rattle.rules.specs.Answer.{unpacked}
use Rattle.rules.specs.Bits.{bits_of_bytes, bytes_of, all_zero}
use Rattle.rules.specs.Code.{operation_bits, operations_bits}
use Rattle.rules.specs.Fields.{pack_bytes}
use Rattle.rules.specs.Pack.{Chosen, stopped, chosen, most, chosen_for, order_for, pack_of, index_of, new_numbers, PackBuffers, PackResult}
use Rattle.rules.specs.Pack.{PackContents, pack_done, pack_chosen, pack_long_enough, order_long_enough, pack}
use Rattle.rules.specs.Buffer.{Buffers}
use Rattle.rules.specs.Unpack.{numbers_of, UnpackResult, unpack}
use Rattle.mesh_theory.proofs.Fans.Accepted.{accepted_mesh}
use Rattle.choice_theory.specs.Works.{Reads, none_read, one_read}
use Rattle.choice_theory.proofs.Runs.Working.{works_stated}
use Rattle.choice_theory.proofs.Runs.Accepted.{accepted_packable}
use Rattle.choice_theory.proofs.Runs.Repacking.{Repacked}
use Rattle.choice_theory.proofs.Runs.RoundBack.{Done, packs_back, checks_back}
use Rattle.choice_theory.proofs.Runs.Running.{Held, held_of, no_loops_lem}
use Rattle.wire_theory.specs.Shape.{Bytes}
use Rattle.wire_theory.specs.Header.{header_of}
use Rattle.wire_theory.proofs.Lists.{Bits, below_rest}
use Rattle.wire_theory.proofs.Bytes.{fill, length_bits_of_bytes, bits_of_bytes_are, bytes_of_bits, bytes_filled}
use Rattle.wire_theory.proofs.Operations.{operation_read, operations_bits_are}
use Rattle.wire_theory.proofs.Fields.{pack_header, PackFound, pack_found}
use Rattle.roundtrip.specs.Claims.{under, Rotated, nth, written, new_number, input_number, LongEnoughFor, PackOf, list_in}
use Rattle.roundtrip.specs.Claims.{EveryAcceptedPackIsThePackOfItsList, NoTwoPacksOfOneList}
use Rattle.roundtrip.proofs.Numbers.{get_d_front, length_new, new_at, index_up}
use Rattle.roundtrip.proofs.Results.{within_checked, stored_done, packed_by, UnpackedBy, unpacked_by}
use Rattle.roundtrip.proofs.Rotated.{turned_back, nth_below, one_place}
use Rattle.roundtrip.proofs.Each.{each_once}
use Rattle.counting.proofs.Bools.{and_true}
use Rattle.mesh_theory.proofs.Chains.Prefix.{length_numbers}
use Rattle.mesh_theory.proofs.Fans.Checks.{accepted_count}

-- a machine that passes 15, 19 and 20 is done
done_by_lem : (m : Machine) → complete m ≡ true → as_stated m ≡ true → one_fan_each m.used m.triangles ≡ true → Done m
done_by_lem m a b f =
    let h = and_true (eqb (length m.triangles) m.stated.triangles) (eqb (length m.loops) 0) a in
    let k = and_true (eqb m.used m.stated.vertices && eqb m.most_places m.stated.places)
    (eqb m.most_loops m.stated.loops) b in
    let l = and_true (eqb m.used m.stated.vertices) (eqb m.most_places m.stated.places) k.0 in
    record {
      all_built = eqb-true _ _ h.0;
      no_loop = no_loops_lem m.loops (eqb-true _ _ h.1);
      vertices = eqb-true _ _ l.0;
      places = eqb-true _ _ l.1;
      loops = eqb-true _ _ k.1;
      fans = f;
    }

-- operations that are read were written
reads_from : {xs ys : List ℕ} {os : List Operation} → Reads xs os ys → Bits xs → xs ≡ operations_bits os ++ ys
unfolding operations_bits
reads_from none_read h = refl
reads_from {xs} {ys} (one_read {ys = zs} {o = o} {os = os} e r) h =
    let w = operation_read o xs zs h e in
    let hz : Bits zs = below_rest 2 (operation_bits o) zs (subst (λ (us : List ℕ). Bits us) w.from h) in
    w.from ∙ (ap (λ (us : List ℕ). operation_bits o ++ us) (reads_from r hz)
    ∙ sym (append_assoc (operation_bits o) (operations_bits os) ys))

all_zeros : (xs : List ℕ) → all_zero xs ≡ true → xs ≡ replicate (length xs) 0
unfolding all_zero
all_zeros [] h = refl
all_zeros (x ∷ xs) h =
    let k = and_true (eqb x 0) (all_zero xs) h in
    ap₂ (λ (y : ℕ) (ys : List ℕ). y ∷ ys) (eqb-true x 0 k.0) (all_zeros xs k.1)

-- the bytes are those of the operations, filled with zero bits
filled_bytes : (ops xs ys : List ℕ) → Bytes ops → Bits xs → bits_of_bytes ops ≡ xs ++ ys → length ys < 8 → all_zero ys ≡ true
    → ops ≡ bytes_of xs
filled_bytes ops xs ys h k e l z =
    let n : length ys ≡ fill (length xs) = omega (arith, ap length e, length-append xs ys, length_bits_of_bytes ops) in
    let f : ys ≡ replicate (fill (length xs)) 0 = all_zeros ys z ∙ ap (λ (i : ℕ). replicate i 0) n in
    sym (bytes_of_bits ops h) ∙ (ap bytes_of (e ∙ ap (λ (us : List ℕ). xs ++ us) f) ∙ bytes_filled xs k)

module _ (bytes : List ℕ) (r : Buffers) (m : Model) (u : UnpackedBy bytes r m) where
  abbrev st : Counts
  st = u.counts

  abbrev end : Machine
  end = u.end

  pub held : Held (empty u.counts) (bits_of_bytes u.ops) u.end u.left
  held = held_of (suc (length (bits_of_bytes u.ops))) (empty st) (bits_of_bytes u.ops) end u.left u.ran

  abbrev os : List Operation
  os = held.operations

  pub done : Done u.end
  done = done_by_lem end held.whole u.stated u.fans

  pub back : Repacked most held.operations u.end
  back = packs_back st os end held.works u.range done

  pub same_counts : u.end.stated ≡ u.counts
  same_counts = works_stated held.works

  pub used_is : u.end.used ≡ m.vertices
  used_is = done.vertices ∙ (ap (λ (k : Counts). k.vertices) same_counts ∙ sym (ap (λ (k : Model). k.vertices) u.model))

  pub triangles_are : length u.end.triangles ≡ m.triangles
  triangles_are = done.all_built ∙ (ap (λ (k : Counts). k.triangles) same_counts ∙ sym (ap (λ (k : Model). k.triangles) u.model))

  pub list_is : list_in m (unpack bytes r) ≡ numbers_of u.end.triangles
  list_is =
      let l = numbers_of end.triangles in
      ap (λ (x : UnpackResult). take (3 * m.triangles) x.buffers.triangles) u.result
      ∙ take_at l (drop (length l) r.triangles) (3 * m.triangles)
      (length_numbers end.triangles ∙ ap (λ (k : ℕ). 3 * k) triangles_are)

  pub checks : check m.vertices (list_in m (unpack bytes r)) ≡ Accepted
  checks =
      subst (λ (l : List ℕ). check m.vertices l ≡ Accepted) (sym list_is)
      (subst (λ (v : ℕ). check v (numbers_of end.triangles) ≡ Accepted) used_is (checks_back st os end held.works u.range done))

  pub count_is : length (triangles_of (list_in m (unpack bytes r))) ≡ m.triangles
  count_is =
      let c = (accepted_count m.vertices (list_in m (unpack bytes r)) checks).0 in
      omega (arith, ap length list_is, length_numbers end.triangles, triangles_are)

  pub chose : chosen_for most (triangles_of (list_in m (unpack bytes r))) ≡ chosen held.operations back.last
  chose = ap (λ (l : List ℕ). chosen_for most (triangles_of l)) list_is ∙ back.packs

-- the bytes
module _ (bytes : List ℕ) (hb : Bytes bytes) (r : Buffers) (m : Model) (u : UnpackedBy bytes r m) where
  found : PackFound bytes u.counts u.ops
  found = pack_found bytes u.counts u.ops hb u.found

  ops_are : u.ops ≡ bytes_of (operations_bits (held bytes r m u).operations)
  ops_are =
      let h : Bytes (header_of u.counts (length u.ops) ++ u.ops) =
      subst (λ (bs : List ℕ). Bytes bs) (found.from ∙ pack_header u.counts u.ops) hb in
      let z = and_true (ltb (length u.left) 8) (all_zero u.left) u.rest in
      filled_bytes u.ops (operations_bits (held bytes r m u).operations) u.left
      (below_rest 256 (header_of u.counts (length u.ops)) u.ops h) (operations_bits_are (held bytes r m u).operations)
      (reads_from (held bytes r m u).reads (bits_of_bytes_are u.ops)) (ltb-true (length u.left) 8 z.0) z.1

  counts_are : record {
    vertices = m.vertices;
    triangles = length (triangles_of (list_in m (unpack bytes r)));
    places =
        (back bytes r m u).last.most_places;
    loops = (back bytes r m u).last.most_loops;
  } ≡ u.counts
  counts_are = λ i. record {
    vertices = ap (λ (k : Model). k.vertices) u.model i;
    triangles = (count_is bytes r m u ∙ ap (λ (k : Model). k.triangles) u.model) i;
    places = ((back bytes r m u).most_places_lem ∙ ((done bytes r m u).places ∙ ap (λ (k : Counts). k.places) (same_counts bytes r m u))) i;
    loops = ((back bytes r m u).most_loops_lem ∙ ((done bytes r m u).loops ∙ ap (λ (k : Counts). k.loops) (same_counts bytes r m u))) i;
  }

  -- its bytes
  pub pack_is : pack_of m.vertices (triangles_of (list_in m (unpack bytes r))) (held bytes r m u).operations (back bytes r m u).last
      ≡ bytes
  pack_is = ap₂ pack_bytes counts_are (sym ops_are) ∙ sym found.from

  -- what a packing of its list writes
  abbrev writes : List ℕ → PackContents
  writes bs = record {
    numbering = new_numbers m.vertices (back bytes r m u).last.numbered;
    pack = bs;
    order = order_for most (triangles_of (list_in m (unpack bytes r)));
  }

  long_enough_lem : LongEnoughFor (length (triangles_of (list_in m (unpack bytes r)))) r
  long_enough_lem =
      let k = and_true (leb (3 * u.counts.triangles) (length r.triangles)) (leb max_places (length {A = Place} r.places))
      u.enough in
      let a = leb-true (3 * u.counts.triangles) (length r.triangles) k.0 in
      (omega (arith, count_is bytes r m u, ap (λ (k : Model). k.triangles) u.model), leb-true _ _ k.1)

  module _ (r' : PackBuffers) (enough : pack_long_enough m.vertices r' ≡ true)
      (ordered : order_long_enough (triangles_of (list_in m (unpack bytes r))) r' ≡ true) (long : length bytes ≤ length r'.pack) where
    -- its packing
    abbrev packing : PackResult
    packing = pack m.vertices (list_in m (unpack bytes r)) r'

    packs : packing ≡ pack_done (writes bytes) r'
    unfolding pack_chosen
    packs =
        let l = list_in m (unpack bytes r) in
        let bs = pack_of m.vertices (triangles_of l) (held bytes r m u).operations (back bytes r m u).last in
        within_checked most m.vertices l r' (checks bytes r m u) enough ordered
        ∙ (ap (pack_chosen m.vertices (triangles_of l) r' (order_for most (triangles_of l))) (chose bytes r m u)
        ∙ (stored_done m.vertices (triangles_of l) (writes bs) r'
        (le-leb (length bs) (length r'.pack) (omega (arith, ap length pack_is)))
        ∙ ap (λ (x : List ℕ). pack_done (writes x) r') pack_is))

    bytes_same : take (length bytes) packing.buffers.pack ≡ bytes
    bytes_same =
        ap (λ (p : PackResult). take (length bytes) p.buffers.pack) packs
        ∙ take_at bytes (drop (length bytes) r'.pack) (length bytes) refl

    numbers_same : (x : ℕ) → x < m.vertices → new_number packing x ≡ x
    numbers_same x h =
        let ns = new_numbers m.vertices (back bytes r m u).last.numbered in
        ap (λ (k : PackResult). get_or k.buffers.numbering x 0) packs
        ∙ (get_d_front ns (drop (length ns) r'.numbering) x (omega (arith, length_new m.vertices (back bytes r m u).last.numbered))
        ∙ (new_at m.vertices x (back bytes r m u).last.numbered h
        ∙ (ap (index_of x) (back bytes r m u).numbers ∙ index_up u.end.used x (omega (arith, used_is bytes r m u)))))

    -- unpacking gives the list itself, so triangle i is the one that the order names there
    order_same : (i : ℕ) → i < m.triangles → input_number packing i ≡ i
    order_same i l =
        let xs = list_in m (unpack bytes r) in
        let v = m.vertices in
        let ts = triangles_of xs in
        let ok = accepted_packable v xs (checks bytes r m u) in
        let one = each_once v xs r' (length bytes) (packed_by most v xs r' (length bytes) (ap (λ (p : PackResult). p.answer) packs)) r
        long_enough_lem in
        let k : i < length ts = omega (arith, count_is bytes r m u) in
        let n = input_number packing i in
        let t = nth ts n in
        let b = nth_below v ts n (one.order.below i k) ok.below in
        let same : under (new_number packing) t ≡ t =
        λ j. tri (numbers_same t.p b.0 j) (numbers_same t.q b.1 j) (numbers_same t.r b.2 j) in
        let list : written (length ts) (unpack (take (length bytes) packing.buffers.pack) r) ≡ ts =
        ap (λ (bs : List ℕ). written (length ts) (unpack bs r)) bytes_same
        ∙ ap (λ (k : ℕ). written k (unpack bytes r)) (count_is bytes r m u) in
        let seen : Rotated (nth ts i) t =
        subst (Rotated (nth ts i)) same
        (subst (λ (us : List Triangle). Rotated (nth us i) (under (new_number packing) t)) list (one.names i k)) in
        one_place ts ok.once n i (one.order.below i k) k (turned_back seen) (at_p refl refl refl)

  pub pack_of_lem : PackOf bytes m (list_in m (unpack bytes r))
  pack_of_lem = record {
    accepted = checks bytes r m u;
    count = count_is bytes r m u;
    packs = λ r' k o l. record {
      same_length = ap (λ (p : PackResult). p.answer) (packs r' k o l);
      same_bytes = bytes_same r' k o l;
      same_numbers = numbers_same r' k o l;
      same_order = order_same r' k o l;
    };
  }

pub every_accepted_pack_is_the_pack_of_its_list : EveryAcceptedPackIsThePackOfItsList
every_accepted_pack_is_the_pack_of_its_list bytes hb r m e = pack_of_lem bytes hb r m (unpacked_by bytes r m e)

-- the pack of a list, as bytes
abbrev bytes_for : ℕ → List ℕ → Chosen → List ℕ
bytes_for v xs (stopped n) = []
bytes_for v xs (chosen os s) = pack_of v (triangles_of xs) os s

bytes_are : (bytes : List ℕ) (hb : Bytes bytes) (r : Buffers) (m : Model) → (unpack bytes r).answer ≡ unpacked m
    → bytes ≡ bytes_for m.vertices (list_in m (unpack bytes r)) (chosen_for most (triangles_of (list_in m (unpack bytes r))))
bytes_are bytes hb r m e =
    let u = unpacked_by bytes r m e in
    sym (pack_is bytes hb r m u) ∙ ap (bytes_for m.vertices (list_in m (unpack bytes r))) (sym (chose bytes r m u))

-- The list settles V. Accepted for v and for w, it uses every number below v (6 for v), and those that it uses are below w (3 for w)
no_more_vertices : (v w : ℕ) (xs : List ℕ) → check v xs ≡ Accepted → check w xs ≡ Accepted → v ≤ w
no_more_vertices zero w xs h k = omega arith
no_more_vertices (suc n) w xs h k =
    let c = ((accepted_mesh (suc n) xs).0 h).2.used n (omega arith) in
    let l = ((accepted_mesh w xs).0 k).2.below n c.0 c.1 c.2 in
    omega (arith, l)

pub same_vertices : (v w : ℕ) (xs : List ℕ) → check v xs ≡ Accepted → check w xs ≡ Accepted → v ≡ w
same_vertices v w xs h k = omega (arith, no_more_vertices v w xs h k, no_more_vertices w v xs k h)

pub no_two_packs_of_one_list : NoTwoPacksOfOneList
no_two_packs_of_one_list bytes bytes' hb hb' r r' m m' e e' l =
    let k = checks bytes r m (unpacked_by bytes r m e) in
    let k' = checks bytes' r' m' (unpacked_by bytes' r' m' e') in
    let v = same_vertices m.vertices m'.vertices (list_in m' (unpack bytes' r'))
    (subst (λ (xs : List ℕ). check m.vertices xs ≡ Accepted) l k) k' in
    bytes_are bytes hb r m e
    ∙ (ap₂ (λ (k : ℕ) (xs : List ℕ). bytes_for k xs (chosen_for most (triangles_of xs))) v l ∙ sym (bytes_are bytes' hb' r' m' e'))
