-- The whole packing of an accepted list: where it begins, and what its end says of the pack of the rules.
-- Assumes nothing.
use Prim.Native.Nat.{ℕ, zero, suc, ◌+◌, ◌-◌, ◌*◌, ◌/◌, ◌≤◌, ◌<◌}
use native.Mathlib.Omega.{arith}
use mathlib.Core.Bool.{Bool, true, false}
use mathlib.Core.List.{List, [], ◌++◌}
use mathlib.Core.Path.{◌≡◌, refl, sym, ap, ap₂, ◌∙◌, subst}
use lib.ListN.{length, drop, replicate, length-replicate, drop_of_length-le}
use lib.Seq.{drop-append_seam}
use lib.Dec.{leb}
use borrow.Author.Tests.{leb-true}
use Rattle.rules.specs.declared.Counts.{Counts}
use Rattle.rules.specs.Packed.{Packed}
use Rattle.rules.specs.Checked as C
use Rattle.rules.specs.Packed as P
use Rattle.rules.specs.declared.Operation.{Operation}
use Rattle.rules.specs.Limits.{max_places, max_triangles}
use Rattle.rules.specs.Triangle.{triangles_of}
use Rattle.rules.specs.Check.{check}
use Rattle.rules.specs.Answer.{packed, packed_answer}
use Rattle.rules.specs.Buffer.{over, zeroed}
use Rattle.rules.specs.Choice.{Packing, has}
use Rattle.rules.specs.Pack.{Chosen, chosen, choose_all, most, nothing_built, enough, chosen_for, order_for, new_numbers, PackResult}
use Rattle.rules.specs.Pack.{pack_refused, PackContents, pack_done, contents_of, pack_chosen}
use Rattle.mesh_theory.proofs.Fans.Checks.{check_accepted, accepted_count}
use Rattle.wire_theory.specs.Header.{header_of}
use Rattle.wire_theory.specs.Buffer.{bytes_for}
use Rattle.choice_theory.proofs.Runs.Whole as whole
use Rattle.choice_theory.proofs.Runs.Whole.{Complete, fits_begin, complete_all}
use Rattle.choice_theory.proofs.Runs.Accepted.{accepted_packable, accepted_packs}
use Rattle.border_theory.specs.Memory.Fresh.{all_free, fresh_front}
use Rattle.border_theory.specs.Memory.Keeps.{Roomy}
use Rattle.border_theory.proofs.Memory.Fresh.{free_length, fresh_keeps}
use Rattle.pack_theory.specs.Choosing.Choosable.{flag_of}
use Rattle.cutborder.specs.declared.Course.{Course}
use Rattle.pack_theory.specs.Packing.Ran.{Ran}
use Rattle.pack_theory.specs.Packing.Ran.{Refused, Ended}
use Rattle.pack_theory.specs.Packing.Numbers.{entries}
use Rattle.pack_theory.specs.Packing.Doing.{stated_for, Standing}
use Rattle.pack_theory.specs.Packing.Course.{Holds, Held}
use Rattle.pack_theory.specs.Packing.Writing.{Writes}
use Rattle.pack_theory.specs.Packing.Steps.{Beyond, Ends, RunOf}
use Rattle.pack_theory.specs.Packing.Finish.{counts_at, answer_if, finish_answer, numbers_if, finish_numbers, pack_if, finish_pack, Sized}
use Rattle.pack_theory.specs.Packing.Lent.{lent, IsResult, Fitting, empty_course, Begins, RunGives}
use Rattle.pack_theory.specs.Packing.Order.{OrderLong, NotedFrom, Lists, ListsOf}
use Rattle.pack_theory.proofs.Packing.Numbers.{entries_length, entries_none, entries_all}
use Rattle.pack_theory.proofs.Packing.Flags.{unbuilt_all}
use Rattle.pack_theory.proofs.Packing.Order.{sets_past, sets_first}
use Rattle.pack_theory.proofs.Packing.Writing.{pack_length, pack_written}
use Rattle.pack_theory.proofs.Packing.Stepping.{holds_beyond}
use Rattle.counting.proofs.Bools.{and_true}
use Rattle.counting.proofs.Ranges.{between_of}

-- ---- the beginning

flags_none : (n i : ℕ) → flag_of (replicate n 0) i ≡ 0
flags_none zero i = refl
flags_none (suc n) zero = refl
flags_none (suc n) (suc i) = flags_none n i

module _ (v : ℕ) (xs : List ℕ) (a : check v xs ≡ C.Accepted) where
  triangles : (3 * length (triangles_of xs) ≡ length xs) × (1 ≤ length (triangles_of xs)) × (length (triangles_of xs) ≤ max_triangles)
  triangles = accepted_count v xs a

  vertices : (3 ≤ v) × (v ≤ 4096)
  vertices =
      let p = ((check_accepted v xs).0 a).range in
      let r = and_true (leb 3 v) (leb v 4096) p in
      (leb-true 3 v r.0, leb-true v 4096 r.1)

  count_is : (k : ℕ) → k ≡ length xs / 3 → k ≡ length (triangles_of xs)
  count_is k ek = omega (arith, ek, triangles.0)

  pub few_counts : (k : ℕ) → k ≡ length xs / 3 → (v ≤ 4096) × (k ≤ 8192)
  few_counts k ek = (vertices.1, omega (arith, count_is k ek, triangles.2))

module _ (v : ℕ) (xs cs ns m : List ℕ) (h : Fitting v xs cs ns m) (k : ℕ) (ek : k ≡ length xs / 3) where
  roomy : Roomy max_places (fresh_front max_places (stated_for v k)) m
  roomy = record { few = omega arith; enough = omega arith; long = omega (arith, h.whole) }

  standing_fresh : Standing v (length (triangles_of xs)) (fresh_front max_places (stated_for v k)) (all_free max_places m max_places) [] 0 0
  standing_fresh =
      let kp = fresh_keeps max_places (stated_for v k) m roomy in
      let t = triangles v xs h.accepted in
      let r = vertices v xs h.accepted in
      record {
        vertices = between_of 3 v 4096 r.0 r.1;
        triangles = between_of 1 (length (triangles_of xs)) max_triangles t.1 t.2;
        stated = ap (stated_for v) (count_is v xs h.accepted k ek);
        built = omega arith;
        whole = free_length max_places m max_places ∙ h.whole;
        stands = kp.stands;
        loops = kp.loops;
        few = omega arith;
        places = refl;
        most = refl;
        few_places = omega arith;
        few_loops = omega arith;
      }

  fresh_holds : Holds v xs (nothing_built most (triangles_of xs)) (empty_course v k) (replicate max_triangles 0)
      (replicate v 65535 ++ drop v ns) (drop v ns) (all_free max_places m max_places)
  fresh_holds = record {
    accepted = h.accepted;
    built = [];
    rims = [];
    fits = fits_begin most (triangles_of xs) (accepted_packable v xs h.accepted).once;
    mesh = refl;
    limit_places_lem = refl;
    limit_loops_lem = refl;
    left = sym (unbuilt_all (replicate max_triangles 0) 0 (triangles_of xs) (flags_none max_triangles));
    lowest = λ i l e. omega (arith, l);
    before = omega arith;
    flags = length-replicate {A = ℕ} max_triangles 0;
    numbers = ap (λ (l : List ℕ). l ++ drop v ns) (sym (entries_none v));
    given = refl;
    few = omega arith;
    count = omega arith;
    standing = standing_fresh;
  }

  -- the entries past the first v
  past_same : drop v (replicate v 65535 ++ drop v ns) ≡ drop v ns
  past_same = subst (λ (i : ℕ). drop i (replicate v 65535 ++ drop v ns) ≡ drop v ns) (length-replicate {A = ℕ} v 65535)
      (drop-append_seam (replicate v 65535) (drop v ns))

  pub begins : (t : Course) → t ≡ empty_course v k → (ns' : List ℕ) → ns' ≡ replicate v 65535 ++ drop v ns → (m' : List ℕ)
      → m' ≡ all_free max_places m max_places → Begins v xs cs t ns' m' × (drop v ns' ≡ drop v ns)
  begins t et ns' en m' em =
      let past : drop v ns' ≡ drop v ns = ap (drop v) en ∙ past_same in
      let H : Course → List ℕ → List ℕ → List ℕ → Type 0 =
      λ t ns rest m. Holds v xs (nothing_built most (triangles_of xs)) t (replicate max_triangles 0) ns rest m in
      let h₁ = subst (λ (x : Course). H x (replicate v 65535 ++ drop v ns) (drop v ns) (all_free max_places m max_places)) (sym et)
      fresh_holds in
      let h₂ = subst (λ (x : List ℕ). H t x (drop v ns) (all_free max_places m max_places)) (sym en) h₁ in
      let h₃ = subst (λ (x : List ℕ). H t ns' (drop v ns) x) (sym em) h₂ in
      (record { linked = h.linked; holds = subst (λ (x : List ℕ). H t ns' x m') (sym past) h₃ }, past)

-- ---- the end

ends_sized : (v : ℕ) (xs : List ℕ) (c : Chosen) (budget : ℕ) (buffer : List ℕ) (end : Ran) (fs ns rest buffer' m : List ℕ)
    → Ends v xs c budget buffer end fs ns rest buffer' m → budget ≤ 32769 → Sized end
ends_sized v xs c budget buffer (Refused k) fs ns rest buffer' m e b = tt
ends_sized v xs c budget buffer (Ended t at) fs ns rest buffer' m e b = (omega (arith, e.writes.position), omega (arith, e.near, b))

pub zeroed_all : (bs bs' : List ℕ) → length bs' ≡ length bs → zeroed (length bs') bs' ≡ zeroed (length bs) bs
zeroed_all bs bs' e =
    ap (λ (l : List ℕ). replicate (length bs') 0 ++ l) (drop_of_length-le bs' {i = length bs'} (omega arith))
    ∙ ap (λ (n : ℕ). replicate n 0 ++ []) e
    ∙ sym (ap (λ (l : List ℕ). replicate (length bs) 0 ++ l) (drop_of_length-le bs {i = length bs} (omega arith)))

zeroed_front : (v : ℕ) (ns ns' rest : List ℕ) → rest ≡ drop v ns → Beyond v ns' rest → zeroed v ns' ≡ zeroed v ns
zeroed_front v ns ns' rest e b = ap (λ (l : List ℕ). replicate v 0 ++ l) (b.past ∙ e)

new_length : (v : ℕ) (vs : List ℕ) → entries v vs ≡ new_numbers v vs → length (new_numbers v vs) ≡ v
new_length v vs e = ap length (sym e) ∙ entries_length v vs

-- every vertex of a complete packing has a number
all_numbered : (v : ℕ) (xs : List ℕ) (os : List Operation) (s : Packing) → check v xs ≡ C.Accepted
    → chosen_for most (triangles_of xs) ≡ chosen os s
    → (x : ℕ) → x < v → has x s.numbered ≡ true
unfolding whole.Ends
all_numbered v xs os s a e x l =
    let c : Complete (nothing_built most (triangles_of xs)) [] [] [] os s =
    subst (whole.Ends (nothing_built most (triangles_of xs)) [] [] []) e (accepted_packs most v xs a) in
    let q = (accepted_packable v xs a).met x l in
    c.fits.numbers.numbered x (q.0, q.1, complete_all most (triangles_of xs) os s c x q.0 q.1 q.2)

-- a result that is another's
meets_as : (p q : PackResult) (r : Packed) (ns bs os : List ℕ) → q ≡ p → IsResult p r ns bs os → IsResult q r ns bs os
meets_as p q r ns bs os e m = subst (λ (x : PackResult). IsResult x r ns bs os) (sym e) m

module _ (v : ℕ) (xs ns bs os : List ℕ) (a : check v xs ≡ C.Accepted) (n : ℕ) where
  result : Chosen → PackResult
  result c = pack_chosen v (triangles_of xs) (lent n ns bs os) (order_for most (triangles_of xs)) c

  -- refused by 9 to 11
  refused : (j : ℕ) (ns' bs' os' : List ℕ) → Beyond v ns' (drop v ns) → length bs' ≡ length bs
      → drop (length (triangles_of xs)) os' ≡ drop (length (triangles_of xs)) os
      → IsResult (pack_refused j v (triangles_of xs) (lent n ns bs os)) (P.Refused j) (zeroed v ns') (zeroed (length bs') bs')
      (zeroed (length (triangles_of xs)) os')
  refused j ns' bs' os' b l o = record {
    answer = refl;
    numbering = zeroed_front v ns ns' (drop v ns) refl b;
    bytes = zeroed_all bs bs' l;
    order = ap (λ (qs : List ℕ). replicate (length (triangles_of xs)) 0 ++ qs) o;
  }

  -- ended, with 11 to be tested
  module _ (room : OrderLong xs os) (ps : List Operation) (s : Packing) (e : chosen_for most (triangles_of xs) ≡ chosen ps s) (t : Course)
      (at : ℕ) (fs ns' bs' os' m' : List ℕ) (h : Holds v xs s t fs ns' (drop v ns) m') (w : Writes ps bs bs' at)
      (o : NotedFrom 0 (order_for most (triangles_of xs)) t.front.built os os') where
    counts : Counts
    counts = record { vertices = v; triangles = length (triangles_of xs); places = s.most_places; loops = s.most_loops }

    same_counts : counts_at v (length (triangles_of xs)) t ≡ counts
    unfolding counts
    same_counts =
        ap₂ (λ (p q : ℕ). record { vertices = v; triangles = length (triangles_of xs); places = p; loops = q }) (sym h.standing.places)
        (sym h.standing.most)

    filled : PackContents
    filled = contents_of v (triangles_of xs) (order_for most (triangles_of xs)) ps s

    long : length filled.pack ≡ bytes_for at
    unfolding filled
    long = pack_length ps bs bs' at _ w

    numbers_are : entries v s.numbered ≡ new_numbers v s.numbered
    numbers_are = entries_all v s.numbered (all_numbered v xs ps s a e)

    -- at most T triangles are noted
    few : length (order_for most (triangles_of xs)) ≤ length (triangles_of xs)
    few = omega (arith, o.count, h.count)

    done : leb (bytes_for at) (length bs') ≡ true
        → IsResult (pack_done filled (lent n ns bs os)) (P.Length (bytes_for at)) ns' (over (header_of counts (bytes_for at - 14)) bs') os'
    unfolding filled counts
    done q = record {
      answer = ap packed (sym long);
      numbering = h.numbers ∙ ap₂ (λ (l : List ℕ) (k : ℕ). l ++ drop k ns) numbers_are (sym (new_length v s.numbered numbers_are));
      bytes = pack_written ps bs bs' at (bytes_for at - 14) counts w (leb-true (bytes_for at) (length bs') q) refl;
      order = o.written ∙ sets_first os (order_for most (triangles_of xs)) (omega (arith, few, room));
    }

    by : (b : Bool) → leb (bytes_for at) (length bs') ≡ b
        → IsResult (result (chosen ps s)) (answer_if b (bytes_for at)) (numbers_if b v ns')
        (pack_if b (counts_at v (length (triangles_of xs)) t) (bytes_for at - 14) bs') (numbers_if b (length (triangles_of xs)) os')
    unfolding result pack_chosen filled
    by b q = subst (λ (c : Counts). IsResult (result (chosen ps s)) (answer_if b (bytes_for at)) (numbers_if b v ns')
        (pack_if b c (bytes_for at - 14) bs') (numbers_if b (length (triangles_of xs)) os')) (sym same_counts) (go b q)
      where
        stored : leb (length filled.pack) (length bs) ≡ leb (bytes_for at) (length bs')
        stored = ap₂ leb long (sym w.lengths)

        comes : (d : Bool) → leb (bytes_for at) (length bs') ≡ d
            → result (chosen ps s)
            ≡ elim d [ true ↦ pack_done filled (lent n ns bs os) | false ↦ pack_refused 11 v (triangles_of xs) (lent n ns bs os) ]
        comes d z = ap (λ (x : Bool). elim x
            [ true ↦ pack_done filled (lent n ns bs os) | false ↦ pack_refused 11 v (triangles_of xs) (lent n ns bs os) ]) (stored ∙ z)

        go : (d : Bool) → leb (bytes_for at) (length bs') ≡ d
            → IsResult (result (chosen ps s)) (answer_if d (bytes_for at)) (numbers_if d v ns') (pack_if d counts (bytes_for at - 14) bs')
            (numbers_if d (length (triangles_of xs)) os')
        go true z = meets_as _ _ _ _ _ _ (comes true z) (done z)
        go false z =
            meets_as _ _ _ _ _ _ (comes false z)
            (refused 11 ns' bs' os' (holds_beyond v xs s t fs ns' (drop v ns) m' h) w.lengths
            (ap (drop (length (triangles_of xs))) o.written
            ∙ sets_past (length (triangles_of xs)) os 0 (order_for most (triangles_of xs)) (omega (arith, few))))

  -- what the end of the run says
  ending : OrderLong xs os → (t₀ : Course) → t₀.front.built ≡ 0 → (end : Ran) (budget : ℕ) (fs ns' bs' os' m' : List ℕ)
      → Ends v xs (chosen_for most (triangles_of xs)) budget bs end fs ns' (drop v ns) bs' m'
      → Lists (length (triangles_of xs)) (enough (triangles_of xs)) (nothing_built most (triangles_of xs)) t₀ end os os'
      → length bs' ≡ length bs
      → IsResult (result (chosen_for most (triangles_of xs))) (finish_answer end (length bs')) (finish_numbers end v (length bs') ns')
      (finish_pack end v (length (triangles_of xs)) bs') (finish_numbers end (length (triangles_of xs)) (length bs') os')
  unfolding result pack_chosen
  ending room t₀ z (Refused j) budget fs ns' bs' os' m' (q, b) o l = meets_as _ _ _ _ _ _ (ap result q) (refused j ns' bs' os' b l o)
  ending room t₀ z (Ended t at) budget fs ns' bs' os' m' e o l =
      meets_as _ _ _ _ _ _ (ap result e.ran)
      (by room e.operations e.last e.ran t at fs ns' bs' os' m' e.holds e.writes
      (subst (λ (k : ℕ). NotedFrom k (order_for most (triangles_of xs)) t.front.built os os') z o) (leb (bytes_for at) (length bs')) refl)

-- ---- the run and its end, as the code has them

module _ (v : ℕ) (xs cs : List ℕ) (t : Course) (ns m : List ℕ) (h : Begins v xs cs t ns m) (k : ℕ) (ek : k ≡ length xs / 3) where
  pub begin_few : (v ≤ 4096) × (k ≤ 8192)
  begin_few = few_counts v xs h.holds.accepted k ek

  pub begin_held : Held xs cs t (replicate max_triangles 0) ns m
  begin_held = record {
    linked = h.linked;
    vertices = v;
    packing = nothing_built most (triangles_of xs);
    rest = drop v ns;
    holds = h.holds;
  }

  module _ (bs : List ℕ) (end : Ran) (fs' ns' bs' m' : List ℕ)
      (run : RunOf xs (4 * k + 1) t (replicate max_triangles 0) ns bs m end fs' ns' bs' m') where
    is : k ≡ length (triangles_of xs)
    is = count_is v xs h.holds.accepted k ek

    ends : Ends v xs (chosen_for most (triangles_of xs)) (4 * k + 1) bs end fs' ns' (drop v ns) bs' m'
    ends =
        subst (λ (i : ℕ). Ends v xs (choose_all (4 * i + 1) (nothing_built most (triangles_of xs))) (4 * k + 1) bs end fs' ns' (drop v ns)
        bs'
        m') is
        (run v (nothing_built most (triangles_of xs)) (drop v ns) h.holds)

    pub run_sized : Sized end
    run_sized = ends_sized v xs (chosen_for most (triangles_of xs)) (4 * k + 1) bs end fs' ns' (drop v ns) bs' m' ends
        (omega (arith, begin_few.1))

    pub run_enough : v ≤ length ns'
    run_enough = go end ends
      where
        go : (e : Ran) → Ends v xs (chosen_for most (triangles_of xs)) (4 * k + 1) bs e fs' ns' (drop v ns) bs' m' → v ≤ length ns'
        go (Refused j) (q, b) = b.enough
        go (Ended t' at) e = (holds_beyond v xs e.last t' fs' ns' (drop v ns) m' e.holds).enough

    -- of each numbering buffer that has the same entries past the first v
    module _ (os os' : List ℕ) (room : OrderLong xs os) (lists : ListsOf xs (4 * k + 1) t (replicate max_triangles 0) ns m end os os') where
      -- the order is as long as it was
      pub run_order : length os' ≡ length os → k ≤ length os'
      run_order l = omega (arith, is, room, l)

      listed : Lists (length (triangles_of xs)) (enough (triangles_of xs)) (nothing_built most (triangles_of xs)) t end os os'
      listed =
          subst (λ (i : ℕ). Lists (length (triangles_of xs)) (4 * i + 1) (nothing_built most (triangles_of xs)) t end os os') is
          (lists v (nothing_built most (triangles_of xs)) (drop v ns) h.holds)

      pub run_gives : length bs' ≡ length bs → (r : Packed) → r ≡ finish_answer end (length bs') → (ns'' : List ℕ)
          → ns'' ≡ finish_numbers end v (length bs') ns' → (bs'' : List ℕ) → bs'' ≡ finish_pack end v k bs' → (os'' : List ℕ)
          → os'' ≡ finish_numbers end k (length bs') os' → (ns₀ : List ℕ) → drop v ns ≡ drop v ns₀
          → RunGives v xs ns₀ bs os r ns'' bs'' os''
      unfolding result
      run_gives l r er ns'' en bs'' eb os'' eo ns₀ past n =
          let e₀ = subst (λ (rest : List ℕ). Ends v xs (chosen_for most (triangles_of xs)) (4 * k + 1) bs end fs' ns' rest bs' m') past
          ends in
          let g = ending v xs ns₀ bs os h.holds.accepted n room t (omega (arith, h.holds.count)) end (4 * k + 1) fs' ns' bs' os' m'
          e₀ listed l in
          record {
            answer = ap packed_answer er ∙ g.answer;
            numbering = en ∙ g.numbering;
            bytes = eb ∙ ap (λ (i : ℕ). finish_pack end v i bs') is ∙ g.bytes;
            order = eo ∙ ap (λ (i : ℕ). finish_numbers end i (length bs') os') is ∙ g.order;
          }
