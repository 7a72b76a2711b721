-- A step at a live loop: what the packer takes is what is chosen, and what it comes to is the packing after it.
-- Assumes nothing.
use Prim.Native.Nat.{ℕ, ◌+◌, ◌*◌, ◌≤◌, ◌<◌}
use native.Mathlib.Omega.{arith}
use mathlib.Core.Bool.{Bool, true, false, not, false≢true}
use mathlib.Core.List.{List, [], ◌∷◌, ◌++◌}
use mathlib.Core.Path.{◌≡◌, refl, sym, ap, ap₂, ◌∙◌, subst}
use mathlib.Core.Logic.{◌⊎◌, inl, inr}
use lib.ListN.{length, get_or, set, length-set, length-append}
use lib.Seq.{get_or-set_same, get_or-set_other}
use lib.Dec.{eqb}
use borrow.Author.Tests.{eqb-true, eqb-false, eq-eqb, ne_eqb}
use Rattle.rules.specs.declared.Triangle.{Triangle}
use Rattle.rules.specs.Across.{Across}
use Rattle.rules.specs.Across.{Found, Nothing}
use Rattle.rules.specs.declared.Operation.{Operation}
use Rattle.rules.specs.declared.Operation.TheVariants.{New, Border}
use Rattle.rules.specs.Limits.{max_places, max_triangles}
use Rattle.rules.specs.Triangle.{edge, triangles_of, In}
use Rattle.rules.specs.Across.{across}
use Rattle.rules.specs.Ring.{Node, Ring, vertex, is_open, reached, places}
use Rattle.rules.specs.Table.{at_edge, effect}
use Rattle.rules.specs.Choice.{Packing, has, drop_triangle, choose_place, refuses, packing_after, limited, choose}
use Rattle.rules.specs.Order.{number_found, next_number_in, next_number}
use Rattle.rules.specs.Fan.{Neighbours}
use Rattle.mesh_theory.proofs.Fans.Corners.{in_next}
use Rattle.mesh_theory.proofs.Fans.Checks.{accepted_count}
use Rattle.book.specs.Shown.{shown_all}
use Rattle.book.proofs.Shown.{Live, reached_first}
use Rattle.choice_theory.specs.Spots.{Unused}
use Rattle.choice_theory.specs.Full.{with_ring, new_numbers}
use Rattle.choice_theory.proofs.Steps.Surgery.{triangle_at, after_border}
use Rattle.choice_theory.proofs.Turning.Ways.{others, others_length, Finds, across_some, across_none}
use Rattle.choice_theory.proofs.Steps.Effects as effects
use Rattle.choice_theory.proofs.Places.Standing.{legal_used}
use Rattle.choice_theory.proofs.Steps.Triangle.{Keeps, Packed}
use Rattle.choice_theory.proofs.Turning.Taking.{corners}
use Rattle.choice_theory.proofs.Steps.Bordering.{with_rim, rim_of, border_free}
use Rattle.choice_theory.proofs.Steps.Progress.{AllGood, good_live, Goes, by_start, by_build, by_border, progress}
use Rattle.choice_theory.proofs.Steps.Choosing.{Fits, choose_border, choose_new, choose_old, no_new}
use Rattle.choice_theory.proofs.Places.Numbering.{Met, not_met, numbered_old, numbered_new, index_below}
use Rattle.choice_theory.proofs.Places.Distinct.{distinct_new}
use Rattle.choice_theory.proofs.Turning.Dropping.{drop_others}
use Rattle.choice_theory.proofs.Runs.Accepted.{Packable, accepted_packable}
use Rattle.choice_theory.proofs.Runs.Following.{limited_takes}
use Rattle.border_theory.specs.Memory.Stands.{rings_in, loops_in}
use Rattle.pack_theory.specs.Choosing.Choosable.{flag_of, unbuilt, unbuilt_of}
use Rattle.cutborder.specs.declared.Course.{Course}
use Rattle.cutborder.specs.declared.Move.{Move}
use Rattle.pack_theory.specs.Packing.Done.{Done}
use Rattle.pack_theory.specs.Packing.Done.{Going, Refused}
use Rattle.pack_theory.specs.Packing.Numbers.{unnumbered, entries}
use Rattle.pack_theory.specs.Packing.Doing.{readied, done_of, memory_of}
use Rattle.pack_theory.specs.Packing.Course.{Holds, start_of, end_of, is_numbered, placed_by, flags_by, move_by, move_of, flags_of}
use Rattle.pack_theory.specs.Packing.Course.{given_by}
use Rattle.pack_theory.specs.Packing.Course.{numbers_by}
use Rattle.pack_theory.specs.Packing.Steps.{StepsTo}
use Rattle.pack_theory.proofs.Packing.Numbers.{entry_read, entry_none, entry_some, number_stored}
use Rattle.pack_theory.proofs.Packing.Flags.{flag_drops, found_below}
use Rattle.pack_theory.proofs.Packing.Doing.{Outcome, standing_places, built_outcome, border_outcome}
use Rattle.pack_theory.proofs.Packing.Growing.{Grows, surgery_grows, border_shrinks, limited_refuses}
use Rattle.pack_theory.proofs.Packing.Reading.{EdgeRead, edge_read, none_live}

-- the packing after the vertex c gets the next number, or not
abbrev pub numbered_by : Bool → ℕ → List ℕ → List ℕ
numbered_by true c vs = vs ++ (c ∷ [])
numbered_by false c vs = vs

-- what an operation that was done says of the packer's step
abbrev pub Lives : ℕ → List ℕ → Packing → Course → Move → Done → List ℕ → List ℕ → List ℕ → List ℕ → Type 0
Lives v xs s t mv (Refused k) fs' ns' rest m' = choose s ≡ refuses k
Lives v xs s t mv (Going f') fs' ns' rest m' =
    StepsTo v xs (choose s) mv.operation (record { front = f'; given = given_by mv.fresh t.given; lowest = t.lowest }) fs' ns' rest
    m'

module _ (v : ℕ) (xs : List ℕ) (s : Packing) (t : Course) (fs ns rest m : List ℕ) (h : Holds v xs s t fs ns rest m) where
  packable : Packable v (triangles_of xs)
  packable = accepted_packable v xs h.accepted

  fan : (c : ℕ) → Neighbours s.mesh c
  fan c = subst (λ (M : List Triangle). Neighbours M c) (sym h.mesh) (packable.fans c)

  triangles : (3 * length (triangles_of xs) ≡ length xs) × (1 ≤ length (triangles_of xs)) × (length (triangles_of xs) ≤ max_triangles)
  triangles = accepted_count v xs h.accepted

  pub numbers_few : length s.numbered ≤ 24576
  numbers_few = omega (arith, h.few, triangles.2)

  -- the buffer after the vertex c gets the next number, or not
  numbers_next : (fresh : Bool) (c : ℕ) → (fresh ≡ true → (c < v) × (has c s.numbered ≡ false))
      → (numbers_by fresh ns c t.given ≡ entries v (numbered_by fresh c s.numbered) ++ rest)
      × (given_by fresh t.given ≡ length (numbered_by fresh c s.numbered))
  numbers_next true c k = (
    number_stored v s.numbered rest ns c t.given h.numbers (k refl).0 (k refl).1 h.given,
    omega
        (arith, h.given, length-append s.numbered (c ∷ [])),
  )
  numbers_next false c k = (h.numbers, h.given)

  -- what is taken, and what it comes to
  module _ (o : Operation) (c : ℕ) (fresh : Bool) (i : ℕ) (ls : List Ring) (fs' : List ℕ) (B : List Triangle) (rims : List Ring)
      (chooses : choose s ≡ limited o (packing_after s (unbuilt_of fs' xs) (numbered_by fresh c s.numbered) ls))
      (fits : Fits (packing_after s (unbuilt_of fs' xs) (numbered_by fresh c s.numbered) ls) B rims)
      (grows : Grows s.loops ls) (fewer : i + length (unbuilt_of fs' xs) ≡ length s.left)
      (few : length (numbered_by fresh c s.numbered) + 3 * length (unbuilt_of fs' xs) ≤ length s.numbered + 3 * length s.left)
      (long : length fs' ≡ length fs) (more : (j : ℕ) → flag_of fs' j ≡ 0 → flag_of fs j ≡ 0)
      (gets : fresh ≡ true → (c < v) × (has c s.numbered ≡ false)) where
    after : Packing
    after = packing_after s (unbuilt_of fs' xs) (numbered_by fresh c s.numbered) ls

    pub lives : (d : Done) (m' : List ℕ) → Outcome v (length (triangles_of xs)) t.front ls s.most_places s.most_loops i d m'
        → Lives v xs s t (record { operation = o; vertex = c; fresh = fresh }) d fs' (numbers_by fresh ns c t.given) rest m'
    unfolding after
    lives (Refused j) m' (q, x) =
        chooses
        ∙ limited_refuses o after s.loops t.front.loops.free h.limit_places_lem h.limit_loops_lem
        (standing_places v (length (triangles_of xs)) t.front m s.loops s.most_places s.most_loops h.standing)
        h.standing.few grows x
        ∙ ap refuses (sym q)
    lives (Going f') m' (st, n) =
        let p : t.front.loops.free + places s.loops ≡ max_places =
        standing_places v (length (triangles_of xs)) t.front m s.loops s.most_places s.most_loops h.standing in
        let p' = standing_places v (length (triangles_of xs)) f' m' ls _ _ st in
        let z = numbers_next fresh c gets in
        record {
          after = after;
          goes = chooses ∙ limited_takes o after (omega (arith, p', h.limit_places_lem)) (omega (arith, st.few, h.limit_loops_lem));
          holds =
              record {
                accepted = h.accepted;
                built = B;
                rims = rims;
                fits = fits;
                mesh = h.mesh;
                limit_places_lem = h.limit_places_lem;
                limit_loops_lem = h.limit_loops_lem;
                left = refl;
                lowest = λ j k e. h.lowest j k (more j e);
                before = h.before;
                flags = long ∙ h.flags;
                numbers = z.0;
                given = z.1;
                few = omega (arith, few, h.few);
                count = omega (arith, n, fewer, h.count);
                standing = st;
              };
        }

  -- the conclusion, for what is taken and the flags then
  abbrev pub Concludes : Move → List ℕ → Type 0
  Concludes mv fs' =
      Lives v xs s t mv (done_of (readied t.front mv.vertex) m mv.operation) fs' (numbers_by mv.fresh ns mv.vertex t.given)
      rest
      (memory_of (readied t.front mv.vertex) m mv.operation)

  concludes_as : (mv mv' : Move) (fs' fs'' : List ℕ) → mv' ≡ mv → fs'' ≡ fs' → Concludes mv fs' → Concludes mv' fs''
  concludes_as mv mv' fs' fs'' e f c = subst (λ (w : Move). Concludes w fs'') (sym e) (subst (Concludes mv) (sym f) c)

  -- the current edge and the triangle across it
  module _ (e f : Node) (ps : List Node) (ws : List Ring) (sh : h.fits.full ≡ (e ∷ (f ∷ ps)) ∷ ws) where
    -- the packing's loops
    first : shown_all ((e ∷ (f ∷ ps)) ∷ ws) ≡ (e ∷ (f ∷ reached ps (not (is_open f)))) ∷ shown_all ws
    first = ap (λ (r : List Node). (e ∷ r) ∷ shown_all ws) (reached_first f ps)

    shows : s.loops ≡ shown_all ((e ∷ (f ∷ ps)) ∷ ws)
    shows = h.fits.shows ∙ ap shown_all sh

    looks : s.loops ≡ (e ∷ (f ∷ reached ps (not (is_open f)))) ∷ shown_all ws
    looks = shows ∙ first

    opens : Live ((e ∷ (f ∷ ps)) ∷ ws)
    opens = good_live ((e ∷ (f ∷ ps)) ∷ ws) (subst AllGood sh h.fits.good)

    read : EdgeRead max_places t.front.loops m e f (reached ps (not (is_open f))) (shown_all ws)
    read =
        edge_read max_places t.front.loops m (rings_in max_places t.front.loops m) h.standing.stands e f
        (reached ps (not (is_open f))) (shown_all ws)
        (sym h.standing.loops ∙ looks)

    across_as : (r : Across) → across (vertex f) (vertex e) s.mesh ≡ r
        → across (end_of t.front.loops m) (start_of t.front.loops m) (triangles_of xs) ≡ r
    across_as r q =
        ap₂ (λ (x y : ℕ). across x y (triangles_of xs)) read.end read.start ∙ ap (across (vertex f) (vertex e)) (sym h.mesh) ∙ q

    move_as : (r : Across) → across (vertex f) (vertex e) s.mesh ≡ r
        → move_of xs fs ns m t.front.loops ≡ move_by xs fs ns m t.front.loops r
    unfolding move_of
    move_as r q = ap (move_by xs fs ns m t.front.loops) (across_as r q)

    flags_as : (r : Across) → across (vertex f) (vertex e) s.mesh ≡ r → flags_of xs fs m t.front.loops ≡ flags_by fs r
    unfolding flags_of
    flags_as r q = ap (flags_by fs) (across_as r q)

    before : Keeps s.mesh s.left h.built ((e ∷ (f ∷ ps)) ∷ ws) h.rims
    before = subst (λ (ls : List Ring). Keeps s.mesh s.left h.built ls h.rims) sh h.fits.keeps

    -- border
    at_border : Unused (vertex f) (vertex e) s.left
        → Keeps s.mesh s.left h.built (with_ring (after_border e f ps) ws) (with_rim (after_border e f ps) (rim_of e f ps) h.rims)
        → AllGood (with_ring (after_border e f ps) ws) → (t.front.loops.live ≡ 0 → ⊥)
        → Concludes (move_of xs fs ns m t.front.loops) (flags_of xs fs m t.front.loops)
    unfolding effect
    at_border u k gd live =
        let none : across (vertex f) (vertex e) s.mesh ≡ Nothing =
        across_none (vertex f) (vertex e) s.mesh (border_free s.mesh s.left h.built e f ps ws h.rims before u) in
        let full = with_ring (after_border e f ps) ws in
        let ls = shown_all full in
        let mk = effects.border_marks 0 e f ps ws in
        let mk1 = ap (λ (r : List Node). at_edge Border 0 (vertex e) r (shown_all ws)) (sym (reached_first f ps)) ∙ mk.1 in
        let ch : choose s ≡ limited Border (packing_after s s.left s.numbered ls) =
        choose_border s e f (reached ps (not (is_open f))) (shown_all ws) ls (edge (vertex e) (vertex f)) mk.0 looks none mk1 in
        concludes_as (move_by xs fs ns m t.front.loops Nothing) _ fs _ (move_as Nothing none) (flags_as Nothing none)
        (lives Border 0 false 0 ls fs h.built (with_rim (after_border e f ps) (rim_of e f ps) h.rims)
        (ch ∙ ap (λ (R : List Triangle). limited Border (packing_after s R s.numbered ls)) h.left)
        (record {
          full = full;
          shows = refl;
          keeps = subst (λ (R : List Triangle). Keeps s.mesh R h.built full (with_rim (after_border e f ps) (rim_of e f ps) h.rims))
              h.left k;
          good = gd;
          numbers = h.fits.numbers;
          distinct = h.fits.distinct;
        })
        (inl (subst (λ (l : List Ring). (places ls ≤ places l) × (length ls ≤ length l)) (sym shows) (border_shrinks e f ps ws)))
        (omega (arith, ap length h.left)) (omega (arith, ap length h.left)) refl (λ j z. z) (λ z. absurd (false≢true z))
        (done_of (readied t.front 0) m Border) (memory_of (readied t.front 0) m Border)
        (border_outcome v (length (triangles_of xs)) t.front m s.loops s.most_places s.most_loops h.standing live ls
        (edge (vertex e) (vertex f)) mk.0
        (ap (effect Border 0) shows ∙ mk.1)))

    -- a triangle that is left
    module _ (c : ℕ) (i : In (vertex f) (vertex e) c s.left) (p : Packed s.mesh (others i) h.built e f ps ws h.rims c)
        (gd : AllGood p.ls) where
      found : Finds (vertex f) (vertex e) c s.mesh
      found = across_some (vertex f) (vertex e) c s.mesh h.fits.keeps.once_m (h.fits.keeps.sub_r _ _ _ i)

      below : c < v
      below = packable.below c (vertex f) (vertex e)
          (in_next (in_next (subst (In (vertex f) (vertex e) c) h.mesh (h.fits.keeps.sub_r _ _ _ i))))

      number : ℕ
      number = found.number

      flagged : List ℕ
      flagged = set fs number 1

      near : number < length (triangles_of xs)
      unfolding number
      near = subst (λ (M : List Triangle). found.number < length M) h.mesh
          (found_below (vertex f) (vertex e) s.mesh found.number found.corner c found.found)

      dropped : drop_triangle (vertex f) (vertex e) s.left ≡ unbuilt_of flagged xs
      unfolding flagged number
      dropped =
          let z : 0 + found.number ≡ found.number = omega arith in
          let fd : across (vertex f) (vertex e) (triangles_of xs) ≡ Found found.number found.corner c =
          ap (across (vertex f) (vertex e)) (sym h.mesh) ∙ found.found in
          ap (drop_triangle (vertex f) (vertex e)) h.left
          ∙ sym
          (subst (λ (k : ℕ). unbuilt (set fs k 1) 0 (triangles_of xs) ≡ drop_triangle (vertex f) (vertex e) (unbuilt_of fs xs)) z
          (flag_drops (vertex f) (vertex e) fs 0 (triangles_of xs) found.number found.corner c packable.once fd
          (omega (arith, h.flags, triangles.2))))

      same_left : others i ≡ unbuilt_of flagged xs
      same_left = sym (drop_others (vertex f) (vertex e) c s.left i h.fits.keeps.once) ∙ dropped

      -- what is left is fewer by one
      less : 1 + length (unbuilt_of flagged xs) ≡ length s.left
      less = omega (arith, others_length i, ap length same_left)

      does : at_edge p.o c (vertex e) (f ∷ reached ps (not (is_open f))) (shown_all ws) ≡ effects.built p.o e f (shown_all p.ls) c
      does = ap (λ (r : List Node). at_edge p.o c (vertex e) r (shown_all ws)) (sym (reached_first f ps))
          ∙ effects.allows p.o e f ps ws p.ls c opens.1 p.does

      edge_used : (z : ℕ) × In (vertex e) (vertex f) z h.built
      edge_used = (legal_used h.built ((e ∷ (f ∷ ps)) ∷ ws) h.rims before.legal).0.0.1

      met_e : Met (vertex e) h.built
      met_e = (vertex f, edge_used.0, edge_used.1)

      met_f : Met (vertex f) h.built
      met_f = (edge_used.0, vertex e, in_next edge_used.1)

      kept : Keeps s.mesh (unbuilt_of flagged xs) (triangle_at e f c ∷ h.built) p.ls h.rims
      kept = subst (λ (R : List Triangle). Keeps s.mesh R (triangle_at e f c ∷ h.built) p.ls h.rims) same_left p.keeps

      stays : (j : ℕ) → flag_of flagged j ≡ 0 → flag_of fs j ≡ 0
      unfolding flagged
      stays j z = go (eqb j number) refl
        where
          go : (b : Bool) → eqb j number ≡ b → flag_of fs j ≡ 0
          go true q =
              let w : flag_of (set fs number 1) j ≡ 1 =
              ap (flag_of (set fs number 1)) (eqb-true j number q)
              ∙ get_or-set_same fs number 1 0 (omega (arith, near, h.flags, triangles.2)) in
              absurd (omega (arith, z, w))
          go false q = sym (get_or-set_other fs number j 1 0 (eqb-false j number q)) ∙ z

      outcome : c + new_numbers p.o ≤ v
          → Outcome v (length (triangles_of xs)) t.front (shown_all p.ls) s.most_places s.most_loops 1
          (done_of (readied t.front c) m p.o) (memory_of (readied t.front c) m p.o)
      unfolding effect
      outcome room =
          let d = corners s.left i h.fits.keeps.once in
          built_outcome v (length (triangles_of xs)) t.front m s.loops s.most_places s.most_loops h.standing c
          (omega (arith, below)) p.o (shown_all p.ls) (triangle_at e f c) _ _ _ _ _ _
          (ap (effect p.o c) looks ∙ does) d.0 d.1 d.2 room (omega (arith, less, h.count))

      -- c has no number yet: new
      at_new : ((x y : ℕ) → In c x y h.built → ⊥) → p.o ≡ New
          → Concludes (move_of xs fs ns m t.front.loops) (flags_of xs fs m t.front.loops)
      unfolding flagged number
      at_new none q =
          let no : has c s.numbered ≡ false = not_met s.numbered h.built h.fits.numbers c none in
          let z : is_numbered ns c ≡ false =
          ap (λ (b : Bool). elim b [ true ↦ false | false ↦ true ])
          (eq-eqb (get_or ns c 0) unnumbered (entry_read v s.numbered rest ns c h.numbers below ∙ entry_none c s.numbered no)) in
          let mv : move_of xs fs ns m t.front.loops ≡ record { operation = New; vertex = c; fresh = true } =
          move_as (Found found.number found.corner c) found.found
          ∙ ap (λ (b : Bool). placed_by b xs (set fs found.number 1) m t.front.loops (start_of t.front.loops m)
          (end_of t.front.loops m) c) z in
          let ch : choose s ≡ limited New (packing_after s (unbuilt_of flagged xs) (s.numbered ++ (c ∷ [])) (shown_all p.ls)) =
          choose_new s e f (reached ps (not (is_open f))) (shown_all ws) (shown_all p.ls) (unbuilt_of flagged xs) c found.number
          found.corner looks found.found dropped no
          (subst (λ (k : Operation).
          at_edge k c (vertex e) (f ∷ reached ps (not (is_open f))) (shown_all ws) ≡ effects.built k e f (shown_all p.ls) c) q does) in
          concludes_as (record { operation = New; vertex = c; fresh = true }) _ flagged _ mv
          (flags_as (Found found.number found.corner c) found.found)
          (lives New c true 1 (shown_all p.ls) flagged (triangle_at e f c ∷ h.built) h.rims ch
          (record {
            full = p.ls;
            shows = refl;
            keeps = kept;
            good = gd;
            numbers = numbered_new s.numbered h.built (triangle_at e f c) h.fits.numbers met_f met_e;
            distinct = distinct_new s.numbered c h.fits.distinct no;
          })
          (subst (λ (l : List Ring). Grows l (shown_all p.ls)) (sym shows)
          (surgery_grows e f ps ws p.ls c p.o opens.1 p.does))
          less (omega (arith, less, length-append s.numbered (c ∷ []))) (length-set fs found.number 1) stays (λ w. (below, no))
          (done_of (readied t.front c) m New) (memory_of (readied t.front c) m New)
          (subst (λ (k : Operation).
          Outcome v (length (triangles_of xs)) t.front (shown_all p.ls) s.most_places s.most_loops 1
          (done_of (readied t.front c) m k) (memory_of (readied t.front c) m k)) q
          (outcome (omega (arith, below, ap new_numbers q)))))

      -- it has one: the place is chosen
      at_old : (x : ℕ) (y : ℕ) → In c x y h.built
          → choose_place (vertex e) (vertex f) c (others i) (shown_all ((e ∷ (f ∷ ps)) ∷ ws)) ≡ p.o
          → Concludes (move_of xs fs ns m t.front.loops) (flags_of xs fs m t.front.loops)
      unfolding flagged number
      at_old x y j q =
          let yes : has c s.numbered ≡ true = h.fits.numbers.numbered c (x, y, j) in
          let en : get_or ns c 0 < unnumbered =
          omega (
            arith,
            entry_read v s.numbered rest ns c h.numbers below,
            entry_some c s.numbered yes,
            index_below c s.numbered
                yes,
            numbers_few,
          ) in
          let z : is_numbered ns c ≡ true =
          ap (λ (b : Bool). elim b [ true ↦ false | false ↦ true ]) (ne_eqb (get_or ns c 0) unnumbered (λ w. omega (arith, en, w))) in
          let q' : choose_place (vertex e) (vertex f) c (unbuilt_of flagged xs) (shown_all ((e ∷ (f ∷ ps)) ∷ ws)) ≡ p.o =
          ap (λ (R : List Triangle). choose_place (vertex e) (vertex f) c R (shown_all ((e ∷ (f ∷ ps)) ∷ ws))) (sym same_left) ∙ q in
          let pl : choose_place (start_of t.front.loops m) (end_of t.front.loops m) c (unbuilt_of flagged xs)
          (loops_in max_places t.front.loops m) ≡ p.o =
          ap₂ (λ (k l : ℕ). choose_place k l c (unbuilt_of flagged xs) (loops_in max_places t.front.loops m)) read.start read.end
          ∙ ap (choose_place (vertex e) (vertex f) c (unbuilt_of flagged xs)) (sym h.standing.loops ∙ shows) ∙ q' in
          let mv : move_of xs fs ns m t.front.loops ≡ record { operation = p.o; vertex = c; fresh = false } =
          move_as (Found found.number found.corner c) found.found
          ∙ ap (λ (b : Bool). placed_by b xs (set fs found.number 1) m t.front.loops (start_of t.front.loops m)
          (end_of t.front.loops m) c) z
          ∙ ap (λ (k : Operation). record { operation = k; vertex = c; fresh = false }) pl in
          let ch : choose s ≡ limited p.o (packing_after s (unbuilt_of flagged xs) s.numbered (shown_all p.ls)) =
          choose_old s e f (reached ps (not (is_open f))) (shown_all ws) (shown_all p.ls) (unbuilt_of flagged xs) p.o c found.number
          found.corner looks found.found dropped yes
          (ap (choose_place (vertex e) (vertex f) c (unbuilt_of flagged xs)) (sym first) ∙ q') does in
          let nn : new_numbers p.o ≡ 0 =
          ap new_numbers (sym q) ∙ no_new (vertex e) (vertex f) c (others i) (shown_all ((e ∷ (f ∷ ps)) ∷ ws)) in
          concludes_as (record { operation = p.o; vertex = c; fresh = false }) _ flagged _ mv
          (flags_as (Found found.number found.corner c) found.found)
          (lives p.o c false 1 (shown_all p.ls) flagged (triangle_at e f c ∷ h.built) h.rims ch
          (record {
            full = p.ls;
            shows = refl;
            keeps = kept;
            good = gd;
            numbers = numbered_old s.numbered h.built (triangle_at e f c) h.fits.numbers met_f met_e (x, y, j);
            distinct = h.fits.distinct;
          })
          (subst (λ (l : List Ring). Grows l (shown_all p.ls)) (sym shows)
          (surgery_grows e f ps ws p.ls c p.o opens.1 p.does))
          less (omega (arith, less)) (length-set fs found.number 1) stays (λ w. absurd (false≢true w))
          (done_of (readied t.front c) m p.o) (memory_of (readied t.front c) m p.o)
          (outcome (omega (arith, below, nn))))

  not_none : (t.front.loops.live ≡ 0 → ⊥) → h.fits.full ≡ [] → ⊥
  not_none live e = live (none_live max_places t.front.loops m (rings_in max_places t.front.loops m) h.standing.stands
      (sym h.standing.loops ∙ (h.fits.shows ∙ ap shown_all e)))

  goes_on : ((h.fits.full ≡ []) × (s.left ≡ [])) ⊎ Goes s.mesh s.left h.built h.fits.full h.rims
  goes_on = progress s.mesh s.left h.built h.fits.full h.rims h.fits.keeps h.fits.good fan

  -- the step at a live loop
  pub live_concludes : (t.front.loops.live ≡ 0 → ⊥) → Concludes (move_of xs fs ns m t.front.loops) (flags_of xs fs m t.front.loops)
  live_concludes live = go goes_on
    where
      go : ((h.fits.full ≡ []) × (s.left ≡ [])) ⊎ Goes s.mesh s.left h.built h.fits.full h.rims
          → Concludes (move_of xs fs ns m t.front.loops) (flags_of xs fs m t.front.loops)
      go (inl e) = absurd (not_none live e.0)
      go (inr (by_start x R q sh k gd)) = absurd (not_none live sh)
      go (inr (by_build e f ps ws c i sh p (inl w) gd)) = at_new e f ps ws sh c i p gd w.0 w.1
      go (inr (by_build e f ps ws c i sh p (inr w) gd)) = at_old e f ps ws sh c i p gd w.0.0 w.0.1 w.0.2 w.1
      go (inr (by_border e f ps ws sh u k gd)) = at_border e f ps ws sh u k gd live

  -- the triangle across the current edge, if there is one, is built next: it is one of those left
  pub live_next : (t.front.loops.live ≡ 0 → ⊥)
      → (next_number s
      ≡ number_found (across (end_of t.front.loops m) (start_of t.front.loops m) (triangles_of xs)))
      × (length (next_number s) + length (unbuilt_of (flags_of xs fs m t.front.loops) xs)
      ≡ length s.left)
  unfolding flagged number
  live_next live = go goes_on
    where
      by : (e f : Node) (ps : List Node) (ws : List Ring) (sh : h.fits.full ≡ (e ∷ (f ∷ ps)) ∷ ws) (r : Across)
          → across (vertex f) (vertex e) s.mesh ≡ r
          → length (number_found r) + length (unbuilt_of (flags_by fs r) xs) ≡ length s.left
          → (next_number s
          ≡ number_found (across (end_of t.front.loops m) (start_of t.front.loops m) (triangles_of xs)))
          × (length (next_number s) + length (unbuilt_of (flags_of xs fs m t.front.loops) xs)
          ≡ length s.left)
      by e f ps ws sh r q n =
          let next : next_number s ≡ number_found r =
          ap (λ (ls : List Ring). next_number_in s.mesh ls s.left) (looks e f ps ws sh) ∙ ap number_found q in (
            next ∙ sym (ap number_found (across_as e f ps ws sh r q)),
            ap₂ (λ (qs gs : List ℕ). length qs + length (unbuilt_of gs xs)) next (flags_as e f ps ws sh r q) ∙ n,
          )

      go : ((h.fits.full ≡ []) × (s.left ≡ [])) ⊎ Goes s.mesh s.left h.built h.fits.full h.rims
          → (next_number s
          ≡ number_found (across (end_of t.front.loops m) (start_of t.front.loops m) (triangles_of xs)))
          × (length (next_number s) + length (unbuilt_of (flags_of xs fs m t.front.loops) xs)
          ≡ length s.left)
      go (inl e) = absurd (not_none live e.0)
      go (inr (by_start x R q sh k gd)) = absurd (not_none live sh)
      go (inr (by_build e f ps ws c i sh p w gd)) =
          let d = found e f ps ws sh c i p gd in
          by e f ps ws sh (Found d.number d.corner c) d.found (less e f ps ws sh c i p gd)
      go (inr (by_border e f ps ws sh u k gd)) =
          by e f ps ws sh Nothing
          (across_none (vertex f) (vertex e) s.mesh
          (border_free s.mesh s.left h.built e f ps ws h.rims (before e f ps ws sh) u))
          (omega (arith, ap length h.left))
