-- One law for each way through a turn of a reading: the model is complete, the operation breaks off, is refused, builds a triangle or marks
-- an edge.
-- Assumes nothing.
use Prim.Native.Nat.{ℕ, suc, ◌+◌, ◌-◌, ◌*◌, ◌≤◌, ◌<◌}
use native.Mathlib.Omega.{arith}
use mathlib.Core.Bool.{Bool, true, false}
use mathlib.Core.List.{List, [], ◌∷◌}
use mathlib.Core.Path.{◌≡◌, refl, sym, ap, ◌∙◌, subst}
use lib.IntN.{ℤ, pos}
use lib.ListN.{length, length-drop}
use lib.Dec.{leb}
use borrow.Author.Tests.{leb-true}
use Rattle.rules.specs.declared.Counts.{Counts}
use Rattle.rules.specs.declared.Triangle.{Triangle}
use Rattle.rules.specs.declared.Operation.{Operation}
use Rattle.rules.specs.Limits.{max_triangles, furnace_places, furnace_loops}
use Rattle.rules.specs.Bits.{bits_of_bytes}
use Rattle.rules.specs.Code.{breaks_off, read, read_operation}
use Rattle.rules.specs.declared.Operation.TheVariants.{New, Forward, Backward, Border, Split, Close, Union, Start}
use Rattle.rules.specs.Ring.{Ring}
use Rattle.rules.specs.Table.{Building, Marking, Effect, not_allowed, builds, marks, at_rest, effect}
use Rattle.rules.specs.Machine.{Machine, empty, after_build, after_mark, refused, built, declared, test, complete}
use Rattle.rules.specs.Volume.{six_volumes}
use Rattle.rules.specs.Unpack.{stopped}
use Rattle.rules.specs.Furnace.{done_freely, operation_freely, run_freely, run_freely_of}
use Rattle.rules.specs.Book.{Book}
use Rattle.book.proofs.Bounds.{bounded_ranges, bounded_built, bounded_marked, empty_bounded, within_each}
use Rattle.book.proofs.Effects.{Law, effect_law}
use Rattle.book.proofs.Numbers.{Below, below_effect}
use Rattle.counting.proofs.Ranges.{in_range_lem}
use Rattle.counting.proofs.Bools.{and_left, and_right}
use Rattle.cutborder.specs.declared.Front.{Front}
use Rattle.cutborder.specs.declared.Plan.{Plan}
use Rattle.cutborder.specs.declared.Melt.{Melt}
use Rattle.std.specs.Prelude.{Ok, Err}
use Rattle.rules.specs.declared.refusal.Refusal.{Refusal}
use Rattle.rules.specs.declared.refusal.Refusal.TheVariants.{EndsEarly}
use Rattle.rules.specs.Refusal.{number_of}
use Rattle.cutborder.specs.declared.Action.TheVariants.{Builds, Marks}
use Rattle.border_theory.specs.Memory.Moves.{marked_held}
use Rattle.border_theory.specs.Memory.Decision.{Decided, decided, held_after, built_front, marked_front}
use Rattle.border_theory.specs.Memory.Keeps.{Keeps, Ready, BuildsFreely, MarksFreely, DecidesFreely}
use Rattle.border_theory.specs.Memory.Finish.{is_complete}
use Rattle.border_theory.specs.Memory.Fresh.{all_free, fresh_front}
use Rattle.border_theory.proofs.Memory.Ready.{ready}
use Rattle.border_theory.proofs.Memory.Fresh.{fresh_keeps}
use Rattle.border_theory.proofs.Memory.Finish.{live_same, complete_same}
use Rattle.border_theory.proofs.Memory.Deciding.{keeps_current, decides_freely}
use mir.Syntax.{w64}
use mir.Val.{SFits}
use mir.Facts.{to_z-of_z}
use Rattle.volume_theory.proofs.Fitting.{held, held_same}
use Rattle.wire_theory.proofs.Bytes.{length_bits_of_bytes}
use Rattle.unpack_theory.specs.Runs.{bits_from}
use Rattle.cells_theory.specs.Bytes.{numbers, Whole}
use Rattle.cells_theory.proofs.Bytes.{length_numbers}
use Rattle.melting_theory.specs.Runs.{Melts, Weighed, Held, run_in, Going, GoingOn, Done, TurnedTo, Turned, TurnedOn}
use Rattle.melting_theory.specs.Runs.{Weighable, Weighs, WeighsTo, Begins}
use Rattle.melting_theory.proofs.Weighing.{weighs_may, weighs_told, weighed_more}
use Rattle.melting_theory.proofs.Runs.{ran_complete, ran_none, ran_broken, ran_refused, ran_built, ran_marked}

module _ (M : Machine) (s : Front) (bs : List ℕ) (h : Melts M s bs) where
  abbrev book : Book
  book = record { machine = M; borders = h.borders }

  pub melts_ready : Ready furnace_places s (numbers bs)
  melts_ready = ready furnace_places s (numbers bs) M h.keeps (bounded_ranges book h.bounded)

  pub melts_complete : complete M ≡ is_complete s
  melts_complete = complete_same furnace_places s (numbers bs) M h.keeps

  decides_it : (o : Operation) (d : Decided) → decided furnace_places s (numbers bs) o ≡ d
      → DecidesFreely furnace_places s (numbers bs) M o d
  decides_it o d e =
      subst (DecidesFreely furnace_places s (numbers bs) M o) e
      (decides_freely furnace_places s (numbers bs) M h.keeps o h.bounded.counts)

  law : (o : Operation) (E : Effect) → effect o M.used M.loops ≡ E → Law M.used M.loops E
  law o E e =
      subst (Law M.used M.loops) e
      (effect_law o M.used M.loops (keeps_current furnace_places s (numbers bs) M h.keeps))

  below : (o : Operation) (E : Effect) → effect o M.used M.loops ≡ E → Below M.used E
  below o E e = subst (Below M.used) e (below_effect o M.used M.loops h.low)

  refused_it : (o : Operation) (k : Refusal) → decided furnace_places s (numbers bs) o ≡ Err k
      → operation_freely M o ≡ refused (number_of k)
  refused_it o k e = decides_it o (Err k) e

  module _ (o : Operation) (p : Plan) (e : decided furnace_places s (numbers bs) o ≡ Ok (Builds p)) where
    does : BuildsFreely furnace_places s (numbers bs) M o p
    does = decides_it o (Ok (Builds p)) e

    next : Machine
    next = after_build M does.building

    made : operation_freely M o ≡ built p.triangle next
    unfolding done_freely test next
    made =
        let g = does.building in
        ap (done_freely M) does.effects
        ∙ ap (λ (w : Bool). test w 17 (built g.triangle (after_build M g))) does.fits
        ∙ ap (λ (t : Triangle). built t (after_build M g)) does.triangle

    next_melts : (s' : Front) → s' ≡ built_front furnace_places s p (held_after furnace_places s (numbers bs) o p).loops → (bs' : List ℕ)
        → numbers bs' ≡ (held_after furnace_places s (numbers bs) o p).memory → Whole bs' → Melts next s' bs'
    unfolding next
    next_melts s' es bs' em w =
        record {
          borders = h.borders;
          bounded = bounded_built book h.bounded does.building (law o (builds does.building) does.effects) does.fits;
          keeps = rw (es, em) does.keeps;
          low = (below o (builds does.building) does.effects).0;
          whole = w;
        }

    -- the corners are vertices stated
    pub corners_below : (p.triangle.p < s.stated.vertices) × (p.triangle.q < s.stated.vertices)
        × (p.triangle.r < s.stated.vertices)
    corners_below =
        let b = (below o (builds does.building) does.effects).1 in
        let w = within_each (after_build M does.building) does.fits in
        let v = ap (λ (c : Counts). c.vertices) h.keeps.stated in
        let t = does.triangle in (
          omega (arith, b.0, w.vertices, v, ap (λ (x : Triangle). x.p) t),
          omega (arith, b.1, w.vertices, v, ap (λ (x : Triangle). x.q) t),
          omega (arith, b.2, w.vertices, v, ap (λ (x : Triangle). x.r) t),
        )

  module _ (o : Operation) (x y : ℕ) (e : decided furnace_places s (numbers bs) o ≡ Ok (Marks x y)) where
    marked : MarksFreely furnace_places s (numbers bs) M o
    marked = decides_it o (Ok (Marks x y)) e

    after : Machine
    after = after_mark M marked.marking

    declares : operation_freely M o ≡ declared marked.marking.edge after
    unfolding done_freely test after
    declares =
        let g = marked.marking in
        ap (done_freely M) marked.effects ∙ ap (λ (w : Bool). test w 17 (declared g.edge (after_mark M g))) marked.fits

    after_melts : (s' : Front) → s' ≡ marked_front furnace_places s (marked_held furnace_places s.loops (numbers bs)).loops → (bs' : List ℕ)
        → numbers bs' ≡ (marked_held furnace_places s.loops (numbers bs)).memory → Whole bs' → Melts after s' bs'
    unfolding after
    after_melts s' es bs' em w =
        record {
          borders = marked.marking.edge ∷ h.borders;
          bounded = bounded_marked book h.bounded marked.marking (law o (marks marked.marking) marked.effects) marked.fits;
          keeps = rw (es, em) marked.keeps;
          low = below o (marks marked.marking) marked.effects;
          whole = w;
        }

-- ---- the ways through a turn

-- the bits from a position on
bits_left : (ops : List ℕ) (k : ℕ) → length (bits_from ops k) ≡ 8 * length ops - k
bits_left ops k = length-drop k (bits_of_bytes ops) ∙ ap (λ (n : ℕ). n - k) (length_bits_of_bytes ops)

-- with no live loop no edge is marked
never : (y : Marking) → not_allowed ≡ marks y → ⊥
never y e = let z : ◌≡◌ {A = ℕ} 0 1 = cc in omega arith

never_builds : (x : Building) (y : Marking) → builds x ≡ marks y → ⊥
never_builds x y e = let z : ◌≡◌ {A = ℕ} 0 1 = cc in omega arith

at_rest_lem : (o : Operation) (u : ℕ) (y : Marking) → at_rest o u ≡ marks y → ⊥
unfolding at_rest
at_rest_lem New u y e = never y e
at_rest_lem Forward u y e = never y e
at_rest_lem Backward u y e = never y e
at_rest_lem Border u y e = never y e
at_rest_lem (Split i) u y e = never y e
at_rest_lem Close u y e = never y e
at_rest_lem (Union n j) u y e = never y e
at_rest_lem Start u y e = never_builds _ y e

some_loop : (o : Operation) (u : ℕ) (ls : List Ring) (y : Marking) → effect o u ls ≡ marks y → length ls ≡ 0 → ⊥
unfolding effect
some_loop o u [] y e h = at_rest_lem o u y e
some_loop o u (l ∷ ls) y e h = omega (arith, h)

module _ (field : List ℕ) (p : Melt) (bs : List ℕ) (h : Held field p bs) where
  pub held_ready : Ready furnace_places p.front (numbers bs)
  held_ready = melts_ready h.machine p.front bs h.melts

  few : length h.machine.triangles ≤ max_triangles
  few = omega (arith, held_ready.built, h.melts.keeps.triangles)

  same_six : held p.six ≡ p.six
  same_six = held_same p.six (omega (arith, h.weighed.amount, few))

  pub turn_weighs : Weighable p.front.stated field → (o : Operation) (t : Plan)
      → decided furnace_places p.front (numbers bs) o ≡ Ok (Builds t)
      → Weighs field t.triangle (held p.six)
  turn_weighs w o t e =
      subst (Weighs field t.triangle) (sym same_six)
      (weighs_may p.front.stated field h.machine.triangles t.triangle p.six w h.weighed few
      (corners_below h.machine p.front bs h.melts o t e))

  pub turn_live : (o : Operation) (x y : ℕ) → decided furnace_places p.front (numbers bs) o ≡ Ok (Marks x y) → p.front.loops.live ≡ 0 → ⊥
  turn_live o x y e z =
      some_loop o h.machine.used h.machine.loops _ (marked h.machine p.front bs h.melts o x y e).effects
      (live_same furnace_places p.front (numbers bs) h.machine h.melts.keeps ∙ z)

module _ (ops field : List ℕ) (p : Melt) (bs : List ℕ) where
  pub turn_complete : (left : ℕ) → 0 < left → Going ops field left p bs → (b : Bool) → b ≡ is_complete p.front → b ≡ true
      → Done ops field p bs
  turn_complete left l g b eb e = record {
    held = g.held;
    ran =
        g.ran ∙ ran_complete left g.held.machine (bits_from ops p.at) l
        (melts_complete g.held.machine p.front bs g.held.melts ∙ sym eb ∙ e);
  }

  -- none may be read any more
  pub turn_none : (left : ℕ) → left ≤ 0 → Going ops field left p bs → run_in ops p ≡ stopped 15
  turn_none left l g = g.ran ∙ ran_none left g.held.machine (bits_from ops p.at) l

  module _ (b : Bool) (eb : b ≡ is_complete p.front) (c : b ≡ false) where
    on : {left : ℕ} → (g : Going ops field left p bs) → complete g.held.machine ≡ false
    on g = melts_complete g.held.machine p.front bs g.held.melts ∙ sym eb ∙ c

    pub turn_broken : read_operation (bits_from ops p.at) ≡ breaks_off → Turned ops field p bs (Err EndsEarly) bs
    turn_broken e left l g = g.ran ∙ ran_broken left g.held.machine (bits_from ops p.at) (on g) e

    module _ (o : Operation) (k : ℕ) (reads : read_operation (bits_from ops p.at) ≡ read o (bits_from ops k)) where
      pub turn_refused : (n : Refusal) → decided furnace_places p.front (numbers bs) o ≡ Err n → Turned ops field p bs (Err n) bs
      turn_refused n e left l g =
          g.ran
          ∙ ran_refused g.held.machine (bits_from ops p.at) (bits_from ops k) o (on g) reads left (number_of n) l
          (refused_it g.held.machine p.front bs g.held.melts o n e)

      onward_by : (left : ℕ) (g : Going ops field left p bs) (s' : Front) (z : ℤ) (bs' : List ℕ) → s'.stated ≡ p.front.stated
          → (N : Machine) → Melts N s' bs' → Weighed field N.triangles z
          → run_freely left g.held.machine (bits_from ops p.at) ≡ run_freely (left - 1) N (bits_from ops k)
          → TurnedTo ops field left p (Ok (record { at = k; front = s'; six = z })) bs'
      onward_by left g s' z bs' es N m w e = (
        record {
          held = record { machine = N; melts = m; weighed = w };
          ran = ap (λ (c : Counts). run_freely_of c ops) es ∙ g.ran ∙ e;
        },
        es,
      )

      pub turn_built : (t : Plan) → decided furnace_places p.front (numbers bs) o ≡ Ok (Builds t) → (s' : Front)
          → s' ≡ built_front furnace_places p.front t (held_after furnace_places p.front (numbers bs) o t).loops → (bs' : List ℕ)
          → numbers bs' ≡ (held_after furnace_places p.front (numbers bs) o t).memory → Whole bs' → (w : ℤ) → SFits w64 w
          → WeighsTo field t.triangle (held p.six) w → Turned ops field p bs (Ok (record { at = k; front = s'; six = held w })) bs'
      unfolding next built_front
      turn_built t e s' es bs' em wh w f v left l g =
          let M = g.held.machine in
          let m = g.held.melts in
          let d = does M p.front bs m o t e in
          let v' : Weighed field (t.triangle ∷ M.triangles) (held w) =
          weighed_more field M.triangles t.triangle p.six (held w) g.held.weighed
          (weighs_told field t.triangle p.six (held p.six) w (held w) (same_six field p bs g.held) (to_z-of_z f) (v.sum, v.amount)) in
          onward_by left g s' (held w) bs' (ap (λ (f : Front). f.stated) es) (next M p.front bs m o t e)
          (next_melts M p.front bs m o t e s' es bs' em wh)
          (subst (λ (u : Triangle). Weighed field (u ∷ M.triangles) (held w)) (sym d.triangle) v')
          (ran_built M (bits_from ops p.at) (bits_from ops k) o (on g) reads left t.triangle (next M p.front bs m o t e) l
          (made M p.front bs m o t e))

      pub turn_marked : (x y : ℕ) → decided furnace_places p.front (numbers bs) o ≡ Ok (Marks x y) → (s' : Front)
          → s' ≡ marked_front furnace_places p.front (marked_held furnace_places p.front.loops (numbers bs)).loops → (bs' : List ℕ)
          → numbers bs' ≡ (marked_held furnace_places p.front.loops (numbers bs)).memory → Whole bs' → (z : ℤ) → z ≡ held p.six
          → Turned ops field p bs (Ok (record { at = k; front = s'; six = z })) bs'
      unfolding after marked_front
      turn_marked x y e s' es bs' em w z ez left l g =
          let M = g.held.machine in
          let m = g.held.melts in
          let d = marked M p.front bs m o x y e in
          rw (ez, same_six field p bs g.held)
          (onward_by left g s' p.six bs' (ap (λ (f : Front). f.stated) es) (after M p.front bs m o x y e)
          (after_melts M p.front bs m o x y e s' es bs' em w) g.held.weighed
          (ran_marked M (bits_from ops p.at) (bits_from ops k) o (on g) reads left d.marking.edge (after M p.front bs m o x y e) l
          (declares M p.front bs m o x y e)))

-- ---- the same where more operations may be read than there are bits left, so that the count is never used up

module _ (ops field : List ℕ) (p : Melt) (bs : List ℕ) where
  -- the count is never used up
  pub some_left : (left : ℕ) → GoingOn ops field left p bs → 0 < left
  some_left left g = omega (arith, g.enough)

  pub still_going : (left : ℕ) → GoingOn ops field left p bs → Going ops field left p bs
  still_going left g = record { held = g.held; ran = g.ran }

  pub turn_on_complete : (left : ℕ) → GoingOn ops field left p bs → (b : Bool) → b ≡ is_complete p.front → b ≡ true → Done ops field p bs
  turn_on_complete left g b eb e = turn_complete ops field p bs left (some_left left g) (still_going left g) b eb e

  module _ (b : Bool) (eb : b ≡ is_complete p.front) (c : b ≡ false) where
    pub turn_on_broken : read_operation (bits_from ops p.at) ≡ breaks_off → TurnedOn ops field p bs (Err EndsEarly) bs
    turn_on_broken e left g = turn_broken ops field p bs b eb c e left (some_left left g) (still_going left g)

    module _ (o : Operation) (k : ℕ) (reads : read_operation (bits_from ops p.at) ≡ read o (bits_from ops k)) where
      pub turn_on_refused : (n : Refusal) → decided furnace_places p.front (numbers bs) o ≡ Err n → TurnedOn ops field p bs (Err n) bs
      turn_on_refused n e left g = turn_refused ops field p bs b eb c o k reads n e left (some_left left g) (still_going left g)

      module _ (ahead : p.at < k) (within : k ≤ 8 * length ops) where
        -- fewer bits are left
        fewer : (left : ℕ) → length (bits_from ops p.at) < left → length (bits_from ops k) < left - 1
        fewer left h =
            let a = bits_left ops p.at in
            let b = bits_left ops k in
            omega (arith, h, a, b, ahead, within)

        reads_on : (s' : Front) (z : ℤ) (bs' : List ℕ) → Turned ops field p bs (Ok (record { at = k; front = s'; six = z })) bs'
            → TurnedOn ops field p bs (Ok (record { at = k; front = s'; six = z })) bs'
        reads_on s' z bs' t left g =
            let u = t left (some_left left g) (still_going left g) in
            (record { held = u.0.held; ran = u.0.ran; enough = fewer left g.enough }, u.1, ahead, within)

        pub turn_on_built : (t : Plan) → decided furnace_places p.front (numbers bs) o ≡ Ok (Builds t) → (s' : Front)
            → s' ≡ built_front furnace_places p.front t (held_after furnace_places p.front (numbers bs) o t).loops → (bs' : List ℕ)
            → numbers bs' ≡ (held_after furnace_places p.front (numbers bs) o t).memory → Whole bs' → (w : ℤ) → SFits w64 w
            → WeighsTo field t.triangle (held p.six) w → TurnedOn ops field p bs (Ok (record { at = k; front = s'; six = held w })) bs'
        turn_on_built t e s' es bs' em wh w f v =
            reads_on s' (held w) bs' (turn_built ops field p bs b eb c o k reads t e s' es bs' em wh w f v)

        pub turn_on_marked : (x y : ℕ) → decided furnace_places p.front (numbers bs) o ≡ Ok (Marks x y) → (s' : Front)
            → s' ≡ marked_front furnace_places p.front (marked_held furnace_places p.front.loops (numbers bs)).loops → (bs' : List ℕ)
            → numbers bs' ≡ (marked_held furnace_places p.front.loops (numbers bs)).memory → Whole bs' → (z : ℤ) → z ≡ held p.six
            → TurnedOn ops field p bs (Ok (record { at = k; front = s'; six = z })) bs'
        turn_on_marked x y e s' es bs' em w z ez =
            reads_on s' z bs' (turn_marked ops field p bs b eb c o k reads x y e s' es bs' em w z ez)

fuel : (ops : List ℕ) (n : ℕ) → n ≡ 8 * length ops + 1 → suc (length (bits_from ops 0)) ≡ n
fuel ops n e = omega (arith, e, length_bits_of_bytes ops)

-- the beginning: every place is free
pub begins_on : (c : Counts) (ops field bs bs' : List ℕ) → Begins c ops field bs → (s : Front) → s ≡ fresh_front furnace_places c
    → numbers bs' ≡ all_free furnace_places (numbers bs) furnace_places → Whole bs'
    → (n : ℕ) → n ≡ 8 * length ops + 1 → GoingOn ops field n (record { at = 0; front = s; six = pos 0 }) bs'
unfolding six_volumes
begins_on c ops field bs bs' h s es em w n en =
    let i = in_range_lem c h.ranges in
    let places = leb-true c.places furnace_places (and_left (leb c.places furnace_places) (leb c.loops furnace_loops) h.peaks) in
    let loops = leb-true c.loops furnace_loops (and_right (leb c.places furnace_places) (leb c.loops furnace_loops) h.peaks) in
    let k : Keeps furnace_places (fresh_front furnace_places c) (all_free furnace_places (numbers bs) furnace_places) (empty c) =
    fresh_keeps furnace_places c (numbers bs)
    (record { few = omega arith; enough = places; long = omega (arith, loops, length_numbers bs, h.whole) }) in
    record {
      held = record {
        machine = empty c;
        melts = record { borders = []; bounded = empty_bounded c h.ranges; keeps = rw (es, em) k; low = tt; whole = w };
        weighed = record { sum = refl; amount = omega arith };
      };
      ran = rw es (ap (λ (k : ℕ). run_freely k (empty c) (bits_from ops 0)) (fuel ops n en));
      enough = omega (arith, fuel ops n en);
    }

pub begins : (c : Counts) (ops field bs bs' : List ℕ) → Begins c ops field bs → (s : Front) → s ≡ fresh_front furnace_places c
    → numbers bs' ≡ all_free furnace_places (numbers bs) furnace_places → Whole bs'
    → (n : ℕ) → n ≡ 8 * length ops + 1 → Going ops field n (record { at = 0; front = s; six = pos 0 }) bs'
begins c ops field bs bs' h s es em w n en = still_going ops field _ bs' n (begins_on c ops field bs bs' h s es em w n en)
