-- One law for each way through a building operation, as the code takes it.
-- Assumes nothing.
use Prim.Native.Nat.{ℕ, suc, ◌+◌, ◌*◌, ◌≤◌, ◌<◌}
use native.Mathlib.Omega.{arith}
use mathlib.Core.Bool.{Bool, true, false, not}
use mathlib.Core.List.{List, []}
use mathlib.Core.Path.{◌≡◌, refl, sym, ap, ap₂, ◌∙◌, subst}
use lib.ListN.{length, take}
use lib.Dec.{leb}
use borrow.Author.Tests.{leb-true, not-true, not-false}
use Rattle.rules.specs.declared.Counts.{Counts}
use Rattle.rules.specs.declared.Operation.{Operation}
use Rattle.rules.specs.declared.Place.{Place}
use Rattle.rules.specs.declared.Builder.{Builder}
use Rattle.rules.specs.declared.Triangle.{Triangle}
use Rattle.rules.specs.Operated as O
use Rattle.rules.specs.Operated.{Performed}
use Rattle.rules.specs.Limits.{max_places, max_loops, in_range}
use Rattle.rules.specs.Check.{all_below}
use Rattle.rules.specs.Triangle.{edge}
use Rattle.rules.specs.Table.{edge_rule}
use Rattle.rules.specs.Machine.{Machine, Step, refused, begun, built, declared, finished, operation}
use Rattle.rules.specs.Book.{answer_of}
use Rattle.rules.specs.Buffer.{Buffers}
use Rattle.rules.specs.View.{place_rings, view, triangles_built}
use Rattle.rules.specs.Sound.{sound}
use Rattle.rules.specs.Build.{viewed, operates, with_triangle}
use Rattle.book.specs.Consistent.{Ranges}
use Rattle.book.specs.Reached.{reached}
use Rattle.border_theory.proofs.Links.Named.{named_lives}
use Rattle.cutborder.specs.declared.Front.{Front}
use Rattle.cutborder.specs.declared.Plan.{Plan}
use Rattle.cutborder.specs.declared.Action.TheVariants.{Builds, Marks}
use Rattle.std.specs.Prelude.{Ok, Err}
use Rattle.rules.specs.declared.refusal.Refusal.{Refusal}
use Rattle.rules.specs.Refusal.{number_of}
use Rattle.border_theory.specs.Memory.Layout.{at, vertices_of}
use Rattle.border_theory.specs.Memory.Stands.{rings_in}
use Rattle.border_theory.specs.Memory.Moves.{Held, marked_held}
use Rattle.border_theory.specs.Memory.Decision.{Decided, decided, side_of, held_after, built_front, marked_front}
use Rattle.border_theory.specs.Memory.Keeps.{Keeps}
use Rattle.border_theory.proofs.Memory.Deciding.{stands_live}
use Rattle.border_theory.proofs.Memory.Next.{decides_as, refused_next, rule_refused, built_step, built_keeps, marked_step, marked_keeps}
use Rattle.border_theory.proofs.Memory.Next.{marks_live}
use Rattle.border_theory.specs.Records.Plain.{records}
use Rattle.state_theory.specs.Reading.Opens.{lent, Passes, Opened, Opens}
use Rattle.state_theory.specs.Reading.Closing.{builder_of}
use Rattle.state_theory.proofs.Reading.Records.{all_alike}
use Rattle.state_theory.proofs.Reading.Closing.{closes}
use Rattle.state_theory.proofs.Reading.Sound.{closes_sound}
use Rattle.state_theory.specs.Performing.Core.{Written, Accepts, Done, OperatesOn, Open, refused_with, marked_with, MarkedIn}
use Rattle.state_theory.proofs.Performing.Sound.{parts, sound_ranges, sound_below, sound_current}
use Rattle.state_theory.proofs.Performing.Writing.{written_next, below_more, written_below}
use Rattle.counting.proofs.Triangles.{written_long}
use Rattle.state_theory.proofs.Performing.After.{Next, Built, Declared, Follows, follows}
use Rattle.rules.specs.declared.Operation.TheVariants.{New, Forward, Backward, Border, Split, Close, Union, Start}
use Rattle.cutborder.specs.declared.Loops.{Loops}
use Rattle.cutborder.specs.declared.Touched.{Touched}
use Rattle.border_theory.specs.Memory.Touched.{taken_by, touched_by, listed, noted, leavers, Tidy}
use Rattle.border_theory.proofs.Memory.Room.{room as places-room}
use Rattle.border_theory.specs.Memory.Performs.{Performs}
use Rattle.border_theory.proofs.Memory.Performed.{performs}
use Rattle.border_theory.proofs.Memory.Tidy.{built_tidy, marked_tidy}
use Rattle.state_theory.specs.Performing.Noted.{to_link, to_free}
use Rattle.state_theory.proofs.Performing.Noting.{nothing_linked, nothing_freed, noted_before, noted_end, noted_count, noted_links}
use Rattle.state_theory.proofs.Performing.Noting.{noted_frees}
use Rattle.state_theory.proofs.Performing.Leaving.{unused, rings_are, stays, idle, others, near, left, gone, few_touched, rewritten}
use Rattle.counting.proofs.Bools.{and_left}
use Rattle.book.proofs.Bounds.{within_each}
use Rattle.promises.proofs.Kept.{built_long}

-- what is answered and given back where a triangle is built
abbrev pub built_with : Builder → Triangle → Performed
built_with b t = record { state = b; answer = O.Built t }

-- a memory that notes nothing
abbrev pub unnoted : List ℕ → List ℕ
unnoted m = noted m (listed []) 0 0

-- a refusal
refuses : (b : Builder) (o : Operation) (xs m : List ℕ) (n : ℕ) (m₁ : List ℕ) (k : ℕ) → operates b (lent xs n m) o ≡ refused k
    → OperatesOn b o xs m n (refused_with b k) xs (unnoted m₁)
refuses b o xs m n m₁ k e = record {
  answer = sym (ap answer_of e);
  after =
      subst (λ (x : Step). Done b o xs m n x b xs (unnoted m₁)) (sym e)
      (record { state = refl; triangles = refl; links = nothing_linked m₁; frees = nothing_freed m₁ });
}

-- 21
pub opens_failed : (b : Builder) (o : Operation) (xs m : List ℕ) (n : ℕ) (m₁ : List ℕ) (x : Opened) (e : Refusal)
    → Opens b xs n m x m₁ → x ≡ Err e → OperatesOn b o xs m n (refused_with b (number_of e)) xs (unnoted m₁)
opens_failed b o xs m n m₁ x e h q =
    let f = subst (λ (y : Opened). Opens b xs n m y m₁) q h in
    subst (λ (z : Refusal). OperatesOn b o xs m n (refused_with b (number_of z)) xs (unnoted m₁)) (sym f.0)
    (refuses b o xs m n m₁ 21 (ap (λ (t : Bool). elim t [ true ↦ operation (viewed b (lent xs n m)) o | false ↦ refused 21 ]) f.1.0))

pub opens_passed : (b : Builder) (xs : List ℕ) (n : ℕ) (m m' : List ℕ) (x : Opened) (f : Front) → Opens b xs n m x m' → x ≡ Ok f
    → Passes b xs n m f m'
opens_passed b xs n m m' x f h e = subst (λ (y : Opened). Opens b xs n m y m') e h

-- a state that passes is open in the memory that its opening leaves, with the same records
pub opened : (b : Builder) (xs : List ℕ) (n : ℕ) (m : List ℕ) (f : Front) (m' : List ℕ) → Passes b xs n m f m' → Open b xs m' f
opened b xs n m f m' p =
    let e : records n m ≡ records max_places m' = ap (λ (k : ℕ). records k m) p.whole ∙ sym (all_alike m m' p.same) in
    record {
      passes = subst (λ (ps : List Place). sound b (record { triangles = xs; places = ps }) ≡ true) e p.passes;
      whole = refl;
      ready = p.ready;
      keeps = subst (λ (ps : List Place). Keeps max_places f m' (view b xs ps)) e p.keeps;
      rings = ap (λ (ps : List Place). place_rings b ps b.live) (all_alike m m' p.same) ∙ p.rings;
      lengths = refl;
      same = λ i l. refl;
    }

accepts_from : (b : Builder) (o : Operation) (ys m m₁ : List ℕ) (n : ℕ) (M : Machine) (b' : Builder) (xs' m' : List ℕ) → n ≡ max_places
    → records max_places m₁ ≡ records max_places m → Accepts b o ys m₁ max_places M b' xs' m' → Accepts b o ys m n M b' xs' m'
accepts_from b o ys m m₁ n M b' xs' m' w e a = record {
  whole = w;
  noted = a.noted;
  written = subst (λ (ps : List Place). Written b o ps ys M b' xs' (records max_places m') (to_link m') (to_free m')) e a.written;
}

done_from : (b : Builder) (o : Operation) (xs m m₁ : List ℕ) (n : ℕ) (x : Step) (b' : Builder) (xs' m' : List ℕ) → n ≡ max_places
    → records max_places m₁ ≡ records max_places m → Done b o xs m₁ max_places x b' xs' m' → Done b o xs m n x b' xs' m'
done_from b o xs m m₁ n (refused k) b' xs' m' w e d = d
done_from b o xs m m₁ n (begun M) b' xs' m' w e d = d
done_from b o xs m m₁ n (built t M) b' xs' m' w e d = accepts_from b o (with_triangle b.built t xs) m m₁ n M b' xs' m' w e d
done_from b o xs m m₁ n (declared x M) b' xs' m' w e d = accepts_from b o xs m m₁ n M b' xs' m' w e d
done_from b o xs m m₁ n (finished x) b' xs' m' w e d = d

pub from_open : (b : Builder) (o : Operation) (xs : List ℕ) (n : ℕ) (m : List ℕ) (f : Front) (m₁ : List ℕ) → Passes b xs n m f m₁
    → (r : Performed) (xs' m' : List ℕ) → OperatesOn b o xs m₁ max_places r xs' m' → OperatesOn b o xs m n r xs' m'
from_open b o xs n m f m₁ p r xs' m' h =
    let e : records max_places m₁ ≡ records max_places m = all_alike m m₁ p.same in
    let g : operates b (lent xs max_places m₁) o ≡ operates b (lent xs n m) o =
    ap (λ (ps : List Place). operates b (record { triangles = xs; places = ps }) o) (e ∙ ap (λ (k : ℕ). records k m) (sym p.whole)) in
    record {
      answer = h.answer ∙ ap answer_of g;
      after =
          subst (λ (x : Step). Done b o xs m n x r.state xs' m') g
          (done_from b o xs m m₁ n (operates b (lent xs max_places m₁) o) r.state xs' m' p.whole e h.after);
    }

-- what marking leaves, and the note of it
pub marked_given : (f : Front) (m : List ℕ) (f' : Front) (m₁ : List ℕ) (b : Builder) (t : Touched) (m' : List ℕ)
    → f' ≡ marked_front max_places f (marked_held max_places f.loops m).loops → m₁ ≡ (marked_held max_places f.loops m).memory
    → b ≡ builder_of f' m₁
    → t ≡ listed (touched_by max_places f.loops m Border 0) → m' ≡ noted m₁ t f.loops.free f'.loops.free
    → MarkedIn f m b m'
unfolding marked_front
marked_given f m f' m₁ b t m' ef em eb et en = (
  eb ∙ ap₂ builder_of ef em,
  en ∙ ap₂ (λ (z : List ℕ) (v : Touched). noted z v f.loops.free f'.loops.free) em et
      ∙ ap (λ (z : Front). noted (marked_held max_places f.loops m).memory (listed (touched_by max_places f.loops m Border 0))
      f.loops.free z.loops.free) ef,
)

-- what the function that lists the places touched asks
pub can_touch : (b : Builder) (o : Operation) (xs m : List ℕ) (f : Front) → Open b xs m f → (p : Plan)
    → decided max_places f m o ≡ Ok (Builds p)
    → Performs max_places f.loops m 0 o p.place
can_touch b o xs m f w p e = at_zero o (performs max_places f m o p w.ready e)
  where
    at_zero : (o : Operation) → Performs max_places f.loops m f.used o p.place → Performs max_places f.loops m 0 o p.place
    at_zero New h = h
    at_zero Forward h = h
    at_zero Backward h = h
    at_zero Border h = h
    at_zero (Split i) h = h
    at_zero Close h = h
    at_zero (Union k j) h = h
    at_zero Start h = (h.0, omega arith)

-- an open state
module _ (b : Builder) (o : Operation) (xs m : List ℕ) (f : Front) (w : Open b xs m f) where
  abbrev r₀ : Buffers
  r₀ = lent xs max_places m

  abbrev M : Machine
  M = viewed b r₀

  ranges : Ranges M
  ranges = sound_ranges b r₀ w.passes

  goes_on : operates b r₀ o ≡ operation M o
  goes_on = ap (λ (t : Bool). elim t [ true ↦ operation M o | false ↦ refused 21 ]) w.passes

  pub built_same : f.built ≡ b.built
  unfolding view
  built_same = sym w.keeps.triangles ∙ built_long xs b.built

  -- the room that 21 has tested
  pub room : 3 * f.stated.triangles ≤ length xs
  unfolding view
  room =
      let e : b.stated.triangles ≡ f.stated.triangles = ap (λ (c : Counts). c.triangles) w.keeps.stated in
      omega (
        arith,
        e,
        leb-true (3 * b.stated.triangles) (length xs)
            (and_left (leb (3 * b.stated.triangles) (length xs)) _ (parts b r₀ w.passes).room),
      )

  pub rule_room : 3 * f.built ≤ length xs
  unfolding view
  rule_room =
      let e : b.stated.triangles ≡ f.stated.triangles = ap (λ (c : Counts). c.triangles) w.keeps.stated in
      omega (arith, room, e, w.keeps.triangles, (within_each M ranges.counts).triangles)

  -- 16 and 17
  pub decision_refused : (d : Decided) (k : Refusal) → d ≡ decided max_places f m o → d ≡ Err k
      → OperatesOn b o xs m max_places (refused_with b (number_of k)) xs (unnoted m)
  decision_refused d k i e =
      refuses b o xs m max_places m (number_of k) (goes_on ∙ refused_next max_places f m M o w.keeps ranges k (sym i ∙ e))

  -- what follows the machine
  after_machine : Follows M (operation M o)
  after_machine = follows M o (sound_current b r₀ w.passes) (sound_below b r₀ w.passes)

  -- the machine M' is left in the state f' and the memory of h, with the triangle buffer xs'
  module _ (M' : Machine) (x : Next M M') (f' : Front) (h : Held) (same-loops : f'.loops ≡ h.loops)
      (k : Keeps max_places f' h.memory M') where
    stated_same : M'.stated ≡ f.stated
    unfolding view
    stated_same = x.stated ∙ w.keeps.stated

    few_loops : f'.loops.live ≤ max_loops
    few_loops =
        let e : f'.loops.live ≡ length M'.loops =
        stands_live max_places f'.loops h.memory (rings_in max_places f'.loops h.memory) k.stands
        ∙ sym (ap length k.loops ∙ named_lives (vertices_of max_places h.memory) (rings_in max_places f'.loops h.memory)) in
        let g : M'.stated.loops ≡ f.stated.loops = ap (λ (c : Counts). c.loops) stated_same in
        omega (arith, e, g, (within_each M' x.counts).loops, w.ready.loops)

    written : (touched : List ℕ) → Tidy max_places f.loops m o h touched → (xs' : List ℕ) → length xs' ≡ length xs
        → triangles_built xs' f'.built ≡ M'.triangles → all_below M'.used (take (3 * f'.built) xs') ≡ true
        → Written b o (records max_places m) xs' M' (builder_of f' h.memory) xs' (records max_places h.memory) touched
        (leavers max_places f.loops h)
    written touched t xs' l tr a =
        let b' : Builder = builder_of f' h.memory in
        let c = closes f' h.memory xs' M' k few_loops x.below tr in
        let z = within_each M' x.counts in
        let s₁ : M'.stated.places ≡ M.stated.places = ap (λ (c : Counts). c.places) x.stated in
        let s₂ : M'.stated.loops ≡ M.stated.loops = ap (λ (c : Counts). c.loops) x.stated in
        let s₃ : b'.stated.triangles ≡ f.stated.triangles =
        ap (λ (c : Counts). c.triangles) (c.stated ∙ sym k.stated ∙ stated_same) in
        let u : M'.used ≡ b'.used = k.used ∙ sym c.used in
        let v : f'.built ≡ b'.built = sym c.built in
        let s : Loops = f.loops in
        let after = c.rings ∙ ap (λ (l : Loops). rings_in max_places l h.memory) same-loops in
        record {
          triangles = refl;
          machine = c.machine;
          passes =
              closes_sound f' h.memory xs' M' b' c (ap in_range x.stated ∙ ranges.stated) x.counts
              (omega (arith, x.places, s₁, ranges.places, z.places))
              (omega (arith, x.loops, s₂, ranges.loops, z.loops)) (omega (arith, s₃, room, l))
              (ap₂ (λ (y i : ℕ). all_below y (take (3 * i) xs')) (sym u) (sym v) ∙ a);
          taken = taken_by max_places s m o;
          unused = unused b b' s m o h touched w.ready.stands t w.rings after;
          rings = rings_are b b' s m o h touched w.ready.stands t w.rings after;
          stays = stays b b' s m o h touched w.ready.stands t w.rings after;
          idle = idle b b' s m o h touched w.ready.stands t w.rings after;
          others = others b b' s m o h touched w.ready.stands t w.rings after;
          near = near b b' s m o h touched w.ready.stands t w.rings after;
          left = left b b' s m o h touched w.ready.stands t w.rings after;
          gone = gone b b' s m o h touched w.ready.stands t w.rings after;
          current_past = c.currents_past;
          sizes_past = c.sizes_past;
        }

    -- with the notes of what was touched
    accepts : (touched : List ℕ) → Tidy max_places f.loops m o h touched → length touched ≤ 5 → (xs' : List ℕ) → length xs' ≡ length xs
        → triangles_built xs' f'.built ≡ M'.triangles → all_below M'.used (take (3 * f'.built) xs') ≡ true → 5328 ≤ length h.memory
        → Accepts b o xs' m max_places M' (builder_of f' h.memory) xs'
        (noted h.memory (listed touched) f.loops.free h.loops.free)
    accepts touched t few xs' l tr a long₁ =
        let n₁ : List ℕ = h.memory in
        let k₀ : ℕ = f.loops.free in
        let k₁ : ℕ = h.loops.free in
        let m'' : List ℕ = noted n₁ (listed touched) k₀ k₁ in
        let z : (i : ℕ) → i < 4 * max_places → at m'' i ≡ at n₁ i = λ i j. noted_before n₁ (listed touched) k₀ k₁ i (omega (arith, j)) in
        let lo : k₀ ≤ max_places = omega (arith, places-room max_places f.loops m (rings_in max_places f.loops m) w.ready.stands) in
        let hi : k₁ ≤ max_places =
        subst (λ (q : Loops). q.free ≤ max_places) same-loops
        (omega (arith, places-room max_places f'.loops n₁ (rings_in max_places f'.loops n₁) k.stands)) in
        record {
          whole = refl;
          noted = record {
            few = omega (arith, few, noted_count n₁ (listed touched) k₀ k₁ long₁);
            low = omega (arith, hi, noted_end n₁ (listed touched) k₀ k₁ long₁);
          };
          written =
              rewritten b o (records max_places m) xs' M' (builder_of f' n₁) xs' (records max_places n₁) (records max_places m'') touched
              (leavers max_places f.loops h)
              (to_link m'') (to_free m'') (sym (all_alike n₁ m'' z)) (λ i. noted_links n₁ k₀ k₁ long₁ i touched few)
              (noted_frees n₁ (listed touched) k₀ k₁ long₁ lo hi) (written touched t xs' l tr a);
        }

  -- a planned triangle: t is what the edge rule says
  module _ (p : Plan) (e : decided max_places f m o ≡ Ok (Builds p)) (t : Bool)
      (i : t ≡ edge_rule p.triangle (side_of p.pq) (side_of p.qr) (side_of p.rp) (triangles_built xs f.built)) where
    rule_is : edge_rule p.triangle (side_of p.pq) (side_of p.qr) (side_of p.rp) M.triangles ≡ t
    unfolding view
    rule_is =
        ap (λ (n : ℕ). edge_rule p.triangle (side_of p.pq) (side_of p.qr) (side_of p.rp) (triangles_built xs n)) (sym built_same)
        ∙ sym i

    -- 18
    pub rule_fails : not t ≡ true → OperatesOn b o xs m max_places (refused_with b 18) xs (unnoted m)
    rule_fails h =
        refuses b o xs m max_places m 18 (goes_on ∙ rule_refused max_places f m M o w.keeps ranges p e (rule_is ∙ not-true t h))

    module _ (h : not t ≡ false) where
      abbrev M₁ : Machine
      M₁ = reached M (operation M o)

      builds_it : operation M o ≡ built p.triangle M₁
      builds_it = built_step max_places f m M o w.keeps ranges p e (rule_is ∙ not-false t h)

      grown : Built M p.triangle M₁
      grown = subst (Follows M) builds_it after_machine

      kept : Keeps max_places (built_front max_places f p (held_after max_places f m o p).loops) (held_after max_places f m o p).memory M₁
      kept = built_keeps max_places f m M o w.keeps ranges p e (rule_is ∙ not-false t h)

      pub write_room : (3 * f.built + 3 ≤ length xs) × (f.built < 8192)
      write_room =
          let l : suc (length M.triangles) ≤ M₁.stated.triangles =
          subst (λ (n : ℕ). n ≤ M₁.stated.triangles) (ap length grown.triangles) (within_each M₁ grown.next.counts).triangles in
          let g : M₁.stated.triangles ≡ f.stated.triangles =
          ap (λ (c : Counts). c.triangles) (grown.next.stated ∙ w.keeps.stated) in
          (omega (arith, l, g, w.keeps.triangles, room), omega (arith, l, g, w.keeps.triangles, w.ready.triangles))

      abbrev h₁ : Held
      h₁ = held_after max_places f m o p

      abbrev f₁ : Front
      f₁ = built_front max_places f p h₁.loops

      same₁ : (built_front max_places f p (held_after max_places f m o p).loops).loops ≡ (held_after max_places f m o p).loops
      unfolding built_front
      same₁ = refl

      pub built_live : (f' : Front) → f' ≡ built_front max_places f p (held_after max_places f m o p).loops → f'.loops.live ≤ max_loops
      built_live f' ef = subst (λ (y : Front). y.loops.live ≤ max_loops) (sym ef) (few_loops M₁ grown.next f₁ h₁ same₁ kept)

      built_next : triangles_built (with_triangle b.built p.triangle xs) (f.built + 1) ≡ M₁.triangles
      unfolding view
      built_next =
          let n = b.built in
          let s : f.built + 1 ≡ suc n = omega (arith, built_same) in
          let l : 3 * n + 3 ≤ length xs = omega (arith, write_room.0, built_same) in
          ap (triangles_built (with_triangle n p.triangle xs)) s ∙ written_next xs n p.triangle l ∙ sym grown.triangles

      built_accepts : 5328 ≤ length m
          → Accepts b o (with_triangle b.built p.triangle xs) m max_places M₁
          (builder_of (built_front max_places f p (held_after max_places f m o p).loops) (held_after max_places f m o p).memory)
          (with_triangle b.built p.triangle xs)
          (noted (held_after max_places f m o p).memory (listed (touched_by max_places f.loops m o p.place)) f.loops.free
          (held_after max_places f m o p).loops.free)
      unfolding built_front view
      built_accepts big =
          let n = b.built in
          let s : f.built + 1 ≡ suc n = omega (arith, built_same) in
          let l : 3 * n + 3 ≤ length xs = omega (arith, write_room.0, built_same) in
          let ys : List ℕ = with_triangle n p.triangle xs in
          let u = (decides_as max_places f m M o w.keeps ranges (Ok (Builds p)) e).unchanged.lengths in
          accepts M₁ grown.next f₁ h₁ same₁ kept (touched_by max_places f.loops m o p.place)
          (built_tidy max_places f m M o w.keeps ranges w.ready p e) (few_touched max_places f.loops m o p.place) ys
          (written_long xs n p.triangle l) built_next
          (ap (λ (k : ℕ). all_below M₁.used (take (3 * k) ys)) s
          ∙ written_below xs n p.triangle l b.used M₁.used grown.next.more (parts b r₀ w.passes).triangles
          grown.corners)
          (omega (arith, big, u))

      pub triangle_built : 5328 ≤ length m → (f' : Front) → f' ≡ built_front max_places f p (held_after max_places f m o p).loops
          → (xs' : List ℕ)
          → xs' ≡ with_triangle f.built p.triangle xs → (m₁ : List ℕ) → m₁ ≡ (held_after max_places f m o p).memory → (b' : Builder)
          → b' ≡ builder_of f' m₁ → (t : Touched) → t ≡ listed (touched_by max_places f.loops m o p.place) → (m' : List ℕ)
          → m' ≡ noted m₁ t f.loops.free f'.loops.free → OperatesOn b o xs m max_places (built_with b' p.triangle) xs' m'
      triangle_built big f' ef xs' ex m₁ em b' eb t et m' en =
          let y : operates b r₀ o ≡ built p.triangle M₁ = goes_on ∙ builds_it in
          let ys : List ℕ = with_triangle b.built p.triangle xs in
          let c : b' ≡ builder_of f₁ h₁.memory = eb ∙ ap₂ builder_of ef em in
          let g : xs' ≡ ys = ex ∙ ap (λ (n : ℕ). with_triangle n p.triangle xs) built_same in
          let T : Touched = listed (touched_by max_places f.loops m o p.place) in
          let q : f'.loops.free ≡ h₁.loops.free = ap (λ (z : Front). z.loops.free) ef ∙ ap (λ (z : Loops). z.free) same₁ in
          let r : m' ≡ noted h₁.memory T f.loops.free h₁.loops.free =
          en ∙ ap₂ (λ (z : List ℕ) (v : Touched). noted z v f.loops.free f'.loops.free) em et
          ∙ ap (noted h₁.memory T f.loops.free) q in
          record {
            answer = sym (ap answer_of y);
            after =
                subst (λ (z : Step). Done b o xs m max_places z b' xs' m') (sym y)
                (subst (λ (z : Builder). Accepts b o ys m max_places M₁ z xs' m') (sym c)
                (subst (λ (z : List ℕ). Accepts b o ys m max_places M₁ (builder_of f₁ h₁.memory) z m') (sym g)
                (subst (λ (z : List ℕ). Accepts b o ys m max_places M₁ (builder_of f₁ h₁.memory) ys z) (sym r) (built_accepts big))));
          }

  -- an edge to be marked as border
  module _ (d : Decided) (x y : ℕ) (i : d ≡ decided max_places f m o) (e : d ≡ Ok (Marks x y)) where
    abbrev M₂ : Machine
    M₂ = reached M (operation M o)

    abbrev f₂ : Front
    f₂ = marked_front max_places f (marked_held max_places f.loops m).loops

    abbrev h₂ : Held
    h₂ = marked_held max_places f.loops m

    abbrev m₂ : List ℕ
    m₂ = (marked_held max_places f.loops m).memory

    same₂ : (marked_front max_places f (marked_held max_places f.loops m).loops).loops ≡ (marked_held max_places f.loops m).loops
    unfolding marked_front
    same₂ = refl

    pub mark_live : f.loops.live ≡ 0 → ⊥
    mark_live = marks_live max_places f m o x y (sym i ∙ e)

    declares_it : operation M o ≡ declared (edge x y) M₂
    declares_it = marked_step max_places f m M o w.keeps ranges x y (sym i ∙ e)

    follows_it : Declared M M₂
    follows_it = subst (Follows M) declares_it after_machine

    kept_it : Keeps max_places f₂ m₂ M₂
    kept_it = marked_keeps max_places f m M o w.keeps ranges x y (sym i ∙ e)

    pub marked_live : f₂.loops.live ≤ max_loops
    marked_live = few_loops M₂ follows_it.next f₂ h₂ same₂ kept_it

    marked_next : triangles_built xs f.built ≡ M₂.triangles
    unfolding view
    marked_next = ap (triangles_built xs) built_same ∙ sym follows_it.triangles

    marked_accepts : 5328 ≤ length m
        → Accepts b o xs m max_places M₂ (builder_of f₂ m₂) xs
        (noted m₂ (listed (touched_by max_places f.loops m Border 0)) f.loops.free h₂.loops.free)
    unfolding marked_front view
    marked_accepts big =
        let u = (decides_as max_places f m M o w.keeps ranges (Ok (Marks x y)) (sym i ∙ e)).unchanged.lengths in
        accepts M₂ follows_it.next f₂ h₂ same₂ kept_it (touched_by max_places f.loops m Border 0)
        (marked_tidy max_places f m M o w.keeps ranges w.ready x y (sym i ∙ e)) (few_touched max_places f.loops m Border 0) xs refl
        marked_next
        (ap (λ (k : ℕ). all_below M₂.used (take (3 * k) xs)) built_same
        ∙ below_more b.used M₂.used follows_it.next.more (take (3 * b.built) xs) (parts b r₀ w.passes).triangles)
        (omega (arith, big, u))

    pub edge_marked : 5328 ≤ length m → (b' : Builder) (m' : List ℕ) → MarkedIn f m b' m'
        → OperatesOn b o xs m max_places (marked_with b') xs m'
    edge_marked big b' m' h =
        let z : operates b r₀ o ≡ declared (edge x y) M₂ = goes_on ∙ declares_it in
        record {
          answer = sym (ap answer_of z);
          after =
              subst (λ (s : Step). Done b o xs m max_places s b' xs m') (sym z)
              (subst (λ (c : Builder). Accepts b o xs m max_places M₂ c xs m') (sym h.0)
              (subst (λ (m₁ : List ℕ). Accepts b o xs m max_places M₂ (builder_of f₂ m₂) xs m₁) (sym h.1) (marked_accepts big)));
        }
