-- One call: its answer is the book's, and state and buffers hold the book's machine after it.
-- Assumes nothing.
use Prim.Native.Nat.{ℕ, zero, suc, ◌+◌, ◌*◌, ◌≤◌, ◌<◌}
use native.Mathlib.Omega.{arith}
use mathlib.Core.Bool.{Bool, true, false, ◌&&◌, false≢true, true≢false}
use mathlib.Core.List.{List}
use mathlib.Core.Path.{◌≡◌, refl, sym, ap, ap₂, ◌∙◌, subst}
use lib.ListN.{length, drop, replicate, length-append, length-drop, length-replicate, get_or-append, get_or-replicate}
use lib.Dec.{leb}
use borrow.Author.Tests.{leb-true, le-leb}
use Rattle.rules.specs.declared.Counts.{Counts}
use Rattle.rules.specs.declared.Operation.{Operation}
use Rattle.rules.specs.declared.Place.{Place}
use Rattle.rules.specs.declared.Builder.{Builder}
use Rattle.rules.specs.Checked.{Checked}
use Rattle.rules.specs.Checked.{Accepted, Refused}
use Rattle.rules.specs.Limits.{max_places, in_range}
use Rattle.rules.specs.Count.{occurs}
use Rattle.rules.specs.Check.{all_below}
use Rattle.rules.specs.Machine.{Machine, empty, Step, refused, begun, built, declared, finished, long_enough, operation}
use Rattle.rules.specs.Machine.{beginning, finishing}
use Rattle.rules.specs.Answer.{Answer, accepted, checked_answer, begun_answer}
use Rattle.rules.specs.Book.{operate, finish, Book, recounted, empty_book, entered, answer_of, after, is_accepted}
use Rattle.rules.specs.Calls.{last_state}
use Rattle.rules.specs.Buffer.{free_place, cleared, Buffers, Lengths, lengths}
use Rattle.rules.specs.View.{place_at, view, triangles_built, places_of, loops_of}
use Rattle.counting.proofs.Triangles.{written_long}
use Rattle.rules.specs.Sound.{sizes_of, counts_fit, sums_fit, apart, places_fit, loops_fit, links_fit, triangles_fit, sound, sound_else}
use Rattle.rules.specs.Build.{viewed, operates, begun_builder, begun_buffers, BegunBy, NoPlace, Leaves, OperatedBy}
use Rattle.book.specs.Consistent.{Ranges}
use Rattle.book.specs.Reached.{reached}
use Rattle.book.proofs.Kept.{test_law}
use Rattle.book.proofs.Growing.{Grows, grows}
use Rattle.book.proofs.Bounds.{bounded_ranges, within_triangles}
use Rattle.book.proofs.Calls.{Holds, holds_kept, machine_entered, refused_same, recounted_same, finish_same}
use Rattle.promises.specs.BuildersBook.{World, buffers_of, lengths_of, BeginningCalled, OperationCalled, FinishCalled}
use Rattle.counting.proofs.Bools.{and_left, and_right}

-- the machine that a world is read as
abbrev pub view_of : World → Machine
view_of w = viewed w.state (buffers_of w)

-- the records that are no live loop's places are zero
abbrev Free : Builder → Buffers → Type 0
Free b r = (i : ℕ) → i < max_places → NoPlace b r i → place_at r.places i ≡ free_place

-- the buffers have the lengths r; state and buffers pass 21 and hold the book's machine
pub record Agrees (r : Lengths) (w : World) (b : Book) : Type 0 where
  pub passes : sound w.state (buffers_of w) ≡ true
  pub long : lengths_of w ≡ r
  pub same : view_of w ≡ b.machine
  pub free : Free w.state (buffers_of w)

-- what 21 tests
abbrev long_fits : Builder → Buffers → Bool
long_fits b r = long_enough (lengths r) b.stated

sound_all : (b : Builder) (r : Buffers) → long_fits b r ≡ true → counts_fit b ≡ true → sums_fit b ≡ true → links_fit b r.places ≡ true
    → triangles_fit b r.triangles ≡ true → sound b r ≡ true
unfolding sound
sound_all b r x₁ x₂ x₃ x₄ x₅ = ap₂ ◌&&◌ (ap₂ ◌&&◌ (ap₂ ◌&&◌ (ap₂ ◌&&◌ x₁ x₂) x₃) x₄) x₅

pub sound_long : (b : Builder) (r : Buffers) → sound b r ≡ true → long_enough (lengths r) b.stated ≡ true
unfolding sound
sound_long b r h =
    let x₁ = long_fits b r in
    let x₂ = x₁ && counts_fit b in
    let x₃ = x₂ && sums_fit b in
    let x₄ = x₃ && links_fit b r.places in
    and_left x₁ (counts_fit b)
    (and_left x₂ (sums_fit b) (and_left x₃ (links_fit b r.places) (and_left x₄ (triangles_fit b r.triangles) h)))

pub sound_links : (b : Builder) (r : Buffers) → sound b r ≡ true → links_fit b r.places ≡ true
unfolding sound
sound_links b r h =
    let x₃ = long_fits b r && counts_fit b && sums_fit b in
    let x₄ = x₃ && links_fit b r.places in
    and_right x₃ (links_fit b r.places) (and_left x₄ (triangles_fit b r.triangles) h)

-- a state that was just begun passes, and is read as the empty machine
begun_links : (s : Counts) (ps : List Place) → links_fit (begun_builder s) ps ≡ true
unfolding links_fit places_of apart places_fit loops_fit all_below
begun_links s ps = refl

begun_counts : (s : Counts) → in_range s ≡ true → counts_fit (begun_builder s) ≡ true
unfolding sizes_of
begun_counts s h =
    let z : (n : ℕ) → leb 0 n ≡ true = λ n. le-leb 0 n (omega arith) in
    ap₂ ◌&&◌
    (ap₂ ◌&&◌ (ap₂ ◌&&◌ (ap₂ ◌&&◌ (ap₂ ◌&&◌ (ap₂ ◌&&◌ h (z s.vertices)) (z s.triangles)) (z s.loops)) (z s.places))
    (z s.loops))
    (z s.places)

begun_sums : (s : Counts) → sums_fit (begun_builder s) ≡ true
begun_sums s =
    let z : leb 0 (3 * s.triangles) ≡ true = le-leb 0 (3 * s.triangles) (omega arith) in
    ap₂ ◌&&◌ (ap₂ ◌&&◌ (ap₂ ◌&&◌ z z) z) z

begun_triangles : (s : Counts) (xs : List ℕ) → triangles_fit (begun_builder s) xs ≡ true
unfolding all_below
begun_triangles s xs = refl

pub begun_viewed : (s : Counts) (r : Buffers) → viewed (begun_builder s) r ≡ empty s
unfolding view triangles_built loops_of
begun_viewed s r = refl

-- the place list after a beginning: its records, and how many they are
cleared_free : (ps : List Place) (i : ℕ) → i < max_places → place_at (cleared ps) i ≡ free_place
unfolding cleared
cleared_free ps i h =
    get_or-append (replicate max_places free_place) (drop max_places ps) free_place i
    (omega (arith, h, length-replicate max_places free_place))
    ∙ get_or-replicate max_places i free_place free_place h

cleared_long : (ps : List Place) → max_places ≤ length ps → length (cleared ps) ≡ length ps
unfolding cleared
cleared_long ps h =
    length-append (replicate max_places free_place) (drop max_places ps)
    ∙ omega (arith, length-replicate max_places free_place, length-drop max_places ps, h)

long_places : (r : Lengths) (s : Counts) → long_enough r s ≡ true → max_places ≤ r.places
long_places r s h = leb-true max_places r.places (and_right (leb (3 * s.triangles) r.triangles) (leb max_places r.places) h)

long_triangles : (r : Lengths) (s : Counts) → long_enough r s ≡ true → 3 * s.triangles ≤ r.triangles
long_triangles r s h =
    leb-true (3 * s.triangles) r.triangles (and_left (leb (3 * s.triangles) r.triangles) (leb max_places r.places) h)

-- a beginning that passes 13 and 14
pub record LongEnough (r : Lengths) (s : Counts) (x : Step) : Type 0 where
  pub step : x ≡ begun (empty s)
  pub range : in_range s ≡ true
  pub long : long_enough r s ≡ true

pub begins_long_enough : (r : Lengths) (s : Counts) → is_accepted (beginning r s) ≡ true → LongEnough r s (beginning r s)
unfolding beginning
begins_long_enough r s =
    test_law (λ (x : Step). is_accepted x ≡ true → LongEnough r s x) (in_range s) _ _ (λ h. absurd (false≢true h))
    (λ i. test_law (λ (x : Step). is_accepted x ≡ true → LongEnough r s x) (long_enough r s) _ _ (λ h. absurd (false≢true h))
    (λ j h. record { step = refl; range = i; long = j }))

-- what the answer to a beginning says of state and buffers
begun_as : (b : Builder) (r : Buffers) (s : Counts) (x : Checked) (b' : Builder) (r' : Buffers) → checked_answer x ≡ accepted
    → BegunBy r s x b' r' → (last_state b x b' ≡ begun_builder s) × (r' ≡ begun_buffers r)
begun_as b r s Accepted b' r' h k = k
begun_as b r s (Refused n) b' r' h k = let z : ◌≡◌ {A = ℕ} 0 1 = cc in absurd (omega arith)

refused_as : (b : Builder) (r : Buffers) (s : Counts) (x : Checked) (b' : Builder) (r' : Buffers) (y : Step) → is_accepted y ≡ false
    → checked_answer x ≡ answer_of y → BegunBy r s x b' r' → (last_state b x b' ≡ b) × (r' ≡ r)
refused_as b r s (Refused n) b' r' y f h k = (refl, k.1)
refused_as b r s Accepted b' r' (refused n) f h k = let z : ◌≡◌ {A = ℕ} 0 1 = cc in absurd (omega arith)
refused_as b r s Accepted b' r' (begun m) f h k = absurd (true≢false f)
refused_as b r s Accepted b' r' (built t m) f h k = absurd (true≢false f)
refused_as b r s Accepted b' r' (declared d m) f h k = absurd (true≢false f)
refused_as b r s Accepted b' r' (finished n) f h k = absurd (true≢false f)

abbrev world_of : Builder → Buffers → World
world_of b r = record { state = b; triangles = r.triangles; places = r.places }

same_world : (b b' : Builder) (r r' : Buffers) → b ≡ b' → r ≡ r' → world_of b r ≡ world_of b' r'
same_world b b' r r' e f i = record { state = e i; triangles = (f i).triangles; places = (f i).places }

pub built_long : (xs : List ℕ) (n : ℕ) → length (triangles_built xs n) ≡ n
unfolding triangles_built
built_long xs zero = refl
built_long xs (suc n) = ap suc (built_long xs n)

-- there is room for it
abbrev Writes : Builder → Buffers → Step → Type 0
Writes b r (refused n) = Unit {0}
Writes b r (begun m) = Unit {0}
Writes b r (built t m) = 3 * b.built + 3 ≤ length r.triangles
Writes b r (declared d m) = Unit {0}
Writes b r (finished x) = Unit {0}

writes : (b : Builder) (r : Buffers) (k : Book) (x : Step) → sound b r ≡ true → viewed b r ≡ k.machine → Grows k.machine x
    → Holds (entered k x)
    → Writes b r x
unfolding view
writes b r k (refused n) h e g l = tt
writes b r k (begun m) h e g l = tt
writes b r k (built t m) h e g l =
    let f : length m.triangles ≡ suc b.built =
    ap length g.0 ∙ ap (λ (n : Machine). suc (length n.triangles)) (sym e) ∙ ap suc (built_long r.triangles b.built) in
    let c : m.stated.triangles ≡ b.stated.triangles =
    ap (λ (c : Counts). c.triangles) (g.1 ∙ ap (λ (n : Machine). n.stated) (sym e)) in
    omega (arith, f, c, within_triangles m l.bounded.counts, long_triangles (lengths r) b.stated (sound_long b r h))
writes b r k (declared d m) h e g l = tt
writes b r k (finished x) h e g l = tt

-- what 21 asks but for the sums, and these
sound_else_lem : (b : Builder) (r : Buffers) → sound_else b r ≡ true → sums_fit b ≡ true → sound b r ≡ true
unfolding sound_else
sound_else_lem b r h s =
    let x₂ = long_fits b r && counts_fit b in
    let x₃ = x₂ && links_fit b r.places in
    let h₃ = and_left x₃ (triangles_fit b r.triangles) h in
    let h₂ = and_left x₂ (links_fit b r.places) h₃ in
    sound_all b r (and_left (long_fits b r) (counts_fit b) h₂) (and_right (long_fits b r) (counts_fit b) h₂) s
    (and_right x₂ (links_fit b r.places) h₃) (and_right x₃ (triangles_fit b r.triangles) h)

-- what an operation leaves
module _ (b : Builder) (r : Buffers) (o : Operation) (b' : Builder) (r' : Buffers) where
  pub operated_same : (x : Step) → OperatedBy b r o x b' r' → is_accepted x ≡ false → (b' ≡ b) × (r' ≡ r)
  operated_same (refused n) a h = a
  operated_same (begun m) a h = absurd a
  operated_same (built t m) a h = absurd (true≢false h)
  operated_same (declared d m) a h = absurd (true≢false h)
  operated_same (finished y) a h = absurd a

  pub operated_view : (M : Machine) (x : Step) → OperatedBy b r o x b' r' → is_accepted x ≡ true → viewed b' r' ≡ reached M x
  operated_view M (refused n) a h = absurd (false≢true h)
  operated_view M (begun m) a h = absurd a
  operated_view M (built t m) a h = a.machine
  operated_view M (declared d m) a h = a.machine
  operated_view M (finished y) a h = absurd a

  operated_passes : (x : Step) → OperatedBy b r o x b' r' → is_accepted x ≡ true → sums_fit b' ≡ true → sound b' r' ≡ true
  operated_passes (refused n) a h = absurd (false≢true h)
  operated_passes (begun m) a h = absurd a
  operated_passes (built t m) a h = sound_else_lem b' r' a.passes
  operated_passes (declared d m) a h = sound_else_lem b' r' a.passes
  operated_passes (finished y) a h = absurd a

  leaves_free : {xs : List ℕ} {m : Machine} → Leaves b r o xs m b' r' → Free b r → Free b' r'
  leaves_free a f i h n = go (occurs i (places_of b r.places b.live)) refl
    where
      go : (k : ℕ) → occurs i (places_of b r.places b.live) ≡ k → place_at r'.places i ≡ free_place
      go zero e = a.idle i e n ∙ f i h e
      go (suc k) e = a.left i (omega (arith, e)) n

  operated_free : (x : Step) → OperatedBy b r o x b' r' → is_accepted x ≡ true → Free b r → Free b' r'
  operated_free (refused n) a h f = absurd (false≢true h)
  operated_free (begun m) a h f = absurd a
  operated_free (built t m) a h f = leaves_free a f
  operated_free (declared d m) a h f = leaves_free a f
  operated_free (finished y) a h f = absurd a

  operated_long : (x : Step) → OperatedBy b r o x b' r' → is_accepted x ≡ true → Writes b r x → lengths r' ≡ lengths r
  operated_long (refused n) a h k = absurd (false≢true h)
  operated_long (begun m) a h k = absurd a
  operated_long (built t m) a h k = λ i. record {
    triangles = (ap length a.triangles ∙ written_long r.triangles b.built t k) i;
    places = a.long i;
  }
  operated_long (declared d m) a h k = λ i. record { triangles = ap length a.triangles i; places = a.long i }
  operated_long (finished y) a h k = absurd a

-- the sums of a machine within 21's bounds
ranges_sums : (b : Builder) (r : Buffers) → Ranges (viewed b r) → sums_fit b ≡ true
unfolding view
ranges_sums b r k =
    let n = 3 * b.stated.triangles in
    ap₂ ◌&&◌ (ap₂ ◌&&◌ (ap₂ ◌&&◌ (le-leb b.edges n k.edges) (le-leb b.starts n k.starts)) (le-leb b.unions n k.unions))
    (le-leb b.rims n k.rims)

same_lengths : (t p p' : ℕ) → p ≡ p' → ◌≡◌ {A = Lengths} (record { triangles = t; places = p }) (record { triangles = t; places = p' })
same_lengths t p p' e i = record { triangles = t; places = e i }

module _ (R : Lengths) where
  -- the world after an accepted beginning
  begun_agrees : (w : World) (s : Counts) → lengths_of w ≡ R → LongEnough R s (beginning R s)
      → Agrees R (world_of (begun_builder s) (begun_buffers (buffers_of w))) (empty_book s)
  begun_agrees w s l k =
      let r : Buffers = begun_buffers (buffers_of w) in
      let m : max_places ≤ length w.places = omega (arith, long_places R s k.long, ap (λ (x : Lengths). x.places) l) in
      let e : lengths r ≡ R = same_lengths (length w.triangles) (length (cleared w.places)) (length w.places)
      (cleared_long w.places m) ∙ l in
      record {
        passes =
            sound_all (begun_builder s) r (ap (λ (x : Lengths). long_enough x s) e ∙ k.long) (begun_counts s k.range) (begun_sums s)
            (begun_links s r.places)
            (begun_triangles s r.triangles);
        long = e;
        same = begun_viewed s r;
        free = λ i h n. cleared_free w.places i h;
      }

  module _ (s : Counts) (w : World) (a : Answer) (v : World) (l : lengths_of w ≡ R) (c : BeginningCalled s w a v) where
    begin_answered : begun_answer c.result ≡ answer_of (beginning R s)
    begin_answered = c.promised.answer ∙ ap (λ (r : Lengths). answer_of (beginning r s)) l

    pub begin_answer : a ≡ answer_of (beginning R s)
    begin_answer = c.answer ∙ begin_answered

    pub begin_agrees : is_accepted (beginning R s) ≡ true → Agrees R v (empty_book s)
    begin_agrees h =
        let e : begun_answer c.result ≡ accepted = begin_answered ∙ ap answer_of (begins_long_enough R s h).step in
        let x = begun_as w.state (buffers_of w) s c.result.answer c.result.state (buffers_of v) e c.promised.after in
        let f : v ≡ world_of (begun_builder s) (begun_buffers (buffers_of w)) =
        same_world v.state (begun_builder s) (buffers_of v) (begun_buffers (buffers_of w)) (c.state ∙ x.0) x.1 in
        subst (λ (u : World). Agrees R u (empty_book s)) (sym f) (begun_agrees w s l (begins_long_enough R s h))

    pub begin_refused : is_accepted (beginning R s) ≡ false → v ≡ w
    begin_refused h =
        let x =
        refused_as w.state (buffers_of w) s c.result.answer c.result.state (buffers_of v) (beginning R s) h begin_answered
        c.promised.after in
        same_world v.state w.state (buffers_of v) (buffers_of w) (c.state ∙ x.0) x.1

  module _ (o : Operation) (w : World) (a : Answer) (v : World) (b : Book) (k : Holds b) (g : Agrees R w b)
      (c : OperationCalled o w a v) where
    goes_on : operates w.state (buffers_of w) o ≡ operation b.machine o
    goes_on =
        ap (λ (t : Bool). elim t [ true ↦ operation (view_of w) o | false ↦ refused 21 ]) g.passes
        ∙ ap (λ (m : Machine). operation m o) g.same

    operated : OperatedBy w.state (buffers_of w) o (operation b.machine o) v.state (buffers_of v)
    operated =
        subst (λ (x : Step). OperatedBy w.state (buffers_of w) o x v.state (buffers_of v)) goes_on
        (subst (λ (b₁ : Builder). OperatedBy w.state (buffers_of w) o (operates w.state (buffers_of w) o) b₁ (buffers_of v))
        (sym c.state) c.promised.after)

    pub operate_answer : a ≡ answer_of (operation b.machine o)
    operate_answer = c.answer ∙ c.promised.answer ∙ ap answer_of goes_on

    operate_refused : is_accepted (operation b.machine o) ≡ false → v ≡ w
    operate_refused h =
        let x = operated_same w.state (buffers_of w) o v.state (buffers_of v) (operation b.machine o) operated h in
        same_world v.state w.state (buffers_of v) (buffers_of w) x.0 x.1

    operate_accepted : is_accepted (operation b.machine o) ≡ true → Agrees R v (entered b (operation b.machine o))
    operate_accepted h =
        let x = operation b.machine o in
        let n : Holds (entered b x) = holds_kept R b k (operate o) in
        let e : view_of v ≡ (entered b x).machine =
        operated_view w.state (buffers_of w) o v.state (buffers_of v) b.machine x operated h ∙ sym (machine_entered b x) in
        let f = subst Ranges (sym e) (bounded_ranges (entered b x) n.bounded) in
        let m = writes w.state (buffers_of w) b x g.passes g.same (grows b.machine o x refl) n in
        record {
          passes = operated_passes w.state (buffers_of w) o v.state (buffers_of v) x operated h
              (ranges_sums v.state (buffers_of v) f);
          long = operated_long w.state (buffers_of w) o v.state (buffers_of v) x operated h m ∙ g.long;
          same = e;
          free = operated_free w.state (buffers_of w) o v.state (buffers_of v) x operated h g.free;
        }

    operate_by : (t : Bool) → is_accepted (operation b.machine o) ≡ t → Agrees R v (entered b (operation b.machine o))
    operate_by true h = operate_accepted h
    operate_by false h = rw (operate_refused h, refused_same b (operation b.machine o) h) g

    pub operate_agrees : Agrees R v (after R b (operate o))
    operate_agrees = operate_by (is_accepted (operation b.machine o)) refl

  module _ (w : World) (a : Answer) (v : World) (b : Book) (k : Holds b) (g : Agrees R w b) (c : FinishCalled w a v) where
    pub finish_answer_lem : a ≡ answer_of (finishing (recounted b.machine))
    finish_answer_lem =
        c.answer ∙ c.promised.answer
        ∙ ap (λ (t : Bool). answer_of (elim t [ true ↦ finishing (view_of w) | false ↦ refused 21 ])) g.passes
        ∙ ap (λ (m : Machine). answer_of (finishing m)) (g.same ∙ sym (recounted_same b k.consistent))

    pub finish_agrees : Agrees R v (after R b finish)
    finish_agrees = rw (c.same, finish_same b (recounted b.machine)) g
