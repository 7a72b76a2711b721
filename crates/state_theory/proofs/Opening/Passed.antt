-- A state passes 21 exactly if its numbers fit and its loops can be marked, and then the state and the memory that are made from it
-- keep the machine that it is read as.
-- Assumes nothing.
use Prim.Native.Nat.{ℕ, zero, suc, ◌+◌, ◌*◌, ◌≤◌, ◌<◌}
use native.Mathlib.Omega.{arith}
use mathlib.Core.Bool.{Bool, true, false, ◌&&◌, false≢true}
use mathlib.Core.List.{List}
use mathlib.Core.Path.{◌≡◌, refl, sym, ap, ap₂, ◌∙◌, subst}
use lib.Dec.{eqb, ltb, leb}
use lib.ListN.{length, get_or, replicate}
use borrow.Author.Tests.{ltb-true, ltb-false, leb-true, eq-eqb, ne_eqb}
use Rattle.rules.specs.declared.Place.{Place}
use Rattle.rules.specs.declared.Builder.{Builder}
use Rattle.rules.specs.Limits.{max_places}
use Rattle.rules.specs.Count.{num, occurs}
use Rattle.rules.specs.Machine.{long_enough}
use Rattle.rules.specs.Buffer.{lengths}
use Rattle.rules.specs.Build.{viewed}
use Rattle.rules.specs.View.{place_rings, places_of, loops_of, view}
use Rattle.rules.specs.Sound.{counts_fit, sums_fit, links_fit, triangles_fit, sound}
use Rattle.book.specs.Consistent.{AllCurrent}
use Rattle.book.specs.Sums.{placed}
use Rattle.border_theory.specs.Links.Held.{Memory, Holds, named_loops}
use Rattle.border_theory.specs.Records.Plain.{records}
use Rattle.border_theory.proofs.Records.Reading.{length_records}
use Rattle.cutborder.specs.declared.Loops.{Loops}
use Rattle.cutborder.specs.declared.Front.{Front}
use Rattle.border_theory.specs.Memory.Layout.{at, open_of, column, vertices_of, links_of, stacked}
use Rattle.border_theory.specs.Memory.Stands.{rings_in, loops_in, Waits, Named, StandsAt, Stands}
use Rattle.border_theory.specs.Memory.Keeps.{Roomy, Keeps, Ready}
use Rattle.border_theory.proofs.Memory.Columns.{column_same}
use Rattle.border_theory.proofs.Memory.Standing.{trails, rings_read}
use Rattle.border_theory.proofs.Memory.Relinked.{current_places}
use Rattle.std.specs.Prelude.{Err}
use Rattle.rules.specs.declared.refusal.Refusal.TheVariants.{UnsoundState}
use Rattle.state_theory.specs.Reading.Opens.{lent, SameRecords, Passes, Opens}
use Rattle.state_theory.proofs.Reading.Records.{all_alike}
use Rattle.state_theory.proofs.Reading.Closing.{Has, rings_has}
use Rattle.state_theory.proofs.Reading.Current.{current_loops}
use Rattle.state_theory.specs.Opening.Marks.{numbers_fit, loops_mark, all_flagged, Marked}
use Rattle.state_theory.specs.Opening.Front.{Freed, Waited, top_of, front_of}
use Rattle.state_theory.proofs.Opening.Tests.{CountsFit, counts_fit_lem, SumsFit, sums_fit_lem}
use Rattle.state_theory.proofs.Opening.Writing.{stacked_same}
use Rattle.state_theory.proofs.Opening.Marking.{no_flags, AllFit, marked_fit, flags_are, LoopsFit, loops_fit_lem, marked_links}
use Rattle.state_theory.proofs.Opening.Marking.{links_marked}
use Rattle.state_theory.proofs.Opening.Rings.{rings_of, rings_length, below_none, each_returns, ring_start, ring_length}
use Rattle.state_theory.proofs.Opening.Rings.{rings_placed, rings_hold, rings_named}
use Rattle.counting.proofs.Bools.{and_left, and_right, and_both}
use Rattle.promises.proofs.Kept.{built_long}

-- a test that would make another pass
not_so : (a b : Bool) → (a ≡ true → b ≡ true) → b ≡ false → a ≡ false
not_so true b f h = absurd (false≢true (sym h ∙ f refl))
not_so false b f h = refl

-- the tests of the numbers, one by one
pub record Numbers (b : Builder) (xs : List ℕ) (n : ℕ) : Type 0 where
  pub long : long_enough (record { triangles = length xs; places = n }) b.stated ≡ true
  pub counts : counts_fit b ≡ true
  pub sums : sums_fit b ≡ true
  pub triangles : triangles_fit b xs ≡ true

pub numbers : (b : Builder) (xs : List ℕ) (n : ℕ) → numbers_fit b xs n ≡ true → Numbers b xs n
unfolding numbers_fit
numbers b xs n h =
    let r = long_enough (record { triangles = length xs; places = n }) b.stated in
    let three = and_left (r && counts_fit b && sums_fit b) _ h in
    let two = and_left (r && counts_fit b) _ three in
    record {
      long = and_left r _ two;
      counts = and_right r _ two;
      sums = and_right (r && counts_fit b) _ three;
      triangles = and_right (r && counts_fit b && sums_fit b) _ h;
    }

numbers_back : (b : Builder) (xs : List ℕ) (n : ℕ) → Numbers b xs n → numbers_fit b xs n ≡ true
unfolding numbers_fit
numbers_back b xs n f =
    let r = long_enough (record { triangles = length xs; places = n }) b.stated in
    and_both (r && counts_fit b && sums_fit b) (triangles_fit b xs)
    (and_both (r && counts_fit b) (sums_fit b) (and_both r (counts_fit b) f.long f.counts) f.sums) f.triangles

pub all_places : (b : Builder) (xs : List ℕ) (n : ℕ) → n ≤ max_places → numbers_fit b xs n ≡ true → n ≡ max_places
all_places b xs n h t =
    let l : max_places ≤ n = leb-true max_places n (and_right (leb (3 * b.stated.triangles) (length xs)) _ (numbers b xs n t).long) in
    omega (arith, h, l)

pub few_live : (b : Builder) (xs : List ℕ) (n : ℕ) → numbers_fit b xs n ≡ true → b.live ≤ 100
few_live b xs n t =
    let c = counts_fit_lem b (numbers b xs n t).counts in
    omega (arith, c.live, c.range.loops)

-- 21 is the tests of the numbers and of the links
long_same : (b : Builder) (xs : List ℕ) (n : ℕ) (m : List ℕ)
    → long_enough (lengths (lent xs n m)) b.stated ≡ long_enough (record { triangles = length xs; places = n }) b.stated
long_same b xs n m = ap (λ (z : ℕ). leb (3 * b.stated.triangles) (length xs) && leb max_places z) (length_records n m)

module _ (b : Builder) (xs : List ℕ) (n : ℕ) (m : List ℕ) where
  abbrev long_test : Bool
  long_test = long_enough (lengths (lent xs n m)) b.stated

  abbrev link_test : Bool
  link_test = links_fit b (records n m)

  sound_numbers : sound b (lent xs n m) ≡ true → numbers_fit b xs n ≡ true
  unfolding sound
  sound_numbers h =
      let four = and_left (long_test && counts_fit b && sums_fit b && link_test) _ h in
      let three = and_left (long_test && counts_fit b && sums_fit b) _ four in
      let two = and_left (long_test && counts_fit b) _ three in
      numbers_back b xs n
      (record {
        long = sym (long_same b xs n m) ∙ and_left long_test _ two;
        counts = and_right long_test _ two;
        sums = and_right (long_test && counts_fit b) _ three;
        triangles = and_right (long_test && counts_fit b && sums_fit b && link_test) _ h;
      })

  sound_links : sound b (lent xs n m) ≡ true → links_fit b (records n m) ≡ true
  unfolding sound
  sound_links h =
      and_right (long_test && counts_fit b && sums_fit b) _ (and_left (long_test && counts_fit b && sums_fit b && link_test) _ h)

  sound_by : numbers_fit b xs n ≡ true → links_fit b (records n m) ≡ true → sound b (lent xs n m) ≡ true
  unfolding sound
  sound_by t l =
      let f = numbers b xs n t in
      and_both (long_test && counts_fit b && sums_fit b && link_test) (triangles_fit b xs)
      (and_both (long_test && counts_fit b && sums_fit b) link_test
      (and_both (long_test && counts_fit b) (sums_fit b) (and_both long_test (counts_fit b) (long_same b xs n m ∙ f.long) f.counts)
      f.sums) l)
      f.triangles

  -- a state whose numbers do not fit fails; so does one whose loops cannot be marked
  pub numbers_fail : numbers_fit b xs n ≡ false → sound b (lent xs n m) ≡ false
  numbers_fail h = not_so (sound b (lent xs n m)) (numbers_fit b xs n) sound_numbers h

  pub loops_fail : n ≡ max_places → loops_mark b (records max_places m) (replicate max_places 0) b.live ≡ false
      → sound b (lent xs n m) ≡ false
  loops_fail e h =
      not_so (sound b (lent xs n m)) (loops_mark b (records max_places m) (replicate max_places 0) b.live)
      (λ s. links_marked b (records max_places m) (subst (λ (z : ℕ). links_fit b (records z m) ≡ true) e (sound_links s))) h

-- memories with the same records have the same links and vertices
module _ (m m' : List ℕ) (s : SameRecords m m') where
  col : (k : ℕ) → k < 4 → column m' k max_places ≡ column m k max_places
  col k h = column_same m m' k max_places (λ j l. s (4 * j + k) (omega (arith, h, l)))

  links_same : links_of max_places m' ≡ links_of max_places m
  links_same t = record { afters = col 2 (omega arith) t; befores = col 1 (omega arith) t; opens = col 3 (omega arith) t }

  vertices_same : vertices_of max_places m' ≡ vertices_of max_places m
  vertices_same = col 0 (omega arith)

-- a place is in a loop once, or free
once_or_free : (o f : ℕ) → f ≡ o + 0 → o + 0 ≤ 1 → o + num (eqb f 0) ≡ 1
once_or_free zero f e h = omega (arith, ap num (eq-eqb f 0 (omega (arith, e))))
once_or_free (suc zero) f e h = omega (arith, ap num (ne_eqb f 0 (λ q. omega (arith, e, q))))
once_or_free (suc (suc o)) f e h = absurd (omega (arith, h))

-- a state that passes
module _ (b : Builder) (xs m s : List ℕ) (k : ℕ) (m₁ m₂ : List ℕ) (ones : (p : ℕ) → p < max_places → open_of m p ≤ 1)
    (fits : numbers_fit b xs max_places ≡ true) (marks : loops_mark b (records max_places m) (replicate max_places 0) b.live ≡ true)
    (flags : s ≡ all_flagged b (records max_places m) (replicate max_places 0) b.live) (freed : Freed s m k m₁)
    (waited : Waited b m₁ b.live m₂)
    (long : 5320 ≤ length m) where
  abbrev ps : List Place
  ps = records max_places m

  abbrev is : List ℕ
  is = places_of b ps b.live

  abbrev loops : Loops
  loops = (front_of b k).loops

  pub same_records : SameRecords m m₂
  same_records i l = waited.same i (omega (arith, l)) ∙ freed.same i l

  counted : CountsFit b
  counted = counts_fit_lem b (numbers b xs max_places fits).counts

  summed : SumsFit b
  summed = sums_fit_lem b (numbers b xs max_places fits).sums

  fit : LoopsFit b ps (replicate max_places 0) b.live
  fit = loops_fit_lem b ps (replicate max_places 0) b.live marks

  all_fit : AllFit ps b.used (replicate max_places 0) (λ x. 0) is
  all_fit = marked_fit ps b.used (replicate max_places 0) (λ x. 0) is no_flags fit.places

  long₂ : 5320 ≤ length m₂
  long₂ = omega (arith, waited.lengths, freed.lengths, long)

  flag_at : (x : ℕ) → x < max_places → get_or s x 0 ≡ occurs x is + 0
  flag_at x l =
      ap (λ (z : List ℕ). get_or z x 0) (flags ∙ flags_are b ps (replicate max_places 0) b.live) ∙ all_fit.counts x l

  each : (x : ℕ) → placed x (rings_of b m b.live) + stacked max_places m₂ k x ≡ num (ltb x max_places)
  each x =
      ap (λ (z : ℕ). z + stacked max_places m₂ k x) (rings_placed m b x b.live fit.fits)
      ∙ ap (λ (z : ℕ). occurs x is + z)
      (stacked_same m₁ m₂ k x (λ j l. waited.same (4 * max_places + j) (omega (arith, l, freed.few))) ∙ freed.stack x)
      ∙ go (ltb x max_places) refl
    where
      go : (t : Bool) → ltb x max_places ≡ t → occurs x is + num (t && eqb (get_or s x 0) 0) ≡ num t
      go true e = once_or_free (occurs x is) (get_or s x 0) (flag_at x (ltb-true x max_places e)) (all_fit.once x)
      go false e = omega (arith, below_none max_places is all_fit.below x (ltb-false x max_places e))

  -- the loops' heads
  waits_by : (n : ℕ) → n ≤ b.live → Waits max_places m₂ (rings_of b m n)
  unfolding rings_of
  waits_by zero h = tt
  waits_by (suc n) h =
      let r = each_returns m b b.live fit.fits n (omega (arith, h)) in (
        ap (λ (z : ℕ). at m₂ (5 * max_places + 2 * z)) (rings_length b m n) ∙ waited.places n (omega (arith, h)) ∙ sym (ring_start m b n r),
        ap (λ (z : ℕ). at m₂ (5 * max_places + 2 * z + 1)) (rings_length b m n) ∙ waited.sizes n (omega (arith, h))
            ∙ sym (ring_length m b n),
        waits_by n (omega (arith, h)),
      )

  heads_by : (n : ℕ) → n ≤ b.live → (l : Loops) → l.live ≡ n → l.current ≡ top_of b.current n → l.size ≡ top_of b.sizes n
      → Named max_places l m₂ (rings_of b m n)
  unfolding rings_of
  heads_by zero h l e c z = e
  heads_by (suc n) h l e c z =
      let r = each_returns m b b.live fit.fits n (omega (arith, h)) in
      record {
        live = e ∙ ap suc (sym (rings_length b m n));
        current = c ∙ sym (ring_start m b n r);
        size = z ∙ sym (ring_length m b n);
        waiting = waits_by n (omega (arith, h));
      }

  stands_at : StandsAt max_places loops m₂ (rings_of b m b.live)
  stands_at = record {
    long = omega (arith, long₂, counted.live, counted.range.loops);
    holds =
        subst (λ (M : Memory). Holds M (rings_of b m b.live)) (sym (links_same m m₂ same_records))
        (rings_hold m b ones b.used b.live fit.fits all_fit.fit);
    each = each;
    heads = heads_by b.live (omega arith) loops refl refl refl;
    sound =
        current_places (vertices_of max_places m) (rings_of b m b.live)
        (subst AllCurrent (rings_named m b ones b.live all_fit.below)
        (current_loops ps b b.used b.live all_fit.fit fit.fits));
  }

  rings_in_lem : rings_in max_places loops m₂ ≡ rings_of b m b.live
  rings_in_lem = rings_read max_places loops m₂ (rings_of b m b.live) stands_at

  stands : Stands max_places loops m₂
  stands = subst (StandsAt max_places loops m₂) (sym rings_in_lem) stands_at

  has_by : (n : ℕ) → n ≤ b.live → Has b (rings_of b m n)
  unfolding rings_of
  has_by zero h = tt
  has_by (suc n) h =
      let r = each_returns m b b.live fit.fits n (omega (arith, h)) in (
        ap (λ (j : ℕ). get_or b.current j 0) (rings_length b m n) ∙ sym (ring_start m b n r),
        ap (λ (j : ℕ). get_or b.sizes j 0) (rings_length b m n) ∙ sym (ring_length m b n),
        has_by n (omega (arith, h)),
      )

  place_rings_lem : place_rings b ps b.live ≡ rings_in max_places loops m₂
  place_rings_lem =
      ap₂ (λ (qs : List Place) (n : ℕ). place_rings b qs n) (sym (all_alike m m₂ same_records)) (sym (rings_length b m b.live))
      ∙ rings_has b max_places m₂ (rings_of b m b.live) (has_by b.live (omega arith))
      (trails max_places loops m₂ (rings_of b m b.live) stands_at)
      ∙ sym rings_in_lem

  room : Roomy max_places (front_of b k) m₂
  room = record {
    few = omega arith;
    enough = counted.range.places;
    long = omega (arith, long₂, counted.range.loops);
  }

  ready : Ready max_places (front_of b k) m₂
  ready = record {
    roomy = room;
    stands = stands;
    vertices = counted.range.vertices;
    triangles = counted.range.triangles;
    loops = counted.range.loops;
    used = omega (arith, counted.used, counted.range.vertices);
    built = omega (arith, counted.built, counted.range.triangles);
    edges = omega (arith, summed.edges, counted.range.triangles);
    starts = omega (arith, summed.starts, counted.range.triangles);
    unions = omega (arith, summed.unions, counted.range.triangles);
    rims = omega (arith, summed.rims, counted.range.triangles);
  }

  loops_are : loops_of b ps b.live ≡ loops_in max_places loops m₂
  loops_are =
      rings_named m b ones b.live all_fit.below
      ∙ ap (λ (vs : List ℕ). named_loops vs (rings_of b m b.live)) (sym (vertices_same m m₂ same_records))
      ∙ ap (named_loops (vertices_of max_places m₂)) (sym rings_in_lem)

  keeps : Keeps max_places (front_of b k) m₂ (viewed b (lent xs max_places m))
  unfolding view
  keeps = record {
    roomy = room;
    stands = stands;
    loops = loops_are;
    stated = refl;
    used = refl;
    triangles = built_long xs b.built;
    most_places = refl;
    most_loops = refl;
    edges = refl;
    starts = refl;
    unions = refl;
    rims = refl;
  }

  pub passes : (n : ℕ) → n ≡ max_places → Passes b xs n m (front_of b k) m₂
  passes n e = subst (λ (z : ℕ). Passes b xs z m (front_of b k) m₂) (sym e) (record {
    passes = sound_by b xs max_places m fits (marked_links b ps marks);
    whole = refl;
    ready = ready;
    keeps = keeps;
    rings = place_rings_lem;
    lengths = waited.lengths ∙ freed.lengths;
    same = same_records;
  })

-- what the function that opens a state answers, from the answers of its parts
pub fails_first : (b : Builder) (xs : List ℕ) (n : ℕ) (m : List ℕ) (r : Bool) → r ≡ numbers_fit b xs n → r ≡ false
    → Opens b xs n m (Err UnsoundState) m
fails_first b xs n m r e h = (refl, (numbers_fail b xs n m (sym e ∙ h), λ i l. refl))

pub fails_second : (b : Builder) (xs : List ℕ) (n : ℕ) (m s s' : List ℕ) (r t : Bool) → n ≤ max_places → r ≡ numbers_fit b xs n → r ≡ true
    → Marked (loops_mark b (records max_places m) (replicate max_places 0) b.live) s t s' → t ≡ false
    → Opens b xs n m (Err UnsoundState) m
fails_second b xs n m s s' r t few e h g f =
    (refl, (loops_fail b xs n m (all_places b xs n few (sym e ∙ h)) (sym g.0 ∙ f), λ i l. refl))

pub live_few : (b : Builder) (xs : List ℕ) (n : ℕ) (r : Bool) → r ≡ numbers_fit b xs n → r ≡ true → b.live ≤ 100
live_few b xs n r e h = few_live b xs n (sym e ∙ h)

pub opens : (b : Builder) (xs : List ℕ) (n : ℕ) (m s : List ℕ) (k : ℕ) (m₁ m₂ : List ℕ) (f : Front) (r t : Bool) → n ≤ max_places
    → ((p : ℕ) → p < max_places → open_of m p ≤ 1) → r ≡ numbers_fit b xs n → r ≡ true
    → Marked (loops_mark b (records max_places m) (replicate max_places 0) b.live)
    (all_flagged b (records max_places m) (replicate max_places 0) b.live) t s
    → t ≡ true → Freed s m k m₁ → Waited b m₁ b.live m₂ → 5320 ≤ length m → f ≡ front_of b k → Passes b xs n m f m₂
opens b xs n m s k m₁ m₂ f r t few ones e h g q freed waited long ef =
    let w = all_places b xs n few (sym e ∙ h) in
    subst (λ (z : Front). Passes b xs n m z m₂) (sym ef)
    (passes b xs m s k m₁ m₂ ones (subst (λ (z : ℕ). numbers_fit b xs z ≡ true) w (sym e ∙ h)) (sym g.0 ∙ q) (g.1 q) freed waited long n
    w)
