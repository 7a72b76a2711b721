-- From the core's promise over the plain memory to the lent list, to which the records that are noted are written back.
-- Assumes nothing.
use Prim.Native.Nat.{ℕ, zero, suc, ◌+◌, ◌-◌, ◌*◌, ◌≤◌, ◌<◌}
use native.Mathlib.Omega.{arith}
use mathlib.Core.Bool.{Bool, true, false, ◌&&◌}
use mathlib.Core.List.{List, [], ◌∷◌}
use mathlib.Core.Path.{◌≡◌, refl, sym, ap, ap₂, ◌∙◌, subst}
use lib.ListN.{length, take}
use lib.Seq.{get_or-take}
use lib.Dec.{eqb, ltb, leb}
use borrow.Author.Tests.{le-leb, ltb-true, ltb-false, eqb-true, eqb-false}
use Rattle.rules.specs.declared.Operation.{Operation}
use Rattle.rules.specs.declared.Place.{Place}
use Rattle.rules.specs.declared.Builder.{Builder}
use Rattle.rules.specs.Operated.{Performed}
use Rattle.rules.specs.Limits.{max_places}
use Rattle.rules.specs.Count.{same, occurs}
use Rattle.rules.specs.Check.{all_below}
use Rattle.rules.specs.Places.{rings_after}
use Rattle.rules.specs.Machine.{Machine, Step, refused, begun, built, declared, finished, operation, finishing, long_enough}
use Rattle.rules.specs.Answer.{refusal}
use Rattle.rules.specs.Book.{answer_of}
use Rattle.rules.specs.Buffer.{free_place, Buffers, lengths}
use Rattle.rules.specs.View.{place_at, places_of}
use Rattle.rules.specs.Sound.{counts_fit, apart, places_fit, loops_fit, links_fit, triangles_fit, sound, sound_else}
use Rattle.rules.specs.Build.{viewed, operates, finishes, with_triangle, Leaves, OperatedBy}
use Rattle.book.specs.Sums.{placed}
use Rattle.border_theory.specs.Records.Plain.{records}
use Rattle.border_theory.specs.Records.Notes.{linked_place, freed_place, linked_to, freed_to, Linkable, Freeable}
use Rattle.state_theory.specs.Performing.Noted.{linked_part, freed_part, to_link, to_free}
use Rattle.border_theory.proofs.Records.Counting.{count_short}
use Rattle.border_theory.proofs.Records.Reading.{counted, memory_of, memory_reads}
use Rattle.border_theory.specs.Memory.Layout.{at}
use Rattle.border_theory.proofs.Memory.Around.{either}
use Rattle.state_theory.specs.Reading.Opens.{lent}
use Rattle.state_theory.proofs.Reading.Records.{records_at}
use Rattle.state_theory.proofs.Reading.Alike.{Alike, All, all_below_lem, placed_alike, links_kept, rings_kept, view_kept, rings_same}
use Rattle.state_theory.proofs.Reading.Lifting.{loaded_sound, loaded_view}
use Rattle.state_theory.proofs.Reading.Rings.{places_placed}
use Rattle.promises.specs.Promises.{lent_to, Operating}
use Rattle.state_theory.specs.Performing.Core.{rings_of, Written, Accepts, Done, OperatesOn, refused_with}
use Rattle.state_theory.proofs.Performing.Back.{written_back, linked_list, freed_list, back_is, length_linked, length_freed, freed_in}
use Rattle.state_theory.proofs.Performing.Back.{freed_out, linked_in, linked_out}
use Rattle.counting.proofs.Bools.{and_left, and_right}
use Rattle.counting.proofs.Counts.{same_yes, same_is}
use Rattle.promises.proofs.Kept.{sound_links}

-- a call that tests 21 first comes to the same, on the list and on the records that are read from it
module _ (b : Builder) (xs : List ℕ) (ps : List Place) (g : Machine → Step) where
  abbrev read : Buffers
  read = lent xs (counted ps) (memory_of ps)

  abbrev tested : Bool → Machine → Step
  tested t m = elim t [ true ↦ g m | false ↦ refused 21 ]

  same_by : (t : Bool) → sound b (lent_to xs ps) ≡ t
      → tested (sound b (lent_to xs ps)) (viewed b (lent_to xs ps)) ≡ tested (sound b read) (viewed b read)
  same_by true e =
      ap (λ (t : Bool). tested t (viewed b (lent_to xs ps))) e ∙ ap g (loaded_view b xs ps e)
      ∙ sym (ap (λ (t : Bool). tested t (viewed b read)) (sym (loaded_sound b xs ps) ∙ e))
  same_by false e =
      ap (λ (t : Bool). tested t (viewed b (lent_to xs ps))) e
      ∙ sym (ap (λ (t : Bool). tested t (viewed b read)) (sym (loaded_sound b xs ps) ∙ e))

  pub same_step : tested (sound b (lent_to xs ps)) (viewed b (lent_to xs ps)) ≡ tested (sound b read) (viewed b read)
  same_step = same_by (sound b (lent_to xs ps)) refl

-- a memory that notes nothing
nothing_back : (m : List ℕ) (ps : List Place) → at m 5320 ≡ 0 → at m 5327 ≡ 0 → written_back m ps ≡ ps
unfolding linked_to freed_to
nothing_back m ps c e = ap₂ (λ (k l : ℕ). freed_to (l - at m 5326) (at m 5326) m (linked_to k m ps)) c e ∙ none (at m 5326)
  where
    none : (a : ℕ) → freed_to (0 - a) a m ps ≡ ps
    none a = let z : 0 - a ≡ 0 = omega arith in ap (λ (k : ℕ). freed_to k a m ps) z

-- each number of a list is in it
all_of : (js is : List ℕ) → ((i : ℕ) → 1 ≤ occurs i is → 1 ≤ occurs i js) → All (λ i. 1 ≤ occurs i js) is
unfolding occurs
all_of js [] f = tt
all_of js (i ∷ is) f = (f i (omega (arith, same_yes i)), all_of js is (λ j h. f j (omega (arith, h))))

all_in : (js : List ℕ) → All (λ i. 1 ≤ occurs i js) js
all_in js = all_of js js (λ i h. h)

-- of numbers that are all below n, each is
in_below : (n : ℕ) (js : List ℕ) → All (λ i. i < n) js → (i : ℕ) → 1 ≤ occurs i js → i < n
unfolding occurs
in_below n [] h i l = absurd (omega (arith, l))
in_below n (j ∷ js) h i l =
    either (same i j) (occurs i js) l (λ s. subst (λ (x : ℕ). x < n) (sym (same_is i j s)) h.0) (λ s. in_below n js h.1 i s)

-- the places of loops whose links fit
links_low : (b : Builder) (ps : List Place) → links_fit b ps ≡ true → All (λ i. i < max_places) (places_of b ps b.live)
unfolding links_fit
links_low b ps h =
    let is = places_of b ps b.live in
    let x = all_below max_places is && apart is in
    all_below_lem max_places is
    (and_left (all_below max_places is) (apart is)
    (and_left x (places_fit ps b.used is) (and_left (x && places_fit ps b.used is) (loops_fit b ps b.live) h)))

else_links : (b : Builder) (r : Buffers) → sound_else b r ≡ true → links_fit b r.places ≡ true
unfolding sound_else
else_links b r h =
    let x = long_enough (lengths r) b.stated && counts_fit b in
    and_right x (links_fit b r.places) (and_left (x && links_fit b r.places) (triangles_fit b r.triangles) h)

-- only a state that passes has its operation accepted
abbrev is_built : Step → Type 0
is_built (refused n) = ⊥
is_built (begun m) = Unit {0}
is_built (built t m) = Unit {0}
is_built (declared d m) = Unit {0}
is_built (finished x) = Unit {0}

only_sound : (b : Builder) (xs : List ℕ) (ps : List Place) (o : Operation) → is_built (operates b (lent_to xs ps) o)
    → sound b (lent_to xs ps) ≡ true
only_sound b xs ps o = go (sound b (lent_to xs ps)) refl
  where
    go : (t : Bool) → sound b (lent_to xs ps) ≡ t → is_built (elim t [ true ↦ operation (viewed b (lent_to xs ps)) o | false ↦ refused 21 ])
        → sound b (lent_to xs ps) ≡ true
    go true e h = e
    go false e h = absurd h

-- an accepted operation, on a list of 1,024 records or more
module _ (b : Builder) (o : Operation) (xs ys : List ℕ) (ps : List Place) (M : Machine) (b' : Builder) (xs' m' : List ℕ)
    (links : links_fit b ps ≡ true) (a : Accepts b o ys (memory_of ps) (counted ps) M b' xs' m') where
  abbrev w : Written b o (records max_places (memory_of ps)) ys M b' xs' (records max_places m') (to_link m') (to_free m')
  w = a.written

  abbrev ps₀ : List Place
  ps₀ = records max_places (memory_of ps)

  abbrev qs : List Place
  qs = records max_places m'

  abbrev ps' : List Place
  ps' = written_back m' ps

  long : max_places ≤ length ps
  long = go (ltb (length ps) max_places) refl
    where
      go : (t : Bool) → ltb (length ps) max_places ≡ t → max_places ≤ length ps
      go true e =
          let l : length ps < max_places = ltb-true (length ps) max_places e in
          omega (arith, l, count_short (length ps) l, a.whole)
      go false e = ltb-false (length ps) max_places e

  first_is : records max_places (memory_of ps) ≡ take max_places ps
  first_is = ap (λ (n : ℕ). records n (memory_of ps)) (sym a.whole) ∙ memory_reads ps ∙ ap (λ (n : ℕ). take n ps) a.whole

  first_at : Alike max_places ps (records max_places (memory_of ps))
  first_at i h = ap (λ (rs : List Place). place_at rs i) first_is ∙ get_or-take max_places ps i free_place h

  rings_first : rings_of b (records max_places (memory_of ps)) ≡ rings_of b ps
  rings_first = rings_same ps (records max_places (memory_of ps)) first_at b links

  -- record i was, or is, in a loop
  was : (i : ℕ) → occurs i (places_of b ps b.live) ≡ placed i (rings_of b (records max_places (memory_of ps)))
  was i = places_placed b ps b.live i ∙ ap (placed i) (sym rings_first)

  now_in : (i : ℕ) → occurs i (places_of b' (records max_places m') b'.live) ≡ placed i (rings_of b' (records max_places m'))
  now_in i = places_placed b' (records max_places m') b'.live i

  -- the list afterwards, record by record
  back : written_back m' ps ≡ freed_list (to_free m') (linked_list m' (to_link m') ps)
  back = back_is m' ps

  back_at : (i : ℕ) → place_at (written_back m' ps) i ≡ place_at (freed_list (to_free m') (linked_list m' (to_link m') ps)) i
  back_at i = ap (λ (qs : List Place). place_at qs i) back

  same_long : length (written_back m' ps) ≡ length ps
  same_long = ap (λ (qs : List Place). length qs) back ∙ length_freed (to_free m') (linked_list m' (to_link m') ps)
      ∙ length_linked m' (to_link m') ps

  freed_at_lem : (i : ℕ) → i < max_places → 1 ≤ occurs i (to_free m') → place_at (written_back m' ps) i ≡ free_place
  freed_at_lem i h l = back_at i
      ∙ freed_in (to_free m') (linked_list m' (to_link m') ps) i l (omega (arith, h, long, length_linked m' (to_link m') ps))

  kept_by : (i k : ℕ) → occurs i (to_link m') ≡ k → occurs i (to_free m') ≡ 0 → i < max_places
      → place_at (written_back m' ps) i ≡ place_at (records max_places m') i
  kept_by i zero e z h =
      back_at i ∙ freed_out (to_free m') (linked_list m' (to_link m') ps) i z ∙ linked_out m' (to_link m') ps i e ∙ sym (first_at i h)
      ∙ sym (w.others i e)
  kept_by i (suc k) e z h =
      back_at i ∙ freed_out (to_free m') (linked_list m' (to_link m') ps) i z
      ∙ linked_in m' (to_link m') ps i (omega (arith, e)) (omega (arith, h, long)) ∙ sym (records_at max_places m' i h)

  kept_at : (i : ℕ) → occurs i (to_free m') ≡ 0 → i < max_places → place_at (written_back m' ps) i ≡ place_at (records max_places m') i
  kept_at i z h = kept_by i (occurs i (to_link m')) refl z h

  -- a place of the loops before is below 1,024
  low_place : (i : ℕ) → 1 ≤ occurs i (places_of b ps b.live) → i < max_places
  low_place i h = in_below max_places (places_of b ps b.live) (links_low b ps links) i h

  -- beyond the first 1,024 nothing is written
  high_by : (i k l : ℕ) → occurs i (to_link m') ≡ k → occurs i (to_free m') ≡ l → max_places ≤ i
      → place_at (written_back m' ps) i ≡ place_at ps i
  high_by i zero zero e z h = back_at i ∙ freed_out (to_free m') (linked_list m' (to_link m') ps) i z ∙ linked_out m' (to_link m') ps i e
  high_by i (suc k) l e z h = absurd (omega (arith, h, w.near i (omega (arith, e))))
  high_by i zero (suc l) e z h = absurd (omega (arith, h, low_place i (omega (arith, was i, (w.left i (omega (arith, z))).0))))

  not_freed : (i : ℕ) → (1 ≤ occurs i (to_free m') → ⊥) → occurs i (to_free m') ≡ 0
  not_freed i f = go (occurs i (to_free m')) refl
    where
      go : (k : ℕ) → occurs i (to_free m') ≡ k → occurs i (to_free m') ≡ 0
      go zero e = e
      go (suc k) e = absurd (f (omega (arith, e)))

  fits : links_fit b' (records max_places m') ≡ true
  fits = else_links b' (record { triangles = xs'; places = qs }) w.passes

  -- the places of the loops afterwards
  abbrev P : ℕ → Type 0
  P i = 1 ≤ occurs i (places_of b' (records max_places m') b'.live)

  alike : (i : ℕ) → 1 ≤ occurs i (places_of b' (records max_places m') b'.live)
      → place_at (written_back m' ps) i ≡ place_at (records max_places m') i
  alike i h =
      kept_at i (not_freed i (λ l. absurd (omega (arith, h, now_in i, (w.left i l).1))))
      (in_below max_places (places_of b' qs b'.live) (links_low b' qs fits) i h)

  inside : All P (places_of b' (records max_places m') b'.live)
  inside = all_in (places_of b' qs b'.live)

  places_same : places_of b' (written_back m' ps) b'.live ≡ places_of b' (records max_places m') b'.live
  places_same = placed_alike P qs ps' alike b' inside

  is_in : (i : ℕ) → occurs i (places_of b' (written_back m' ps) b'.live) ≡ placed i (rings_of b' (records max_places m'))
  is_in i = ap (occurs i) places_same ∙ now_in i

  passes_back : sound_else b' (lent_to xs' (written_back m' ps)) ≡ true
  unfolding sound_else
  passes_back =
      let q : Buffers = record { triangles = xs'; places = qs } in
      let x₂ = long_enough (lengths q) b'.stated && counts_fit b' in
      let x₃ = x₂ && links_fit b' qs in
      let h₃ = and_left x₃ (triangles_fit b' xs') w.passes in
      let h₂ = and_left x₂ (links_fit b' qs) h₃ in
      let h₁ = and_left (long_enough (lengths q) b'.stated) (counts_fit b') h₂ in
      let e : long_enough (lengths (lent_to xs' ps')) b'.stated ≡ true =
      ap₂ ◌&&◌ (and_left (leb (3 * b'.stated.triangles) (length xs')) (leb max_places (length qs)) h₁)
      (le-leb max_places (length ps') (omega (arith, long, same_long))) in
      ap₂ ◌&&◌ (ap₂ ◌&&◌ (ap₂ ◌&&◌ e (and_right (long_enough (lengths q) b'.stated) (counts_fit b') h₂))
      (links_kept P qs ps' alike b' inside fits))
      (and_right x₃ (triangles_fit b' xs') w.passes)

  idle_by : (i : ℕ) (t : Bool) → ltb i max_places ≡ t → occurs i (places_of b ps b.live) ≡ 0
      → occurs i (places_of b' (written_back m' ps) b'.live) ≡ 0
      → place_at (written_back m' ps) i ≡ place_at ps i
  idle_by i true e h g =
      let l : i < max_places = ltb-true i max_places e in
      kept_at i (not_freed i (λ z. absurd (omega (arith, h, was i, (w.left i z).0)))) l ∙ w.idle i (sym (was i) ∙ h) (sym (is_in i) ∙ g)
      ∙ first_at i l
  idle_by i false e h g = high_by i (occurs i (to_link m')) (occurs i (to_free m')) refl refl (ltb-false i max_places e)

  pub leaves_back : Leaves b (lent_to xs ps) o ys M b' (lent_to xs' (written_back m' ps))
  leaves_back = record {
    triangles = w.triangles;
    machine = view_kept P qs ps' alike b' inside xs' ∙ w.machine;
    passes = passes_back;
    taken = w.taken;
    unused = λ i h. let u = w.unused i h in (u.0, was i ∙ u.1);
    rings = rings_kept P qs ps' alike b' inside ∙ w.rings ∙ ap (rings_after o w.taken) rings_first;
    stays = λ i h g.
        ap (λ (p : Place). p.vertex) (alike i (omega (arith, g, is_in i, now_in i))) ∙ w.stays i (omega (arith, h, was i))
        ∙ ap (λ (p : Place). p.vertex) (first_at i (low_place i h));
    left = λ i h g. freed_at_lem i (low_place i h) (w.gone i (omega (arith, h, was i)) (sym (is_in i) ∙ g));
    idle = λ i h g. idle_by i (ltb i max_places) refl h g;
    long = same_long;
    current_past = w.current_past;
    sizes_past = w.sizes_past;
  }

-- an operation
module _ (b : Builder) (o : Operation) (xs : List ℕ) (ps : List Place) (b' : Builder) (xs' m' : List ℕ) where
  pub lifted : (links : sound b (lent_to xs ps) ≡ true → links_fit b ps ≡ true) (x : Step) → (is_built x → sound b (lent_to xs ps) ≡ true)
      → Done b o xs (memory_of ps) (counted ps) x b' xs' m' → OperatedBy b (lent_to xs ps) o x b' (lent_to xs' (written_back m' ps))
  lifted links (refused n) f d =
      let e : written_back m' ps ≡ ps = nothing_back m' ps d.links d.frees in
      (d.state, λ i. record { triangles = d.triangles i; places = e i })
  lifted links (begun m) f d = d
  lifted links (built t m) f d = leaves_back b o xs (with_triangle b.built t xs) ps m b' xs' m' (links (f tt)) d
  lifted links (declared x m) f d = leaves_back b o xs xs ps m b' xs' m' (links (f tt)) d
  lifted links (finished x) f d = d

pub operates_lent : (b : Builder) (o : Operation) (xs : List ℕ) (ps : List Place) (r : Performed) (xs' m' : List ℕ) (ps' : List Place)
    → OperatesOn b o xs (memory_of ps) (counted ps) r xs' m' → ps' ≡ written_back m' ps → Operating b o xs ps r xs' ps'
operates_lent b o xs ps r xs' m' ps' p e =
    let s : operates b (lent_to xs ps) o ≡ operates b (lent xs (counted ps) (memory_of ps)) o = same_step b xs ps (λ m. operation m o) in
    subst (λ (qs : List Place). Operating b o xs ps r xs' qs) (sym e)
    (record {
      answer = p.answer ∙ ap answer_of (sym s);
      after =
          lifted b o xs ps r.state xs' m' (λ h. sound_links b (lent_to xs ps) h) (operates b (lent_to xs ps) o) (only_sound b xs ps o)
          (subst (λ (x : Step). Done b o xs (memory_of ps) (counted ps) x r.state xs' m') (sym s) p.after);
    })

-- a refusal writes nothing back
nothing_written : (b : Builder) (o : Operation) (xs m : List ℕ) (n : ℕ) (ps : List Place) (b' : Builder) (xs' m' : List ℕ) (k : ℕ)
    (x : Step)
    → refusal k ≡ answer_of x → Done b o xs m n x b' xs' m' → written_back m' ps ≡ ps
nothing_written b o xs m n ps b' xs' m' k (refused j) e d = nothing_back m' ps d.links d.frees
nothing_written b o xs m n ps b' xs' m' k (begun M) e d = absurd d
nothing_written b o xs m n ps b' xs' m' k (built t M) e d = cc
nothing_written b o xs m n ps b' xs' m' k (declared t M) e d = cc
nothing_written b o xs m n ps b' xs' m' k (finished t) e d = absurd d

pub refused_lent : (b : Builder) (o : Operation) (xs : List ℕ) (ps : List Place) (b' : Builder) (k : ℕ) (xs' m' : List ℕ)
    → OperatesOn b o xs (memory_of ps) (counted ps) (refused_with b' k) xs' m' → Operating b o xs ps (refused_with b' k) xs' ps
refused_lent b o xs ps b' k xs' m' p =
    operates_lent b o xs ps (refused_with b' k) xs' m' ps p
    (sym (nothing_written b o xs (memory_of ps) (counted ps) ps b' xs' m' k (operates b (lent xs (counted ps) (memory_of ps)) o) p.answer
    p.after))

-- a finish
pub finishes_same : (b : Builder) (xs : List ℕ) (ps : List Place)
    → finishes b (lent_to xs ps) ≡ finishes b (lent xs (counted ps) (memory_of ps))
finishes_same b xs ps = same_step b xs ps finishing

-- what is noted can be written back to the list
linked_part_lem : (m : List ℕ) (n k : ℕ) → k < n → 1 ≤ occurs (linked_place m k) (linked_part m n)
unfolding linked_part occurs
linked_part_lem m zero k h = absurd (omega (arith, h))
linked_part_lem m (suc n) k h = go (eqb k n) refl (λ l. linked_part_lem m n k l)
  where
    go : (t : Bool) → eqb k n ≡ t → (k < n → 1 ≤ occurs (linked_place m k) (linked_part m n))
        → 1 ≤ same (linked_place m k) (linked_place m n) + occurs (linked_place m k) (linked_part m n)
    go true e r = omega (arith, ap (λ (j : ℕ). same (linked_place m k) (linked_place m j)) (eqb-true k n e), same_yes (linked_place m k))
    go false e r = omega (arith, r (omega (arith, h, eqb-false k n e)))

freed_part_lem : (m : List ℕ) (a n k : ℕ) → a ≤ k → k < a + n → 1 ≤ occurs (freed_place m k) (freed_part m a n)
unfolding freed_part occurs
freed_part_lem m a zero k l h = absurd (omega (arith, l, h))
freed_part_lem m a (suc n) k l h = go (eqb k (a + n)) refl (λ g. freed_part_lem m a n k l g)
  where
    go : (t : Bool) → eqb k (a + n) ≡ t → (k < a + n → 1 ≤ occurs (freed_place m k) (freed_part m a n))
        → 1 ≤ same (freed_place m k) (freed_place m (a + n)) + occurs (freed_place m k) (freed_part m a n)
    go true e r = omega (arith, ap (λ (j : ℕ). same (freed_place m k) (freed_place m j)) (eqb-true k (a + n) e), same_yes (freed_place m k))
    go false e r = omega (arith, r (omega (arith, h, eqb-false k (a + n) e)))

module _ (b : Builder) (o : Operation) (xs : List ℕ) (ps : List Place) (b' : Builder) (xs' m' : List ℕ) where
  accepts_fit : (ys : List ℕ) (M : Machine) → links_fit b ps ≡ true → Accepts b o ys (memory_of ps) (counted ps) M b' xs' m'
      → Linkable m' (length ps) × Freeable m' (length ps)
  accepts_fit ys M links a =
      let l : max_places ≤ length ps = long b o xs ys ps M b' xs' m' links a in (
        (a.noted.few, λ k h. let n = a.written.near (linked_place m' k) (linked_part_lem m' (at m' 5320) k h) in (n, omega (arith, n, l))),
        (
          a.noted.low,
          λ k g h.
              let z = (a.written.left (freed_place m' k)
              (freed_part_lem m' (at m' 5326) (at m' 5327 - at m' 5326) k g (omega (arith, g, h)))).0
              in
              omega (
                arith,
                l,
                low_place b o xs ys ps M b' xs' m' links a (freed_place m' k)
                    (omega (arith, z, was b o xs ys ps M b' xs' m' links a (freed_place m' k))),
              ),
        ),
      )

  done_fit : (sound b (lent_to xs ps) ≡ true → links_fit b ps ≡ true) → (x : Step) → (is_built x → sound b (lent_to xs ps) ≡ true)
      → Done b o xs (memory_of ps) (counted ps) x b' xs' m' → Linkable m' (length ps) × Freeable m' (length ps)
  done_fit links (refused n) f d = (
    (omega (arith, d.links), λ k h. absurd (omega (arith, h, d.links))),
    (omega (arith, d.frees), λ k g h. absurd (omega (arith, h, d.frees))),
  )
  done_fit links (begun m) f d = absurd d
  done_fit links (built t m) f d = accepts_fit (with_triangle b.built t xs) m (links (f tt)) d
  done_fit links (declared x m) f d = accepts_fit xs m (links (f tt)) d
  done_fit links (finished x) f d = absurd d

pub touches_fit : (b : Builder) (o : Operation) (xs : List ℕ) (ps : List Place) (r : Performed) (xs' m' : List ℕ)
    → OperatesOn b o xs (memory_of ps) (counted ps) r xs' m' → Linkable m' (length ps) × Freeable m' (length ps)
touches_fit b o xs ps r xs' m' p =
    let s : operates b (lent_to xs ps) o ≡ operates b (lent xs (counted ps) (memory_of ps)) o = same_step b xs ps (λ m. operation m o) in
    done_fit b o xs ps r.state xs' m' (λ h. sound_links b (lent_to xs ps) h) (operates b (lent_to xs ps) o) (only_sound b xs ps o)
    (subst (λ (x : Step). Done b o xs (memory_of ps) (counted ps) x r.state xs' m') (sym s) p.after)
