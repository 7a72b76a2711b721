-- What marking tests: the loops' places can be marked one after the other exactly if they are below 1,024, apart, and fit.
-- Assumes nothing.
use Prim.Native.Nat.{ℕ, zero, suc, ◌+◌, ◌≤◌, ◌<◌}
use native.Mathlib.Omega.{arith}
use mathlib.Core.Bool.{Bool, true, false, ◌&&◌}
use mathlib.Core.List.{List, [], ◌∷◌, ◌++◌}
use mathlib.Core.Path.{◌≡◌, refl, sym, ap, ◌∙◌}
use lib.Dec.{eqb, ltb, leb}
use lib.ListN.{length, get_or, set, replicate, length-set, length-replicate}
use lib.Seq.{get_or-set_same, get_or-set_other}
use borrow.Author.Tests.{ltb-true, lt-ltb, eqb-true, eqb-false, eq-eqb}
use Rattle.rules.specs.declared.Place.{Place}
use Rattle.rules.specs.declared.Builder.{Builder}
use Rattle.rules.specs.Limits.{max_places}
use Rattle.rules.specs.Count.{same, occurs}
use Rattle.rules.specs.Check.{all_below}
use Rattle.rules.specs.View.{place_at, follow, followed, loop_places, places_of}
use Rattle.rules.specs.Sound.{apart, place_fits, places_fit, loop_fits, loops_fit, links_fit}
use Rattle.state_theory.proofs.Reading.Trails.{apart_by}
use Rattle.state_theory.specs.Opening.Marks.{markable, all_markable, flagged, returns, loop_marks, loops_mark, all_flagged}
use Rattle.counting.proofs.Bools.{and_left, and_right, and_both, and_assoc}
use Rattle.counting.proofs.Counts.{same_yes, same_no}
use Rattle.border_theory.proofs.Records.Own.{zeros}

-- the flags s count the places, each at most once: g x is how often x was marked
pub record Flags (s : List ℕ) (g : ℕ → ℕ) : Type 0 where
  pub long : length s ≡ max_places
  pub counts : (x : ℕ) → x < max_places → get_or s x 0 ≡ g x
  pub once : (x : ℕ) → g x ≤ 1

pub no_flags : Flags (replicate max_places 0) (λ x. 0)
no_flags = record { long = length-replicate {A = ℕ} max_places 0; counts = λ x l. zeros max_places x; once = λ x. omega arith }

-- one more place is marked
flag_more : (s : List ℕ) (g : ℕ → ℕ) (i : ℕ) → Flags s g → i < max_places → g i ≡ 0 → Flags (set s i 1) (λ x. same x i + g x)
flag_more s g i f l z = record {
  long = length-set s i 1 ∙ f.long;
  counts = λ x h. at_by x h (eqb x i) refl;
  once = λ x. once_by x (eqb x i) refl;
}
  where
    at_by : (x : ℕ) → x < max_places → (t : Bool) → eqb x i ≡ t → get_or (set s i 1) x 0 ≡ same x i + g x
    at_by x h true e =
        let q : x ≡ i = eqb-true x i e in
        rw q (get_or-set_same s i 1 0 (omega (arith, f.long, l)) ∙ omega (arith, same_yes i, z))
    at_by x h false e =
        let d : x ≡ i → ⊥ = eqb-false x i e in
        get_or-set_other s i x 1 0 d ∙ f.counts x h ∙ omega (arith, same_no x i d)

    once_by : (x : ℕ) → (t : Bool) → eqb x i ≡ t → same x i + g x ≤ 1
    once_by x true e = let q : x ≡ i = eqb-true x i e in rw q (omega (arith, same_yes i, z))
    once_by x false e = omega (arith, same_no x i (eqb-false x i e), f.once x)

-- what holds of places that can all be marked
pub record AllFit (ps : List Place) (v : ℕ) (s : List ℕ) (g : ℕ → ℕ) (is : List ℕ) : Type 0 where
  pub below : all_below max_places is ≡ true
  pub fit : places_fit ps v is ≡ true
  pub long : length (flagged s is) ≡ max_places
  pub counts : (x : ℕ) → x < max_places → get_or (flagged s is) x 0 ≡ occurs x is + g x
  pub once : (x : ℕ) → occurs x is + g x ≤ 1

pub marked_fit : (ps : List Place) (v : ℕ) (s : List ℕ) (g : ℕ → ℕ) (is : List ℕ) → Flags s g → all_markable ps v s is ≡ true
    → AllFit ps v s g is
unfolding all_markable markable flagged all_below places_fit occurs
marked_fit ps v s g [] f h = record {
  below = refl;
  fit = refl;
  long = f.long;
  counts = λ x l. f.counts x l ∙ omega arith;
  once = λ x. omega (arith, f.once x);
}
marked_fit ps v s g (i ∷ is) f h =
    let here = and_left (ltb i max_places && eqb (get_or s i 0) 0 && place_fits ps v i) _ h in
    let two = and_left (ltb i max_places && eqb (get_or s i 0) 0) _ here in
    let l : i < max_places = ltb-true i max_places (and_left (ltb i max_places) _ two) in
    let z : g i ≡ 0 = sym (f.counts i l) ∙ eqb-true (get_or s i 0) 0 (and_right (ltb i max_places) _ two) in
    let r = marked_fit ps v (set s i 1) (λ x. same x i + g x) is (flag_more s g i f l z)
    (and_right (ltb i max_places && eqb (get_or s i 0) 0 && place_fits ps v i) _ h) in
    record {
      below = and_both (ltb i max_places) (all_below max_places is) (lt-ltb i max_places l) r.below;
      fit = and_both (place_fits ps v i) (places_fit ps v is) (and_right (ltb i max_places && eqb (get_or s i 0) 0) _ here) r.fit;
      long = r.long;
      counts = λ x m. r.counts x m ∙ omega arith;
      once = λ x. omega (arith, r.once x);
    }

-- and the other way
pub fit_marked : (ps : List Place) (v : ℕ) (s : List ℕ) (g : ℕ → ℕ) (is : List ℕ) → Flags s g → all_below max_places is ≡ true
    → places_fit ps v is ≡ true → ((x : ℕ) → occurs x is + g x ≤ 1) → all_markable ps v s is ≡ true
unfolding all_markable markable all_below places_fit occurs
fit_marked ps v s g [] f b p o = refl
fit_marked ps v s g (i ∷ is) f b p o =
    let l : i < max_places = ltb-true i max_places (and_left (ltb i max_places) _ b) in
    let z : g i ≡ 0 = omega (arith, o i, same_yes i) in
    and_both (ltb i max_places && eqb (get_or s i 0) 0 && place_fits ps v i) (all_markable ps v (set s i 1) is)
    (and_both (ltb i max_places && eqb (get_or s i 0) 0) (place_fits ps v i)
    (and_both (ltb i max_places) (eqb (get_or s i 0) 0) (lt-ltb i max_places l) (eq-eqb (get_or s i 0) 0 (f.counts i l ∙ z)))
    (and_left (place_fits ps v i) _ p))
    (fit_marked ps v (set s i 1) (λ x. same x i + g x) is (flag_more s g i f l z) (and_right (ltb i max_places) _ b)
    (and_right (place_fits ps v i) _ p) (λ x. omega (arith, o x)))

-- no place is there twice
pub apart_once : (is : List ℕ) → apart is ≡ true → (x : ℕ) → occurs x is ≤ 1
unfolding apart occurs
apart_once [] h x = omega arith
apart_once (i ∷ is) h x = go (eqb x i) refl (apart_once is (and_right (eqb (occurs i is) 0) _ h) x)
  where
    none : occurs i is ≡ 0
    none = eqb-true (occurs i is) 0 (and_left (eqb (occurs i is) 0) _ h)

    go : (t : Bool) → eqb x i ≡ t → occurs x is ≤ 1 → same x i + occurs x is ≤ 1
    go true e r = let q : x ≡ i = eqb-true x i e in rw q (omega (arith, same_yes i, none))
    go false e r = omega (arith, same_no x i (eqb-false x i e), r)

marks_append : (ps : List Place) (v : ℕ) (s is js : List ℕ)
    → all_markable ps v s (is ++ js) ≡ all_markable ps v s is && all_markable ps v (flagged s is) js
unfolding all_markable flagged
marks_append ps v s [] js = refl
marks_append ps v s (i ∷ is) js =
    ap (λ (t : Bool). markable ps v s i && t) (marks_append ps v (set s i 1) is js)
    ∙ sym (and_assoc (markable ps v s i) (all_markable ps v (set s i 1) is) (all_markable ps v (flagged (set s i 1) is) js))

flagged_append : (s is js : List ℕ) → flagged s (is ++ js) ≡ flagged (flagged s is) js
unfolding flagged
flagged_append s [] js = refl
flagged_append s (i ∷ is) js = flagged_append (set s i 1) is js

-- all loops
module _ (b : Builder) (ps : List Place) where
  abbrev size : ℕ → ℕ
  size n = get_or b.sizes n 0

  abbrev start : ℕ → ℕ
  start n = get_or b.current n 0

  pub flags_are : (s : List ℕ) (n : ℕ) → all_flagged b ps s n ≡ flagged s (places_of b ps n)
  unfolding all_flagged places_of flagged
  flags_are s zero = refl
  flags_are s (suc n) = flags_are (flagged s (loop_places b ps n)) n ∙ sym (flagged_append s (loop_places b ps n) (places_of b ps n))

  -- one loop is marked
  pub record LoopFit (s : List ℕ) (n : ℕ) : Type 0 where
    pub places : all_markable ps b.used s (loop_places b ps n) ≡ true
    pub fits : loop_fits b ps n ≡ true

  loop_fit : (s : List ℕ) (n : ℕ) → loop_marks ps b.used s (size n) (start n) ≡ true → LoopFit s n
  unfolding loop_marks returns
  loop_fit s n h =
      let front = and_left (leb 1 (size n) && (place_at ps (start n)).«open») _ h in
      let back = and_right (leb 1 (size n) && (place_at ps (start n)).«open») _ h in
      record {
        places = and_left (all_markable ps b.used s (follow ps (size n) (start n))) _ back;
        fits =
            and_both (leb 1 (size n) && eqb (followed ps (size n) (start n)) (start n)) (place_at ps (start n)).«open»
            (and_both (leb 1 (size n)) (eqb (followed ps (size n) (start n)) (start n)) (and_left (leb 1 (size n)) _ front)
            (and_right (all_markable ps b.used s (follow ps (size n) (start n))) _ back))
            (and_right (leb 1 (size n)) _ front);
      }

  fit_loop : (s : List ℕ) (n : ℕ) → LoopFit s n → loop_marks ps b.used s (size n) (start n) ≡ true
  unfolding loop_marks returns
  fit_loop s n f =
      let front = and_left (leb 1 (size n) && eqb (followed ps (size n) (start n)) (start n)) _ f.fits in
      and_both (leb 1 (size n) && (place_at ps (start n)).«open»)
      (all_markable ps b.used s (follow ps (size n) (start n)) && eqb (followed ps (size n) (start n)) (start n))
      (and_both (leb 1 (size n)) (place_at ps (start n)).«open» (and_left (leb 1 (size n)) _ front)
      (and_right (leb 1 (size n) && eqb (followed ps (size n) (start n)) (start n)) _ f.fits))
      (and_both (all_markable ps b.used s (follow ps (size n) (start n))) (eqb (followed ps (size n) (start n)) (start n)) f.places
      (and_right (leb 1 (size n)) _ front))

  pub record LoopsFit (s : List ℕ) (n : ℕ) : Type 0 where
    pub places : all_markable ps b.used s (places_of b ps n) ≡ true
    pub fits : loops_fit b ps n ≡ true

  pub loops_fit_lem : (s : List ℕ) (n : ℕ) → loops_mark b ps s n ≡ true → LoopsFit s n
  unfolding loops_mark places_of loops_fit
  loops_fit_lem s zero h = record { places = unfold all_markable in refl; fits = refl }
  loops_fit_lem s (suc n) h =
      let one = loop_fit s n (and_left (loop_marks ps b.used s (size n) (start n)) _ h) in
      let rest = loops_fit_lem (flagged s (loop_places b ps n)) n (and_right (loop_marks ps b.used s (size n) (start n)) _ h) in
      record {
        places =
            marks_append ps b.used s (loop_places b ps n) (places_of b ps n)
            ∙ and_both (all_markable ps b.used s (loop_places b ps n))
            (all_markable ps b.used (flagged s (loop_places b ps n)) (places_of b ps n))
            one.places rest.places;
        fits = and_both (loop_fits b ps n) (loops_fit b ps n) one.fits rest.fits;
      }

  pub fit_loops : (s : List ℕ) (n : ℕ) → LoopsFit s n → loops_mark b ps s n ≡ true
  unfolding loops_mark places_of loops_fit
  fit_loops s zero f = refl
  fit_loops s (suc n) f =
      let both = sym (marks_append ps b.used s (loop_places b ps n) (places_of b ps n)) ∙ f.places in
      and_both (loop_marks ps b.used s (size n) (start n)) (loops_mark b ps (flagged s (loop_places b ps n)) n)
      (fit_loop s n
      (record {
        places = and_left (all_markable ps b.used s (loop_places b ps n)) _ both;
        fits = and_left (loop_fits b ps n) _ f.fits;
      }))
      (fit_loops (flagged s (loop_places b ps n)) n
      (record {
        places = and_right (all_markable ps b.used s (loop_places b ps n)) _ both;
        fits = and_right (loop_fits b ps n) _ f.fits;
      }))

  -- no place is marked before
  abbrev blank_flags : List ℕ
  blank_flags = replicate max_places 0

  pub marked_links : loops_mark b ps (replicate max_places 0) b.live ≡ true → links_fit b ps ≡ true
  unfolding links_fit
  marked_links h =
      let f = loops_fit_lem blank_flags b.live h in
      let is = places_of b ps b.live in
      let a = marked_fit ps b.used blank_flags (λ x. 0) is no_flags f.places in
      and_both (all_below max_places is && apart is && places_fit ps b.used is) (loops_fit b ps b.live)
      (and_both (all_below max_places is && apart is) (places_fit ps b.used is)
      (and_both (all_below max_places is) (apart is) a.below (apart_by is (λ x. omega (arith, a.once x)))) a.fit) f.fits

  pub links_marked : links_fit b ps ≡ true → loops_mark b ps (replicate max_places 0) b.live ≡ true
  unfolding links_fit
  links_marked h =
      let is = places_of b ps b.live in
      let three = and_left (all_below max_places is && apart is && places_fit ps b.used is) _ h in
      let two = and_left (all_below max_places is && apart is) _ three in
      fit_loops blank_flags b.live
      (record {
        places =
            fit_marked ps b.used blank_flags (λ x. 0) is no_flags (and_left (all_below max_places is) _ two)
            (and_right (all_below max_places is && apart is) _ three)
            (λ x. omega (arith, apart_once is (and_right (all_below max_places is) _ two) x));
        fits = and_right (all_below max_places is && apart is && places_fit ps b.used is) _ h;
      })
