-- Laws of marking over plain lists and numbers, that the functions' proofs cite.
-- Assumes nothing.
use Prim.Native.Nat.{ℕ, zero, suc, ◌-◌, ◌≤◌, ◌<◌}
use native.Mathlib.Omega.{arith}
use mathlib.Core.Bool.{Bool, true, false, ◌&&◌, false≢true}
use mathlib.Core.List.{List}
use mathlib.Core.Path.{◌≡◌, refl, sym, ap, ◌∙◌, subst}
use lib.Dec.{eqb}
use lib.ListN.{get_or, set}
use Rattle.rules.specs.declared.Place.{Place}
use Rattle.rules.specs.declared.Builder.{Builder}
use Rattle.rules.specs.Limits.{max_places}
use Rattle.rules.specs.View.{place_at, follow, followed, loop_places}
use Rattle.border_theory.specs.Records.Plain.{record_at, records}
use Rattle.state_theory.proofs.Reading.Records.{records_at}
use Rattle.state_theory.specs.Opening.Marks.{Marked, markable, all_markable, flagged, returns, loop_marks, loops_mark, all_flagged}
use Rattle.state_theory.proofs.Opening.Tests.{no_and, yes_and}

-- a record of the memory
pub place_record : (m : List ℕ) (i : ℕ) (p : Place) → i < max_places → p ≡ record_at m i → p ≡ place_at (records max_places m) i
place_record m i p h e = e ∙ sym (records_at max_places m i h)

-- a test that fails, whatever the flags then
pub marked_not : (t : Bool) (s s' : List ℕ) → t ≡ false → Marked t s false s'
marked_not t s s' e = (sym e, λ h. absurd (false≢true h))

-- of k places from e on those from x on are left, with the flags s
pub record Walking (ps : List Place) (v : ℕ) (s₀ : List ℕ) (k e : ℕ) (s : List ℕ) (left x : ℕ) : Type 0 where
  pub test : returns ps v s left x e ≡ returns ps v s₀ k e e
  pub flags : flagged s (follow ps left x) ≡ flagged s₀ (follow ps k e)

pub walk_start : (ps : List Place) (v : ℕ) (s : List ℕ) (k e : ℕ) → Walking ps v s k e s k e
walk_start ps v s k e = record { test = refl; flags = refl }

module _ (ps : List Place) (v : ℕ) (s₀ : List ℕ) (k e : ℕ) where
  pub walk_stop : (s : List ℕ) (left x : ℕ) (y s' : List ℕ) (r : Bool) → Walking ps v s₀ k e s left x → 0 < left
      → Marked (markable ps v s x) y r s' → r ≡ false → Marked (returns ps v s₀ k e e) (flagged s₀ (follow ps k e)) false s'
  unfolding returns follow followed all_markable
  walk_stop s zero x y s' r w h g t = absurd (omega arith)
  walk_stop s (suc j) x y s' r w h g t =
      let n = (place_at ps x).after in
      marked_not _ _ s'
      (sym w.test
      ∙ no_and (markable ps v s x && all_markable ps v (set s x 1) (follow ps j n)) (eqb (followed ps j n) e)
      (no_and (markable ps v s x) (all_markable ps v (set s x 1) (follow ps j n)) (sym g.0 ∙ t)))

  pub walk_more : (s : List ℕ) (left j x : ℕ) (s' : List ℕ) (r : Bool) (p : Place) → Walking ps v s₀ k e s left x → left ≡ suc j
      → Marked (markable ps v s x) (set s x 1) r s' → r ≡ true → p ≡ place_at ps x → Walking ps v s₀ k e s' j p.after
  unfolding returns follow followed all_markable flagged
  walk_more s left j x s' r p w d g t ep =
      let n = (place_at ps x).after in
      let a : p.after ≡ n = ap (λ (q : Place). q.after) ep in
      let f : s' ≡ set s x 1 = g.1 t in
      let u : Walking ps v s₀ k e s (suc j) x = subst (λ (z : ℕ). Walking ps v s₀ k e s z x) d w in
      record {
        test =
            ap (λ (z : List ℕ). returns ps v z j p.after e) f ∙ ap (λ (z : ℕ). returns ps v (set s x 1) j z e) a
            ∙ ap (λ (z : Bool). z && eqb (followed ps j n) e)
            (sym (yes_and (markable ps v s x) (all_markable ps v (set s x 1) (follow ps j n)) (sym g.0 ∙ t)))
            ∙ u.test;
        flags =
            ap (λ (z : List ℕ). flagged z (follow ps j p.after)) f ∙ ap (λ (z : ℕ). flagged (set s x 1) (follow ps j z)) a ∙ u.flags;
      }

  pub walk_done : (s : List ℕ) (left x : ℕ) → Walking ps v s₀ k e s left x → left ≤ 0
      → Marked (returns ps v s₀ k e e) (flagged s₀ (follow ps k e)) (eqb x e) s
  unfolding returns follow followed all_markable flagged
  walk_done s zero x w h = (w.test, λ _. w.flags)
  walk_done s (suc j) x w h = absurd (omega arith)

-- of the first n loops the first w are left, with the flags s
pub record Looping (b : Builder) (ps : List Place) (s₀ : List ℕ) (n : ℕ) (s : List ℕ) (w : ℕ) : Type 0 where
  pub within : w ≤ n
  pub test : loops_mark b ps s w ≡ loops_mark b ps s₀ n
  pub flags : all_flagged b ps s w ≡ all_flagged b ps s₀ n

module _ (b : Builder) (ps : List Place) (s₀ : List ℕ) (n : ℕ) where
  pub loops_stop : (s : List ℕ) (w k e : ℕ) (y s' : List ℕ) (r : Bool) → Looping b ps s₀ n s w → 0 < w → k ≡ get_or b.sizes (w - 1) 0
      → e ≡ get_or b.current (w - 1) 0 → Marked (loop_marks ps b.used s k e) y r s' → r ≡ false
      → Marked (loops_mark b ps s₀ n) (all_flagged b ps s₀ n) false s'
  unfolding loops_mark
  loops_stop s zero k e y s' r l h ek ee g t = absurd (omega arith)
  loops_stop s (suc j) k e y s' r l h ek ee g t =
      let d : suc j - 1 ≡ j = omega arith in
      let K : k ≡ get_or b.sizes j 0 = ek ∙ ap (λ (i : ℕ). get_or b.sizes i 0) d in
      let E : e ≡ get_or b.current j 0 = ee ∙ ap (λ (i : ℕ). get_or b.current i 0) d in
      marked_not _ _ s'
      (sym l.test
      ∙ no_and (loop_marks ps b.used s (get_or b.sizes j 0) (get_or b.current j 0)) (loops_mark b ps (flagged s (loop_places b ps j)) j)
      (ap (λ (i : ℕ). loop_marks ps b.used s i (get_or b.current j 0)) (sym K) ∙ ap (λ (i : ℕ). loop_marks ps b.used s k i) (sym E)
      ∙ sym g.0 ∙ t))

  pub loops_more : (s : List ℕ) (w k e : ℕ) (s' : List ℕ) (r : Bool) → Looping b ps s₀ n s w → 0 < w → k ≡ get_or b.sizes (w - 1) 0
      → e ≡ get_or b.current (w - 1) 0 → Marked (loop_marks ps b.used s k e) (flagged s (follow ps k e)) r s' → r ≡ true
      → Looping b ps s₀ n s' (w - 1)
  unfolding loops_mark all_flagged
  loops_more s zero k e s' r l h ek ee g t = absurd (omega arith)
  loops_more s (suc j) k e s' r l h ek ee g t =
      let d : suc j - 1 ≡ j = omega arith in
      let K : k ≡ get_or b.sizes j 0 = ek ∙ ap (λ (i : ℕ). get_or b.sizes i 0) d in
      let E : e ≡ get_or b.current j 0 = ee ∙ ap (λ (i : ℕ). get_or b.current i 0) d in
      let f : s' ≡ flagged s (loop_places b ps j) =
      g.1 t ∙ ap (λ (i : ℕ). flagged s (follow ps i e)) K ∙ ap (λ (i : ℕ). flagged s (follow ps (get_or b.sizes j 0) i)) E in
      record {
        within = omega (arith, l.within);
        test =
            ap (λ (z : List ℕ). loops_mark b ps z (suc j - 1)) f ∙ ap (loops_mark b ps (flagged s (loop_places b ps j))) d
            ∙ sym (yes_and (loop_marks ps b.used s (get_or b.sizes j 0) (get_or b.current j 0))
            (loops_mark b ps (flagged s (loop_places b ps j)) j)
            (ap (λ (i : ℕ). loop_marks ps b.used s i (get_or b.current j 0)) (sym K)
            ∙ ap (λ (i : ℕ). loop_marks ps b.used s k i) (sym E)
            ∙ sym g.0 ∙ t))
            ∙ l.test;
        flags = ap (λ (z : List ℕ). all_flagged b ps z (suc j - 1)) f ∙ ap (all_flagged b ps (flagged s (loop_places b ps j))) d ∙ l.flags;
      }

  pub loops_done : (s : List ℕ) (w : ℕ) → Looping b ps s₀ n s w → w ≤ 0 → Marked (loops_mark b ps s₀ n) (all_flagged b ps s₀ n) true s
  unfolding loops_mark all_flagged
  loops_done s zero l h = (l.test, λ _. l.flags)
  loops_done s (suc j) l h = absurd (omega arith)
