-- From a memory that an operation leaves tidy to the records that it is written back as.
-- Assumes nothing.
use Prim.Native.Nat.{ℕ, zero, suc, ◌+◌, ◌*◌, ◌≤◌, ◌<◌}
use native.Mathlib.Omega.{arith}
use mathlib.Core.Bool.{Bool, true, false}
use mathlib.Core.List.{List, [], ◌∷◌}
use mathlib.Core.Path.{◌≡◌, refl, sym, ap, ◌∙◌, subst}
use lib.ListN.{length}
use lib.Dec.{ltb}
use borrow.Author.Tests.{ltb-true, ltb-false}
use Rattle.rules.specs.declared.Operation.{Operation}
use Rattle.rules.specs.declared.Operation.TheVariants.{New, Forward, Backward, Border, Split, Close, Union, Start}
use Rattle.rules.specs.Machine.{Machine}
use Rattle.rules.specs.declared.Place.{Place}
use Rattle.rules.specs.declared.Builder.{Builder}
use Rattle.rules.specs.Limits.{max_places}
use Rattle.rules.specs.Count.{same, occurs}
use Rattle.rules.specs.Places.{rings_after}
use Rattle.rules.specs.View.{place_at}
use Rattle.book.specs.Sums.{placed}
use Rattle.border_theory.specs.Records.Plain.{is_one, records}
use Rattle.cutborder.specs.declared.Loops.{Loops}
use Rattle.border_theory.specs.Memory.Layout.{at}
use Rattle.border_theory.specs.Memory.Stands.{rings_in, Stands}
use Rattle.border_theory.specs.Memory.Moves.{Held}
use Rattle.border_theory.specs.Memory.Touched.{taken_by, touched_by, NoneOf, leavers, Tidy}
use Rattle.border_theory.proofs.Memory.Standing.{below, apart}
use Rattle.state_theory.proofs.Reading.Records.{records_at, place_none}
use Rattle.state_theory.specs.Performing.Core.{rings_of, Written}
use Rattle.counting.proofs.Counts.{same_yes, same_is}

-- a number that a list has not
pub none_of : (i : ℕ) (xs : List ℕ) → occurs i xs ≡ 0 → NoneOf i xs
unfolding occurs
none_of i [] h = tt
none_of i (x ∷ xs) h = (λ e. omega (arith, h, ap (same i) (sym e), same_yes i), none_of i xs (omega (arith, h)))

pub none_occurs : (i : ℕ) (xs : List ℕ) → NoneOf i xs → occurs i xs ≡ 0
unfolding occurs
none_occurs i [] d = refl
none_occurs i (x ∷ xs) d = go (same i x) refl (none_occurs i xs d.1)
  where
    go : (s : ℕ) → same i x ≡ s → occurs i xs ≡ 0 → same i x + occurs i xs ≡ 0
    go zero e r = omega (arith, e, r)
    go (suc s) e r = absurd (d.0 (same_is i x (omega (arith, e))))

-- what an operation leaves, of the records before it and after it; b and b' are the states, s the loops before it
module _ (b b' : Builder) (s : Loops) (m : List ℕ) (o : Operation) (h : Held) (touched : List ℕ) (st : Stands max_places s m)
    (t : Tidy max_places s m o h touched) (before : rings_of b (records max_places m) ≡ rings_in max_places s m)
    (after : rings_of b' (records max_places h.memory) ≡ rings_in max_places h.loops h.memory) where
  abbrev ps : List Place
  ps = records max_places m

  abbrev qs : List Place
  qs = records max_places h.memory

  abbrev taken : List ℕ
  taken = taken_by max_places s m o

  was : (i : ℕ) → placed i (rings_of b (records max_places m)) ≡ placed i (rings_in max_places s m)
  was i = ap (placed i) before

  now_is : (i : ℕ) → placed i (rings_of b' (records max_places h.memory)) ≡ placed i (rings_in max_places h.loops h.memory)
  now_is i = ap (placed i) after

  once : (i : ℕ) → placed i (rings_in max_places s m) ≤ 1
  once = apart max_places s m (rings_in max_places s m) st

  -- where something is taken nothing leaves
  untaken : (i : ℕ) → 1 ≤ occurs i (leavers max_places s h) → occurs i (taken_by max_places s m o) ≡ 0
  untaken i l = go (occurs i taken) refl
    where
      go : (k : ℕ) → occurs i (taken_by max_places s m o) ≡ k → occurs i (taken_by max_places s m o) ≡ 0
      go zero e = e
      go (suc k) e = absurd (omega (arith, l, t.apart i (omega (arith, e))))

  pub unused : (i : ℕ) → 1 ≤ occurs i (taken_by max_places s m o) → (i < max_places) × (placed i (rings_of b (records max_places m)) ≡ 0)
  unused i l = let f = t.free i l in (f.1, was i ∙ f.0)

  pub rings_are : rings_of b' (records max_places h.memory) ≡ rings_after o (taken_by max_places s m o) (rings_of b (records max_places m))
  rings_are = after ∙ t.rings ∙ ap (rings_after o taken) (sym before)

  place_by : (i : ℕ) (c : Bool) → ltb i max_places ≡ c → NoneOf i touched
      → place_at (records max_places h.memory) i ≡ place_at (records max_places m) i
  place_by i true e d =
      let l : i < max_places = ltb-true i max_places e in
      let z : 4 * i + 0 ≡ 4 * i = omega arith in
      let v : at h.memory (4 * i) ≡ at m (4 * i) =
      ap (at h.memory) (sym z) ∙ t.only.others i 0 l (omega arith) d ∙ ap (at m) z in
      records_at max_places h.memory i l
      ∙ (λ x. record {
        vertex = v x;
        before = t.only.others i 1 l (omega arith) d x;
        after = t.only.others i 2 l (omega arith) d x;
        «open» = ap is_one (t.only.others i 3 l (omega arith) d) x;
      })
      ∙ sym (records_at max_places m i l)
  place_by i false e d = sym (place_none h.memory i (ltb-false i max_places e)) ∙ place_none m i (ltb-false i max_places e)

  pub place_same : (i : ℕ) → NoneOf i touched → place_at (records max_places h.memory) i ≡ place_at (records max_places m) i
  place_same i d = place_by i (ltb i max_places) refl d

  pub others : (i : ℕ) → occurs i touched ≡ 0 → place_at (records max_places h.memory) i ≡ place_at (records max_places m) i
  others i e = place_same i (none_of i touched e)

  pub stays : (i : ℕ) → 1 ≤ placed i (rings_of b (records max_places m))
      → (place_at (records max_places h.memory) i).vertex ≡ (place_at (records max_places m) i).vertex
  stays i l =
      let k : 1 ≤ placed i (rings_in max_places s m) = omega (arith, l, was i) in
      let n : i < max_places = below max_places s m (rings_in max_places s m) st i k in
      ap (λ (p : Place). p.vertex) (records_at max_places h.memory i n) ∙ t.named.others i n (none_of i taken (out k))
      ∙ sym (ap (λ (p : Place). p.vertex) (records_at max_places m i n))
    where
      out : 1 ≤ placed i (rings_in max_places s m) → occurs i (taken_by max_places s m o) ≡ 0
      out k = go (occurs i taken) refl
        where
          go : (c : ℕ) → occurs i (taken_by max_places s m o) ≡ c → occurs i (taken_by max_places s m o) ≡ 0
          go zero e = e
          go (suc c) e = absurd (omega (arith, k, (t.free i (omega (arith, e))).0))

  pub idle : (i : ℕ) → placed i (rings_of b (records max_places m)) ≡ 0 → placed i (rings_of b' (records max_places h.memory)) ≡ 0
      → place_at (records max_places h.memory) i ≡ place_at (records max_places m) i
  idle i e g = place_same i (t.inside i (sym (was i) ∙ e) (none_of i taken (go (occurs i taken) refl)))
    where
      go : (c : ℕ) → occurs i (taken_by max_places s m o) ≡ c → occurs i (taken_by max_places s m o) ≡ 0
      go zero f = f
      go (suc c) f = absurd (omega (arith, f, t.apart i (omega (arith, f)), t.balance i, g, now_is i))

  pub near : (i : ℕ) → 1 ≤ occurs i touched → i < max_places
  near i l = by (placed i (rings_in max_places s m)) refl
    where
      by : (k : ℕ) → placed i (rings_in max_places s m) ≡ k → i < max_places
      by (suc k) e = below max_places s m (rings_in max_places s m) st i (omega (arith, e))
      by zero e = go (occurs i taken) refl
        where
          go : (c : ℕ) → occurs i (taken_by max_places s m o) ≡ c → i < max_places
          go (suc c) f = (t.free i (omega (arith, f))).1
          go zero f = absurd (omega (arith, l, none_occurs i touched (t.inside i e (none_of i taken f))))

  pub left : (i : ℕ) → 1 ≤ occurs i (leavers max_places s h)
      → (1 ≤ placed i (rings_of b (records max_places m))) × (placed i (rings_of b' (records max_places h.memory)) ≡ 0)
  left i l =
      (omega (arith, l, untaken i l, t.balance i, was i), omega (arith, l, untaken i l, t.balance i, once i, now_is i))

  pub gone : (i : ℕ) → 1 ≤ placed i (rings_of b (records max_places m)) → placed i (rings_of b' (records max_places h.memory)) ≡ 0
      → 1 ≤ occurs i (leavers max_places s h)
  gone i l e = omega (arith, l, e, was i, now_is i, t.balance i)

-- at most five places are touched
pub few_touched : (n : ℕ) (s : Loops) (m : List ℕ) (o : Operation) (c : ℕ) → length (touched_by n s m o c) ≤ 5
few_touched n s m New c = omega arith
few_touched n s m Forward c = omega arith
few_touched n s m Backward c = omega arith
few_touched n s m Border c = omega arith
few_touched n s m (Split i) c = omega arith
few_touched n s m Close c = omega arith
few_touched n s m (Union p j) c = omega arith
few_touched n s m Start c = omega arith

-- the same records, and lists that have the same places
pub rewritten : (b : Builder) (o : Operation) (ps : List Place) (xs : List ℕ) (M : Machine) (b' : Builder) (xs' : List ℕ)
    (qs qs' : List Place)
    (linked freed linked' freed' : List ℕ) → qs ≡ qs' → ((i : ℕ) → occurs i linked' ≡ occurs i linked) → freed' ≡ freed
    → Written b o ps xs M b' xs' qs linked freed → Written b o ps xs M b' xs' qs' linked' freed'
rewritten b o ps xs M b' xs' qs qs' linked freed linked' freed' eq el ef w =
    subst (λ (rs : List Place). Written b o ps xs M b' xs' rs linked' freed') eq
    (subst (λ (is : List ℕ). Written b o ps xs M b' xs' qs linked' is) (sym ef)
    (record {
      triangles = w.triangles;
      machine = w.machine;
      passes = w.passes;
      taken = w.taken;
      unused = w.unused;
      rings = w.rings;
      stays = w.stays;
      idle = w.idle;
      others = λ i h. w.others i (sym (el i) ∙ h);
      near = λ i h. w.near i (omega (arith, h, el i));
      left = w.left;
      gone = w.gone;
      current_past = w.current_past;
      sizes_past = w.sizes_past;
    }))
