-- The way back from the core: the builder's state that `builder_of` gives is read as the machine, and its links pass 21.
-- Assumes nothing.
use Prim.Native.Nat.{ℕ, zero, suc, ◌+◌, ◌-◌, ◌*◌, ◌≤◌, ◌<◌}
use native.Mathlib.Omega.{arith}
use mathlib.Core.Bool.{Bool, true, false, ◌&&◌}
use mathlib.Core.List.{List, [], ◌∷◌, ◌++◌}
use mathlib.Core.Path.{◌≡◌, refl, sym, ap, ap₂, ◌∙◌, subst}
use lib.Dec.{eqb, leb}
use lib.ListN.{length, get_or, set, drop, replicate, length-set, length-replicate}
use borrow.Author.Tests.{eqb-true, eqb-false}
use lib.Seq.{get_or-set_same, get_or-set_other}
use Rattle.rules.specs.declared.Builder.{Builder}
use Rattle.rules.specs.Limits.{max_places, max_loops}
use Rattle.rules.specs.Ring.{Ring, start_or, places}
use Rattle.rules.specs.Machine.{Machine}
use Rattle.rules.specs.Check.{all_below}
use Rattle.rules.specs.View.{place_at, follow, followed, nodes, place_nodes, place_rings, places_of, loops_of, triangles_built, view}
use Rattle.rules.specs.Sound.{sizes_of, apart, places_fit, loops_fit, links_fit}
use Rattle.book.specs.Consistent.{AllCurrent}
use Rattle.book.specs.Numbers.{LoopsBelow}
use Rattle.border_theory.specs.Links.Held.{named_loops}
use Rattle.border_theory.proofs.Links.Relink.{Apart}
use Rattle.border_theory.proofs.Links.Named.{named_lives}
use Rattle.border_theory.specs.Records.Plain.{records}
use Rattle.cutborder.specs.declared.Loops.{Loops}
use Rattle.cutborder.specs.declared.Front.{Front}
use Rattle.border_theory.specs.Memory.Layout.{at, vertices_of}
use Rattle.border_theory.specs.Memory.Stands.{rings_in, Waits, Named, StandsAt}
use Rattle.border_theory.specs.Memory.Keeps.{Keeps}
use Rattle.border_theory.proofs.Memory.Standing.{Trail, Trails, apart as stands-apart, trails, rings_read}
use Rattle.state_theory.proofs.Reading.Walked.{ring_places, rings_places}
use Rattle.state_theory.specs.Reading.Closing.{waiting_row, live_row, waiting_at, builder_of}
use Rattle.state_theory.proofs.Reading.Rings.{trail_nodes}
use Rattle.state_theory.proofs.Reading.Trails.{follow_trail, nodes_trail, loop_fits_lem, rings_apart, rings_below, rings_fit}
use Rattle.counting.proofs.Bools.{and_both}
use Rattle.border_theory.proofs.Memory.Counts.{places_named}

-- the builder's state b and the records of m are read as the machine M, and their links pass 21; its counts are those of f
pub record Closes (f : Front) (m xs : List ℕ) (M : Machine) (b : Builder) : Type 0 where
  pub machine : view b xs (records max_places m) ≡ M
  pub links : links_fit b (records max_places m) ≡ true
  -- each place has the record that it has in the memory
  pub rings : place_rings b (records max_places m) b.live ≡ rings_in max_places f.loops m
  -- past the live loops both arrays are zero
  pub currents_past : drop b.live b.current ≡ replicate (max_loops - b.live) 0
  pub sizes_past : drop b.live b.sizes ≡ replicate (max_loops - b.live) 0
  pub places : sizes_of b b.live ≡ places M.loops
  pub live : b.live ≡ length M.loops
  pub stated : b.stated ≡ f.stated
  pub used : b.used ≡ f.used
  pub built : b.built ≡ f.built
  pub peaks : b.peaks ≡ f.peaks
  pub edges : b.edges ≡ f.edges
  pub starts : b.starts ≡ f.starts
  pub unions : b.unions ≡ f.unions
  pub rims : b.rims ≡ f.rims

-- the rows: the waiting loops' numbers, and the current one's
module _ (m : List ℕ) (a : ℕ) where
  waiting_length : (k : ℕ) → length (waiting_row m a k) ≡ max_loops
  unfolding waiting_row
  waiting_length zero = length-replicate {A = ℕ} max_loops 0
  waiting_length (suc k) = length-set (waiting_row m a k) k (at m (a + 2 * k)) ∙ waiting_length k

  waiting_by : (k w : ℕ) → (w < k → get_or (waiting_row m a k) w 0 ≡ at m (a + 2 * w)) → w < suc k → suc k ≤ max_loops → (t : Bool)
      → eqb w k ≡ t → get_or (set (waiting_row m a k) k (at m (a + 2 * k))) w 0 ≡ at m (a + 2 * w)
  waiting_by k w ih h l true e =
      let d : w ≡ k = eqb-true w k e in
      subst (λ (j : ℕ). get_or (set (waiting_row m a k) k (at m (a + 2 * k))) j 0 ≡ at m (a + 2 * j)) (sym d)
      (get_or-set_same (waiting_row m a k) k (at m (a + 2 * k)) 0 (omega (arith, l, waiting_length k)))
  waiting_by k w ih h l false e =
      let d : w ≡ k → ⊥ = eqb-false w k e in
      get_or-set_other (waiting_row m a k) k w (at m (a + 2 * k)) 0 d ∙ ih (omega (arith, h, d))

  waiting_at_lem : (k w : ℕ) → w < k → k ≤ max_loops → get_or (waiting_row m a k) w 0 ≡ at m (a + 2 * w)
  unfolding waiting_row
  waiting_at_lem zero w h l = absurd (omega (arith, h))
  waiting_at_lem (suc k) w h l = waiting_by k w (λ g. waiting_at_lem k w g (omega (arith, l))) h l (eqb w k) refl

  pub live_at : (k w x : ℕ) → w < k → suc k ≤ max_loops → get_or (live_row m a (suc k) x) w 0 ≡ at m (a + 2 * w)
  unfolding live_row
  live_at k w x h l =
      get_or-set_other (waiting_row m a k) k w x 0 (λ d. omega (arith, h, d)) ∙ waiting_at_lem k w h (omega (arith, l))

  pub live_last : (k x : ℕ) → suc k ≤ max_loops → get_or (live_row m a (suc k) x) k 0 ≡ x
  unfolding live_row
  live_last k x l = get_or-set_same (waiting_row m a k) k x 0 (omega (arith, l, waiting_length k))

-- past the live loops the rows are zero
drop_past : (xs : List ℕ) (k v : ℕ) → drop (suc k) (set xs k v) ≡ drop (suc k) xs
drop_past [] k v = refl
drop_past (x ∷ xs) zero v = refl
drop_past (x ∷ xs) (suc k) v = drop_past xs k v

drop_next : (xs : List ℕ) (k j : ℕ) → drop k xs ≡ replicate (suc j) 0 → drop (suc k) xs ≡ replicate j 0
drop_next [] zero j h = ap (drop 1) h
drop_next [] (suc k) j h = ap (drop 1) h
drop_next (x ∷ xs) zero j h = ap (drop 1) h
drop_next (x ∷ xs) (suc k) j h = drop_next xs k j h

waiting_past : (m : List ℕ) (a k : ℕ) → k ≤ max_loops → drop k (waiting_row m a k) ≡ replicate (max_loops - k) 0
unfolding waiting_row
waiting_past m a zero h = refl
waiting_past m a (suc k) h =
    let e : max_loops - k ≡ suc (max_loops - suc k) = omega (arith, h) in
    drop_past (waiting_row m a k) k (at m (a + 2 * k))
    ∙ drop_next (waiting_row m a k) k (max_loops - suc k) (waiting_past m a k (omega (arith, h)) ∙ ap (λ (j : ℕ). replicate j 0) e)

live_past : (m : List ℕ) (a k x : ℕ) → k ≤ max_loops → drop k (live_row m a k x) ≡ replicate (max_loops - k) 0
unfolding live_row
live_past m a zero x h = refl
live_past m a (suc k) x h =
    let e : max_loops - k ≡ suc (max_loops - suc k) = omega (arith, h) in
    drop_past (waiting_row m a k) k x
    ∙ drop_next (waiting_row m a k) k (max_loops - suc k) (waiting_past m a k (omega (arith, h)) ∙ ap (λ (j : ℕ). replicate j 0) e)

-- the builder's state has these loops: the place where each one's current edge starts, and how many places it has
abbrev pub Has : Builder → List Ring → Type 0
Has b [] = Unit {0}
Has b (l ∷ ls) = (get_or b.current (length ls) 0 ≡ start_or 0 l) × (get_or b.sizes (length ls) 0 ≡ length l) × Has b ls

module _ (b : Builder) (n : ℕ) (m : List ℕ) where
  pub sizes_has : (rs : List Ring) → Has b rs → sizes_of b (length rs) ≡ places rs
  unfolding sizes_of places
  sizes_has [] h = refl
  sizes_has (l ∷ ls) h = ap₂ ◌+◌ h.1 (sizes_has ls h.2)

  follow_ring : (l : Ring) → Trail n m l (start_or 0 l) → follow (records n m) (length l) (start_or 0 l) ≡ ring_places l
  unfolding follow ring_places
  follow_ring [] t = refl
  follow_ring (p ∷ ps) t = follow_trail n m (p ∷ ps) (start_or 0 (p ∷ ps)) t

  pub loop_has : (l : Ring) (k : ℕ) → get_or b.current k 0 ≡ start_or 0 l → get_or b.sizes k 0 ≡ length l → Trail n m l (start_or 0 l)
      → follow (records n m) (get_or b.sizes k 0) (get_or b.current k 0) ≡ ring_places l
  loop_has l k c s t = ap₂ (follow (records n m)) s c ∙ follow_ring l t

  pub places_has : (rs : List Ring) → Has b rs → Trails n m rs → places_of b (records n m) (length rs) ≡ rings_places rs
  unfolding places_of rings_places
  places_has [] h t = refl
  places_has (l ∷ ls) h t =
      ap₂ (λ (xs ys : List ℕ). xs ++ ys) (loop_has l (length ls) h.0 h.1 t.0) (places_has ls h.2 t.1)

  pub loops_has : (rs : List Ring) → Has b rs → Trails n m rs → loops_of b (records n m) (length rs) ≡ named_loops (vertices_of n m) rs
  unfolding loops_of named_loops
  loops_has [] h t = refl
  loops_has (l ∷ ls) h t =
      ap₂ (λ (x : Ring) (xs : List Ring). x ∷ xs)
      (ap (nodes (records n m)) (loop_has l (length ls) h.0 h.1 t.0) ∙ nodes_trail n m l (start_or 0 l) t.0)
      (loops_has ls h.2 t.1)

  pub rings_has : (rs : List Ring) → Has b rs → Trails n m rs → place_rings b (records n m) (length rs) ≡ rs
  unfolding place_rings
  rings_has [] h t = refl
  rings_has (l ∷ ls) h t =
      ap₂ (λ (x : Ring) (xs : List Ring). x ∷ xs)
      (ap (place_nodes (records n m)) (loop_has l (length ls) h.0 h.1 t.0) ∙ trail_nodes n m l (start_or 0 l) t.0)
      (rings_has ls h.2 t.1)

  pub fits_has : (rs : List Ring) → Has b rs → Trails n m rs → AllCurrent rs → loops_fit b (records n m) (length rs) ≡ true
  unfolding loops_fit
  fits_has [] h t c = refl
  fits_has (l ∷ ls) h t c =
      and_both _ _
      (ap₂ (λ (e k : ℕ). leb 1 k && eqb (followed (records n m) k e) e && (place_at (records n m) e).«open») h.0 h.1
      ∙ loop_fits_lem n m l c.0 t.0)
      (fits_has ls h.2 t.1 c.1)

-- the state that the core's is given back as has the loops that stand
module _ (f : Front) (m : List ℕ) (few : f.loops.live ≤ max_loops) where
  waiting_has : (k : ℕ) → f.loops.live ≡ suc k → (ws : List Ring) → length ws ≤ k → Waits max_places m ws → Has (builder_of f m) ws
  unfolding builder_of
  waiting_has k e [] h w = tt
  waiting_has k e (l ∷ ws) h w =
      let r : suc k ≤ max_loops = omega (arith, e, few) in
      let i : length ws < k = omega (arith, h) in
      let z : waiting_at + 1 + 2 * length ws ≡ waiting_at + 2 * length ws + 1 = omega arith in (
        ap (λ (j : ℕ). get_or (live_row m waiting_at j f.loops.current) (length ws) 0) e
            ∙ live_at m waiting_at k (length ws) f.loops.current i r ∙ w.0,
        ap (λ (j : ℕ). get_or (live_row m (waiting_at + 1) j f.loops.size) (length ws) 0) e
            ∙ live_at m (waiting_at + 1) k (length ws) f.loops.size i r ∙ ap (at m) z ∙ w.1,
        waiting_has k e ws (omega (arith, h)) w.2,
      )

  pub builder_has : (rs : List Ring) → Named max_places f.loops m rs → Has (builder_of f m) rs
  unfolding builder_of
  builder_has [] h = tt
  builder_has (l ∷ ws) h =
      let e : f.loops.live ≡ suc (length ws) = h.live in
      let r : suc (length ws) ≤ max_loops = omega (arith, e, few) in (
        ap (λ (j : ℕ). get_or (live_row m waiting_at j f.loops.current) (length ws) 0) e
            ∙ live_last m waiting_at (length ws) f.loops.current r ∙ h.current,
        ap (λ (j : ℕ). get_or (live_row m (waiting_at + 1) j f.loops.size) (length ws) 0) e
            ∙ live_last m (waiting_at + 1) (length ws) f.loops.size r ∙ h.size,
        waiting_has (length ws) e ws (omega arith) h.waiting,
      )

pub named_lives_by : (n : ℕ) (s : Loops) (m : List ℕ) (rs : List Ring) → Named n s m rs → s.live ≡ length rs
named_lives_by n s m [] h = h
named_lives_by n s m (l ∷ ws) h = h.live

module _ (b : Builder) (n : ℕ) (m : List ℕ) (rs : List Ring) (live : b.live ≡ length rs) (has : Has b rs) (t : Trails n m rs) where
  pub loops_read : loops_of b (records n m) b.live ≡ named_loops (vertices_of n m) rs
  loops_read = ap (loops_of b (records n m)) live ∙ loops_has b n m rs has t

  pub places_read : places_of b (records n m) b.live ≡ rings_places rs
  places_read = ap (places_of b (records n m)) live ∙ places_has b n m rs has t

pub links_fit_lem : (b : Builder) (m : List ℕ) (rs : List Ring) → b.live ≡ length rs → Has b rs → Trails max_places m rs → Apart rs
    → AllCurrent rs
    → LoopsBelow b.used (named_loops (vertices_of max_places m) rs) → links_fit b (records max_places m) ≡ true
unfolding links_fit
links_fit_lem b m rs live has t a c u =
    let e : places_of b (records max_places m) b.live ≡ rings_places rs = places_read b max_places m rs live has t in
    and_both _ _
    (and_both _ _
    (and_both _ _ (ap (all_below max_places) e ∙ rings_below max_places m rs t) (ap apart e ∙ rings_apart rs a))
    (ap (places_fit (records max_places m) b.used) e ∙ rings_fit max_places m b.used rs t u c))
    (ap (loops_fit b (records max_places m)) live ∙ fits_has b max_places m rs has t c)

module _ (f : Front) (m xs : List ℕ) (M : Machine) (k : Keeps max_places f m M) (few : f.loops.live ≤ max_loops)
    (u : LoopsBelow M.used M.loops) (ts : triangles_built xs f.built ≡ M.triangles) (rs : List Ring)
    (st : StandsAt max_places f.loops m rs) (e : M.loops ≡ named_loops (vertices_of max_places m) rs) where
  live_is : (builder_of f m).live ≡ length rs
  unfolding builder_of
  live_is = named_lives_by max_places f.loops m rs st.heads

  has_rings : Has (builder_of f m) rs
  has_rings = builder_has f m few rs st.heads

  trails_are : Trails max_places m rs
  trails_are = trails max_places f.loops m rs st

  loops_are : loops_of (builder_of f m) (records max_places m) (builder_of f m).live ≡ M.loops
  loops_are = loops_read (builder_of f m) max_places m rs live_is has_rings trails_are ∙ sym e

  machine_is : view (builder_of f m) xs (records max_places m) ≡ M
  unfolding view builder_of
  machine_is t = record {
    stated = sym k.stated t;
    triangles = ts t;
    loops = loops_are t;
    used = sym k.used t;
    most_places = sym k.most_places t;
    most_loops = sym k.most_loops t;
    edges = sym k.edges t;
    starts = sym k.starts t;
    unions = sym k.unions t;
    rims = sym k.rims t;
  }

  used_below : LoopsBelow (builder_of f m).used (named_loops (vertices_of max_places m) rs)
  unfolding builder_of
  used_below = subst (λ (v : ℕ). LoopsBelow v (named_loops (vertices_of max_places m) rs)) k.used (subst (LoopsBelow M.used) e u)

  closes_at : Closes f m xs M (builder_of f m)
  unfolding builder_of
  closes_at = record {
    machine = machine_is;
    links =
        links_fit_lem (builder_of f m) m rs live_is has_rings trails_are (stands-apart max_places f.loops m rs st) st.sound
        used_below;
    places =
        ap (sizes_of (builder_of f m)) live_is ∙ sizes_has (builder_of f m) max_places m rs has_rings
        ∙ sym (ap places e ∙ places_named (vertices_of max_places m) rs);
    rings =
        ap (place_rings (builder_of f m) (records max_places m)) live_is ∙ rings_has (builder_of f m) max_places m rs has_rings trails_are
        ∙ sym (rings_read max_places f.loops m rs st);
    currents_past = live_past m waiting_at f.loops.live f.loops.current few;
    sizes_past = live_past m (waiting_at + 1) f.loops.live f.loops.size few;
    live = live_is ∙ sym (ap length e ∙ named_lives (vertices_of max_places m) rs);
    stated = refl;
    used = refl;
    built = refl;
    peaks = refl;
    edges = refl;
    starts = refl;
    unions = refl;
    rims = refl;
  }

-- the core's state and memory keep the machine M, whose loops' vertices are used and whose triangles the buffer xs has
pub closes : (f : Front) (m xs : List ℕ) (M : Machine) → Keeps max_places f m M → f.loops.live ≤ max_loops → LoopsBelow M.used M.loops
    → triangles_built xs f.built ≡ M.triangles → Closes f m xs M (builder_of f m)
closes f m xs M k few u ts = closes_at f m xs M k few u ts (rings_in max_places f.loops m) k.stands k.loops
