-- The places that leave at a border, before its edge is marked: the loops after that stand.
-- Assumes nothing.
use Prim.Native.Nat.{ℕ, ◌+◌, ◌-◌, ◌*◌, ◌≤◌, ◌<◌}
use native.Mathlib.Omega.{arith}
use mathlib.Core.Bool.{Bool, true, false, true≢false}
use mathlib.Core.List.{List, [], ◌∷◌}
use mathlib.Core.Path.{◌≡◌, refl, sym, ap, ◌∙◌, subst}
use lib.ListN.{length, length-set, length-append}
use lib.Seq.{get_or-set_other}
use lib.Dec.{eqb}
use Rattle.rules.specs.Count.{num, same}
use Rattle.rules.specs.Ring.{Node, opened, marked, Ring, start_or, last_open, last_vertex, front, places}
use Rattle.book.specs.Sums.{path_sum, ring_sum, loops_sum, placed}
use Rattle.book.specs.Consistent.{AllCurrent}
use Rattle.book.proofs.Sums.{start_append, sum_append}
use Rattle.book.proofs.Spaced.{spaced_any, spaced_front}
use Rattle.border_theory.specs.Links.Held.{Memory, Arc, arc, Holds}
use Rattle.border_theory.proofs.Links.Relink.{Apart, stored}
use Rattle.border_theory.proofs.Links.Stores.{cut_next}
use Rattle.border_theory.proofs.Links.Surgery.{do_forward, do_cut}
use Rattle.border_theory.proofs.Links.Cut.{front_marked}
use Rattle.cutborder.specs.declared.Loops.{Loops}
use Rattle.border_theory.specs.Memory.Layout.{at, before_of, after_of, open_of, vertices_of, links_of, edges_stored, freed}
use Rattle.border_theory.specs.Memory.Stands.{StandsAt}
use Rattle.border_theory.specs.Memory.Moves.{Held, held, forward_held, backward_held, cut_by, next_cut, last_cut}
use Rattle.border_theory.proofs.Memory.Columns.{Near, EdgesStored, edges_stored_lem, links_long, same_vertices, same_links}
use Rattle.border_theory.proofs.Memory.Standing.{Trail, trails, last_trail, start_trail, apart}
use Rattle.border_theory.proofs.Memory.Room.{room}
use Rattle.border_theory.proofs.Memory.Relinked.{stacked_same, stacked_freed, waits_same}

-- what a step leaves: the loops rs, and the places' vertices and the k places on the stack as they were
pub record Left (n k : ℕ) (m : List ℕ) (h : Held) (rs : List Ring) : Type 0 where
  pub lengths : length h.memory ≡ length m
  pub rest : (i : ℕ) → 5 * n ≤ i → at h.memory i ≡ at m i
  pub stack : (j : ℕ) → j < k → at h.memory (4 * n + j) ≡ at m (4 * n + j)
  pub more : k ≤ h.loops.free
  pub stands : StandsAt n h.loops h.memory rs
  pub vertices : vertices_of n h.memory ≡ vertices_of n m

-- nothing is done
unchanged : (n : ℕ) (s : Loops) (m : List ℕ) (rs : List Ring) → StandsAt n s m rs → Left n s.free m (record { loops = s; memory = m }) rs
unchanged n s m rs st = record { lengths = refl; rest = λ i h. refl; stack = λ j h. refl; more = omega arith; stands = st; vertices = refl }

-- the ring after the current place is the last one
abbrev pub cut_last : Bool → ℕ → List Node → Ring
cut_last true e ps = opened e ∷ ps
cut_last false e ps = opened (last_vertex ps) ∷ front ps

module _ (n : ℕ) (s : Loops) (m : List ℕ) (e : ℕ) (ps : List Node) (ws : List Ring)
    (st : StandsAt n s m ((opened e ∷ ps) ∷ ws)) where
  ring : Trail n m (opened e ∷ ps) e
  ring = (trails n s m ((opened e ∷ ps) ∷ ws) st).0

  long : 4 * n ≤ length m
  long = omega (arith, st.long)

  used_some : s.free < n
  unfolding places
  used_some = omega (arith, room n s m ((opened e ∷ ps) ∷ ws) st)

  -- edges are stored, and the place x leaves
  module _ (ds : List Arc) (near : Near n ds) (l : Ring) (x : ℕ) (holds : Holds (stored ds (links_of n m)) (l ∷ ws))
      (fewer : (y : ℕ) → placed y (l ∷ ws) + same y x ≡ placed y ((opened e ∷ ps) ∷ ws)) (current : AllCurrent (l ∷ ws)) where
    done : List ℕ
    done = edges_stored ds m

    made : EdgesStored n m ds
    made = edges_stored_lem n m ds long near

    left : List ℕ
    left = freed n done s.free x

    records : (i : ℕ) → i < 4 * n → at left i ≡ at done i
    unfolding left
    records i h = get_or-set_other done (4 * n + s.free) i x 0 (λ z. omega (arith, z))

    waiting_stays : (i : ℕ) → 5 * n ≤ i → at left i ≡ at m i
    unfolding left done
    waiting_stays i h = get_or-set_other done (4 * n + s.free) i x 0 (λ z. omega (arith, z, used_some)) ∙ made.above i (omega arith)

    cut : (c k : ℕ) → c ≡ start_or 0 l → k ≡ length l
        → Left n s.free m (held s.live c k (s.free + 1) (freed n (edges_stored ds m) s.free x)) (l ∷ ws)
    unfolding left done
    cut c k ec ek = record {
      lengths = length-set done (4 * n + s.free) x ∙ made.lengths;
      rest = waiting_stays;
      stack = λ j h. get_or-set_other done (4 * n + s.free) (4 * n + j) x 0 (λ z. omega (arith, z, h))
          ∙ made.above (4 * n + j) (omega arith);
      more = omega arith;
      stands = record {
        long = omega (arith, st.long, made.lengths, length-set done (4 * n + s.free) x);
        holds = subst (λ (M : Memory). Holds M (l ∷ ws)) (sym (same_links n done left records ∙ made.links)) holds;
        each = λ y.
            omega (
              arith,
              st.each y,
              fewer y,
              stacked_freed n y done s.free x (omega (arith, st.long, made.lengths, used_some)),
              stacked_same n y m done s.free (λ i h. made.above (4 * n + i) (omega arith)),
            );
        heads = record {
          live = st.heads.live;
          current = ec;
          size = ek;
          waiting =
              waits_same n m left waiting_stays ws st.heads.waiting;
        };
        sound = current;
      };
      vertices = same_vertices n done left records ∙ made.vertices;
    }

  -- the edge before the current one
  last_mark : (t : Bool) → last_open (opened e ∷ ps) ≡ t → open_of m (before_of m s.current) ≡ num t
  last_mark t h =
      let b = last_trail n m e (opened e ∷ ps) ring (omega arith) in
      ap (λ (x : ℕ). open_of m (before_of m x)) st.heads.current ∙ ap (open_of m) b.back ∙ b.mark ∙ ap num h

-- the next place leaves if its edge is marked
next_kept : (n : ℕ) (s : Loops) (m : List ℕ) (rs : List Ring) → StandsAt n s m rs → open_of m (after_of m s.current) ≡ 1
    → Left n s.free m (next_cut n s m) rs
unfolding next_cut
next_kept n s m rs st h = subst (λ (x : ℕ). Left n s.free m (cut_by (eqb x 0) (forward_held n s m) s m) rs) (sym h) (unchanged n s m rs st)

forward_is : (n : ℕ) (s : Loops) (m : List ℕ) (e f g : ℕ) → s.current ≡ e → after_of m e ≡ f → after_of m f ≡ g
    → forward_held n s m ≡ held s.live e (s.size - 1) (s.free + 1) (freed n (edges_stored (arc e g true ∷ []) m) s.free f)
unfolding forward_held
forward_is n s m e f g a b c = rw (a, b, c)

backward_is : (n : ℕ) (s : Loops) (m : List ℕ) (e f l : ℕ) → s.current ≡ e → after_of m e ≡ f → before_of m e ≡ l
    → backward_held n s m ≡ held s.live l (s.size - 1) (s.free + 1) (freed n (edges_stored (arc l f true ∷ []) m) s.free e)
unfolding backward_held
backward_is n s m e f l a b c = rw (a, b, c)

next_lost : (n : ℕ) (s : Loops) (m : List ℕ) (e f : ℕ) (qs : List Node) (ws : List Ring)
    → StandsAt n s m ((opened e ∷ (marked f ∷ qs)) ∷ ws)
    → Left n s.free m (forward_held n s m) ((opened e ∷ qs) ∷ ws)
unfolding loops_sum ring_sum path_sum
next_lost n s m e f qs ws st =
    let old : List Ring = (opened e ∷ (marked f ∷ qs)) ∷ ws in
    let t = ring n s m e (marked f ∷ qs) ws st in
    let bg : start_or e qs < n = start_trail n m e t.0.near qs t.1.1 in
    let a : s.current ≡ e = st.heads.current in
    let b : after_of m e ≡ f = t.0.fore in
    let c : after_of m f ≡ start_or e qs = t.1.0.fore in
    subst (λ (h : Held). Left n s.free m h ((opened e ∷ qs) ∷ ws)) (sym (forward_is n s m e f (start_or e qs) a b c))
    (cut n s m e (marked f ∷ qs) ws st (arc e (start_or e qs) true ∷ []) (t.0.near, bg, tt) (opened e ∷ qs) f
    (do_forward n (links_of n m) (links_long n m) ws e (marked f) qs (apart n s m old st) t.0.near bg st.holds).holds
    (λ y. omega arith) (refl, st.sound.1, spaced_any qs true st.sound.2) e (s.size - 1) refl (omega (arith, st.heads.size)))

next_gone : (n : ℕ) (s : Loops) (m : List ℕ) (rs : List Ring) → open_of m (after_of m s.current) ≡ 0
    → Left n s.free m (forward_held n s m) rs
    → Left n s.free m (next_cut n s m) rs
unfolding next_cut
next_gone n s m rs h l = subst (λ (x : ℕ). Left n s.free m (cut_by (eqb x 0) (forward_held n s m) s m) rs) (sym h) l

pub next_cut_lem : (n : ℕ) (s : Loops) (m : List ℕ) (e : ℕ) (ps : List Node) (ws : List Ring) → StandsAt n s m ((opened e ∷ ps) ∷ ws)
    → Left n s.free m (next_cut n s m) ((opened e ∷ cut_next ps) ∷ ws)
next_cut_lem n s m e [] ws st =
    let t = ring n s m e [] ws st in
    next_kept n s m ((opened e ∷ []) ∷ ws) st
    (ap (λ (x : ℕ). open_of m (after_of m x)) st.heads.current ∙ ap (open_of m) t.0.fore ∙ t.0.mark)
next_cut_lem n s m e (opened f ∷ qs) ws st =
    let t = ring n s m e (opened f ∷ qs) ws st in
    next_kept n s m ((opened e ∷ (opened f ∷ qs)) ∷ ws) st
    (ap (λ (x : ℕ). open_of m (after_of m x)) st.heads.current ∙ ap (open_of m) t.0.fore ∙ t.1.0.mark)
next_cut_lem n s m e (marked f ∷ qs) ws st =
    let t = ring n s m e (marked f ∷ qs) ws st in
    let z : open_of m (after_of m s.current) ≡ 0 =
    ap (λ (x : ℕ). open_of m (after_of m x)) st.heads.current ∙ ap (open_of m) t.0.fore ∙ t.1.0.mark in
    next_gone n s m ((opened e ∷ qs) ∷ ws) z (next_lost n s m e f qs ws st)

-- the current place leaves if the edge before it is marked
last_lost : (n : ℕ) (s : Loops) (m : List ℕ) (e : ℕ) (ps : List Node) (ws : List Ring) → StandsAt n s m ((opened e ∷ ps) ∷ ws)
    → 1 ≤ length ps
    → last_open ps ≡ false → Left n s.free m (backward_held n s m) ((opened (last_vertex ps) ∷ front ps) ∷ ws)
unfolding loops_sum ring_sum path_sum
last_lost n s m e ps ws st k o =
    let old : List Ring = (opened e ∷ ps) ∷ ws in
    let t = ring n s m e ps ws st in
    let l : ℕ = last_vertex ps in
    let eq = front_marked ps k o in
    let hop = last_trail n m e ps t.1 k in
    let start : start_or l (front ps) ≡ start_or e ps = sym (start_append e (front ps) (marked l ∷ [])) ∙ ap (start_or e) eq in
    let bf : start_or e ps < n = start_trail n m e t.0.near ps t.1 in
    let a : s.current ≡ e = st.heads.current in
    let b : after_of m e ≡ start_or e ps = t.0.fore in
    let c : before_of m e ≡ l = hop.back in
    let d =
    do_cut n (links_of n m) (links_long n m) ws e l (front ps)
    (subst (λ (x : List Node). Apart ((opened e ∷ x) ∷ ws)) (sym eq) (apart n s m old st))
    hop.near (subst (λ (x : ℕ). x < n) (sym start) bf)
    (subst (λ (x : List Node). Holds (links_of n m) ((opened e ∷ x) ∷ ws)) (sym eq) st.holds) in
    subst (λ (h : Held). Left n s.free m h ((opened l ∷ front ps) ∷ ws)) (sym (backward_is n s m e (start_or e ps) l a b c))
    (cut n s m e ps ws st (arc l (start_or e ps) true ∷ []) (hop.near, bf, tt) (opened l ∷ front ps) e
    (subst (λ (x : ℕ). Holds (stored (arc l x true ∷ []) (links_of n m)) ((opened l ∷ front ps) ∷ ws)) start d.holds)
    (λ y.
    omega (
      arith,
      sum_append (λ p r o. same y p) (front ps) (marked l ∷ []) e,
      ap (λ (x : List Node). path_sum (λ p r o. same y p) x e) eq,
    ))
    (refl, st.sound.1, spaced_front ps false st.sound.2) l (s.size - 1) refl
    (omega (arith, st.heads.size, length-append (front ps) (marked l ∷ []), ap length eq)))

pub last_cut_lem : (n : ℕ) (s : Loops) (m : List ℕ) (e : ℕ) (ps : List Node) (ws : List Ring) → StandsAt n s m ((opened e ∷ ps) ∷ ws)
    → (t : Bool)
    → last_open (opened e ∷ ps) ≡ t → Left n s.free m (last_cut n s m) (cut_last t e ps ∷ ws)
unfolding last_cut
last_cut_lem n s m e ps ws st true h =
    subst (λ (x : ℕ). Left n s.free m (cut_by (eqb x 0) (backward_held n s m) s m) ((opened e ∷ ps) ∷ ws))
    (sym (last_mark n s m e ps ws st true h))
    (unchanged n s m ((opened e ∷ ps) ∷ ws) st)
last_cut_lem n s m e [] ws st false h = absurd (true≢false (unfold last_open in h))
last_cut_lem n s m e (p ∷ ps) ws st false h =
    subst (λ (x : ℕ). Left n s.free m (cut_by (eqb x 0) (backward_held n s m) s m) ((opened (last_vertex (p ∷ ps)) ∷ front (p ∷ ps)) ∷ ws))
    (sym (last_mark n s m e (p ∷ ps) ws st false h)) (last_lost n s m e (p ∷ ps) ws st (omega arith) (unfold last_open in h))
