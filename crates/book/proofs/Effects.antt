-- What each of the eight operations does to the edges of the loops, as one law for all.
-- Assumes nothing.
use Prim.Native.Nat.{ℕ, zero, suc, ◌+◌, ◌-◌, ◌*◌, ◌≤◌, ◌<◌}
use native.Mathlib.Omega.{arith}
use mathlib.Core.Bool.{Bool, true, false, ◌&&◌, not, false≢true}
use mathlib.Core.List.{List, [], ◌∷◌, ◌++◌}
use mathlib.Core.Path.{◌≡◌, refl, sym, ap, ◌∙◌, subst}
use lib.ListN.{length, take, drop, take-append-drop, length-append, length-take, length-drop}
use lib.Dec.{eqb, leb, ltb}
use borrow.Author.Tests.{leb-true, ltb-true, eqb-true}
use Rattle.rules.specs.declared.Triangle.{Triangle}
use Rattle.rules.specs.declared.Operation.{Operation}
use Rattle.rules.specs.declared.Operation.TheVariants.{New, Forward, Backward, Border, Split, Close, Union, Start}
use Rattle.rules.specs.Triangle.{tri, Edge, edge}
use Rattle.rules.specs.Ring.{Node, opened, marked, Ring, vertex, is_open, first_open, all_open, start_or, vertex_at, last_open, last_vertex}
use Rattle.rules.specs.Ring.{front}
use Rattle.rules.specs.Ring.{onward, reached, shown, loop_at, without}
use Rattle.rules.specs.Table.{Side, glued, fresh, Effect, not_allowed, builds, marks, allowed, in_order, marking, at_edge, at_rest, effect}
use Rattle.rules.specs.Machine.{fresh_sides}
use Rattle.book.specs.Spaced.{Spaced}
use Rattle.book.proofs.Spaced.{spaced_append, spaced_take, spaced_drop, spaced_front, spaced_turn, spaced_reached}
use Rattle.book.proofs.Parts.{building_of}
use Rattle.book.specs.Sums.{Weight, path_sum, ring_sum, loops_sum}
use Rattle.book.specs.Consistent.{Sound, AllSound, AllCurrent}
use Rattle.book.proofs.Counting.{if_fresh, if_glued}
use Rattle.book.proofs.Sums.{start_append, sum_append, sum_turn, front_last, start_drop, sum_without, length_without, turned}
use Rattle.book.proofs.ShownSums.{open_ring_sum, fewer_places}
use Rattle.counting.proofs.Bools.{and_left, and_right}

-- v is the vertex of a place of the loops: no sum over the places is less than what v counts
abbrev pub At : List Ring → ℕ → Type 0
At ls v = (g : ℕ → ℕ) → g v ≤ loops_sum (λ x y o. g x) ls

-- the new numbers among a triangle's corners
pub data Corners (ls : List Ring) (u : ℕ) : ℕ → ℕ → ℕ → ℕ → Type 0 where
  none : {p q r : ℕ} → At ls p → At ls q → At ls r → Corners ls u 0 p q r
  third : {p q : ℕ} → At ls p → At ls q → Corners ls u 1 p q u
  three : Corners ls u 3 u (suc u) (suc (suc u))

-- a triangle is built: the sum after and the glued edges are the sum before and the new edges
pub record Builds (u : ℕ) (before ls : List Ring) (t : Triangle) (pq qr rp : Side) (n s k : ℕ) : Type 0 where
  pub sums : (w : Weight)
      → loops_sum w ls + (if_glued pq (w t.q t.p true) + (if_glued qr (w t.r t.q true) + if_glued rp (w t.p t.r true)))
      ≡ loops_sum w before + (if_fresh pq (w t.p t.q true) + (if_fresh qr (w t.q t.r true) + if_fresh rp (w t.r t.p true)))
  pub current : AllCurrent ls
  pub sound : AllSound before → AllSound ls
  pub numbers : Corners before u n t.p t.q t.r
  pub lives : n + 1 + length ls + 2 * k ≡ length before + (fresh_sides pq + fresh_sides qr + fresh_sides rp) + 2 * s
  pub small : s + k ≤ 1

-- an edge is marked: it stops to weigh as an open one. Places leave, and links are no edges: of the marked edges nothing is said
pub record Marks (before ls : List Ring) (d : Edge) (rim : ℕ) : Type 0 where
  pub sums : (w : Weight) → ((x y : ℕ) → w x y false ≡ 0) → loops_sum w ls + w d.from d.to true ≡ loops_sum w before
  pub fewer : (g : ℕ → ℕ) → loops_sum (λ x y o. g x) ls ≤ loops_sum (λ x y o. g x) before
  pub current : AllCurrent ls
  pub sound : AllSound before → AllSound ls
  pub lives : length ls + rim ≡ length before
  pub small : rim ≤ 1

-- what holds of an effect
abbrev pub Law : ℕ → List Ring → Effect → Type 0
Law u before not_allowed = Unit {0}
Law u before (builds x) =
    Builds u before x.loops x.triangle x.sides.pq x.sides.qr x.sides.rp x.added.vertices x.added.starts
    x.added.unions
Law u before (marks x) = Marks before x.loops x.edge x.rims

-- the range of a split's index
pub split_low : (i k : ℕ) (x y : Bool) → leb 1 i && leb (i + 2) k && x && y ≡ true → 1 ≤ i
split_low i k x y t = leb-true 1 i
    (and_left (leb 1 i) (leb (i + 2) k) (and_left (leb 1 i && leb (i + 2) k) x (and_left (leb 1 i && leb (i + 2) k && x) y t)))

pub split_high : (i k : ℕ) (x y : Bool) → leb 1 i && leb (i + 2) k && x && y ≡ true → i + 2 ≤ k
split_high i k x y t =
    leb-true (i + 2) k (and_right (leb 1 i) (leb (i + 2) k)
    (and_left (leb 1 i && leb (i + 2) k) x (and_left (leb 1 i && leb (i + 2) k && x) y t)))

allowed_law : (u : ℕ) (before : List Ring) (t : Bool) (c : Effect) → (t ≡ true → Law u before c) → Law u before (allowed t c)
unfolding allowed
allowed_law u before true c h = h refl
allowed_law u before false c h = tt

-- a vertex of a ring
pub at_path : (g : ℕ → ℕ) (ps : List Node) (i b : ℕ) → i < length ps → g (vertex_at ps i) ≤ path_sum (λ x y o. g x) ps b
unfolding path_sum vertex_at
at_path g [] i b h = absurd (omega arith)
at_path g (p ∷ ps) zero b h = omega arith
at_path g (p ∷ ps) (suc i) b h = omega (arith, at_path g ps i b (omega arith))

pub sum_order : (w : Weight) (t : Bool) (l m : Ring) (ws : List Ring)
    → loops_sum w (in_order t l m ws) ≡ ring_sum w l + (ring_sum w m + loops_sum w ws)
unfolding in_order loops_sum
sum_order w true l m ws = refl
sum_order w false l m ws = omega arith

length_order : (t : Bool) (l m : Ring) (ws : List Ring) → length (in_order t l m ws) ≡ 2 + length ws
unfolding in_order
length_order true l m ws = omega arith
length_order false l m ws = omega arith

sound_order : (t : Bool) (l m : Ring) (ws : List Ring) → Sound l → Sound m → AllSound ws → AllSound (in_order t l m ws)
unfolding in_order
sound_order true l m ws x y z = (x, (y, z))
sound_order false l m ws x y z = (y, (x, z))

current_order : (t : Bool) (l m : Ring) (ws : List Ring) → first_open l ≡ true → first_open m ≡ true → Spaced l false → Spaced m false
    → AllCurrent ws
    → AllCurrent (in_order t l m ws)
unfolding in_order
current_order true l m ws x y i j z = (x, (y, z, j), i)
current_order false l m ws x y i j z = (y, (x, z, i), j)

sound_without : (ws : List Ring) (n : ℕ) → AllSound ws → AllSound (without ws n)
unfolding without
sound_without [] n h = tt
sound_without (l ∷ ws) zero h = h.1
sound_without (l ∷ ws) (suc n) h = (h.0, sound_without ws n h.1)

current_without : (ws : List Ring) (n : ℕ) → AllCurrent ws → AllCurrent (without ws n)
unfolding without
current_without [] n h = tt
current_without (l ∷ ws) zero h = h.1
current_without (l ∷ ws) (suc n) h = (h.0, current_without ws n h.1, h.2)

pub sound_current : (ls : List Ring) → AllSound ls → AllCurrent ls
sound_current [] h = tt
sound_current (l ∷ ls) h = (h.0.current, sound_current ls h.1, h.0.spaced)

-- a waiting loop
pub current_at : (ws : List Ring) (n : ℕ) → n < length ws → AllCurrent ws → (first_open (loop_at ws n) ≡ true) × Spaced (loop_at ws n) false
unfolding loop_at
current_at [] n h c = absurd (omega arith)
current_at (w ∷ ws) zero h c = (c.0, c.2)
current_at (w ∷ ws) (suc n) h c = current_at ws n (omega arith) c.1

-- a ring that is cut open at its place j
pub spliced_start : (b : ℕ) (l : Ring) (j : ℕ) → j < length l → start_or b (drop j l ++ take j l) ≡ vertex_at l j
spliced_start b l j h = rw (start_append b (drop j l) (take j l)) (start_drop (start_or b (take j l)) l j h)

pub spliced : (w : Weight) (l : Ring) (j : ℕ) → j < length l → path_sum w (drop j l ++ take j l) (vertex_at l j) ≡ ring_sum w l
unfolding ring_sum
spliced w l j h =
    ap (path_sum w (drop j l ++ take j l)) (sym (spliced_start 0 l j h)) ∙ sum_turn w (drop j l) (take j l)
    ∙ ap (ring_sum w) (take-append-drop j l)

-- the ring after a border is sound if it was, and its current edge is open, if it is still there
abbrev SoundOr : Ring → Type 0
SoundOr [] = Unit {0}
SoundOr (p ∷ ps) = Sound (p ∷ ps)

abbrev CurrentOr : Ring → Type 0
CurrentOr [] = Unit {0}
CurrentOr (p ∷ ps) = (is_open p ≡ true) × Spaced (p ∷ ps) false

reached_some : (ps : List Node) → 1 ≤ length ps → 1 ≤ length (reached ps false)
unfolding reached
reached_some [] h = absurd (omega arith)
reached_some (opened v ∷ ps) h = omega arith
reached_some (marked v ∷ ps) h = omega arith

onward_sound : (back ps : List Node) → 2 ≤ length back + length ps → SoundOr (shown (onward back ps))
unfolding onward
onward_sound back [] h = tt
onward_sound back (opened v ∷ ps) h =
    let k : 1 ≤ length (reached (ps ++ back) false) = reached_some (ps ++ back) (simp length-append (omega arith)) in
    record { long = omega (arith, k); current = refl; spaced = spaced_reached (ps ++ back) false }
onward_sound back (marked v ∷ ps) h = onward_sound (back ++ (marked v ∷ [])) ps (simp length-append (omega arith))

onward_current : (back ps : List Node) → CurrentOr (shown (onward back ps))
unfolding onward
onward_current back [] = tt
onward_current back (opened v ∷ ps) = (refl, spaced_reached (ps ++ back) false)
onward_current back (marked v ∷ ps) = onward_current (back ++ (marked v ∷ [])) ps

-- the open edges of the ring shown are the same ones, and its places no others
onward_open : (w : Weight) → ((x y : ℕ) → w x y false ≡ 0) → (back ps : List Node)
    → ring_sum w (shown (onward back ps)) ≡ ring_sum w (onward back ps)
unfolding onward
onward_open w z back [] = refl
onward_open w z back (opened v ∷ ps) = open_ring_sum w z v (ps ++ back)
onward_open w z back (marked v ∷ ps) = onward_open w z (back ++ (marked v ∷ [])) ps

pub onward_fewer : (g : ℕ → ℕ) (back ps : List Node)
    → ring_sum (λ x y o. g x) (shown (onward back ps)) ≤ ring_sum (λ x y o. g x) (onward back ps)
unfolding onward ring_sum path_sum
onward_fewer g back [] = omega arith
onward_fewer g back (opened v ∷ ps) = omega (arith, fewer_places g (ps ++ back) false v)
onward_fewer g back (marked v ∷ ps) = onward_fewer g (back ++ (marked v ∷ [])) ps

module _ (u a : ℕ) (ws : List Ring) (cw : AllCurrent ws) where
  at_a : (ps : List Node) → At ((opened a ∷ ps) ∷ ws) a
  unfolding loops_sum ring_sum path_sum
  at_a ps g = omega arith

  at_b : (ps : List Node) → At ((opened a ∷ ps) ∷ ws) (start_or a ps)
  unfolding loops_sum ring_sum path_sum
  at_b [] g = omega arith
  at_b (f ∷ ps) g = omega arith

  at_c : (ps : List Node) (i : ℕ) → i < length ps → At ((opened a ∷ ps) ∷ ws) (vertex_at ps i)
  unfolding loops_sum ring_sum path_sum
  at_c ps i h g = omega (arith, at_path g ps i a h)

  law_new : (ps : List Node) → Spaced ps false → Law u ((opened a ∷ ps) ∷ ws) (at_edge New u a ps ws)
  unfolding at_edge loops_sum ring_sum path_sum
  law_new ps sp =
      let sp' : Spaced (ps ++ (opened a ∷ [])) false = spaced_append ps (opened a ∷ []) false sp tt in
      record {
        sums = λ w. omega (arith, sum_append w ps (opened a ∷ []) u, ap (λ (x : ℕ). w u x true) (start_append u ps (opened a ∷ [])));
        current = (refl, cw, sp');
        sound = λ s. (record { long = simp length-append (omega (arith, s.0.long)); current = refl; spaced = sp' }, s.1);
        numbers = third (at_b ps) (at_a ps);
        lives = omega arith;
        small = omega arith;
      }

  law_forward : (ps : List Node) → Spaced ps false → Law u ((opened a ∷ ps) ∷ ws) (at_edge Forward u a ps ws)
  unfolding allowed at_edge loops_sum ring_sum path_sum vertex_at
  law_forward [] sp = tt
  law_forward (f ∷ []) sp = tt
  law_forward (marked b ∷ (g ∷ ps)) sp = rw (no_middle (leb 3 (suc (length (marked b ∷ (g ∷ ps)))))) tt
    where
      no_middle : (t : Bool) → t && false ≡ false
      no_middle true = refl
      no_middle false = refl
  law_forward (opened b ∷ (g ∷ ps)) sp =
      let k = suc (length (opened b ∷ (g ∷ ps))) in
      allowed_law u ((opened a ∷ (opened b ∷ (g ∷ ps))) ∷ ws) (leb 3 k && true && not (eqb k 3 && all_open (opened b ∷ (g ∷ ps))))
      (builds (building_of ((opened a ∷ (g ∷ ps)) ∷ ws) (tri b a (vertex g)) glued fresh glued 0 0 0))
      (λ t. record {
        sums = λ w. omega arith;
        current = (refl, cw, sp);
        sound = λ s. (record { long = omega arith; current = refl; spaced = sp }, s.1);
        numbers = none (at_b (opened b ∷ (g ∷ ps))) (at_a (opened b ∷ (g ∷ ps))) (at_c (opened b ∷ (g ∷ ps)) 1 (omega arith));
        lives = omega arith;
        small = omega arith;
      })

  law_backward : (ps : List Node) → Spaced ps false → Law u ((opened a ∷ ps) ∷ ws) (at_edge Backward u a ps ws)
  unfolding allowed at_edge loops_sum ring_sum path_sum front last_open last_vertex
  law_backward [] sp = tt
  law_backward (f ∷ []) sp = tt
  law_backward (f ∷ (g ∷ ps)) sp =
      let c = last_vertex (g ∷ ps) in
      let long = leb 3 (suc (length (f ∷ (g ∷ ps)))) in
      let sp' : Spaced (f ∷ front (g ∷ ps)) false = spaced_front (f ∷ (g ∷ ps)) false sp in
      allowed_law u ((opened a ∷ (f ∷ (g ∷ ps))) ∷ ws)
      (long && last_open (g ∷ ps) && not (eqb (suc (length (f ∷ (g ∷ ps)))) 3 && all_open (f ∷ (g ∷ ps))))
      (builds (building_of ((opened c ∷ (f ∷ front (g ∷ ps))) ∷ ws) (tri (vertex f) a c) glued glued fresh 0 0 0))
      (λ t.
      let e = front_last (g ∷ ps) (and_right long (last_open (g ∷ ps)) (and_left (long && last_open (g ∷ ps)) _ t)) in
      record {
        sums = λ w. omega (arith, sum_append w (f ∷ front (g ∷ ps)) (opened c ∷ []) a, ap (λ (l : List Node). path_sum w (f ∷ l) a) e);
        current = (refl, cw, sp');
        sound = λ s. (record { long = omega arith; current = refl; spaced = sp' }, s.1);
        numbers =
            none (at_b (f ∷ (g ∷ ps))) (at_a (f ∷ (g ∷ ps)))
            (λ n. omega (
              arith,
              sum_append (λ x y o. n x) (f ∷ front (g ∷ ps)) (opened c ∷ []) a,
              ap
                  (λ (l : List Node). path_sum (λ x y o. n x) (f ∷ l) a) e,
            ));
        lives = omega arith;
        small = omega arith;
      })

  law_close : (ps : List Node) → Law u ((opened a ∷ ps) ∷ ws) (at_edge Close u a ps ws)
  unfolding allowed at_edge loops_sum ring_sum path_sum vertex_at all_open
  law_close [] = tt
  law_close (f ∷ []) = tt
  law_close (f ∷ (g ∷ (h ∷ ps))) =
      allowed_law u ((opened a ∷ (f ∷ (g ∷ (h ∷ ps)))) ∷ ws) (eqb (suc (length (f ∷ (g ∷ (h ∷ ps))))) 3 && all_open (f ∷ (g ∷ (h ∷ ps))))
      (builds (building_of ws (tri (vertex f) a (vertex g)) glued glued glued 0 0 0))
      (λ t. absurd (omega (
        arith,
        eqb-true (suc (length (f ∷ (g ∷ (h ∷ ps))))) 3
            (and_left (eqb (suc (length (f ∷ (g ∷ (h ∷ ps))))) 3) (all_open (f ∷ (g ∷ (h ∷ ps)))) t),
      )))
  law_close (marked b ∷ (g ∷ [])) = tt
  law_close (opened b ∷ (marked c ∷ [])) = tt
  law_close (opened b ∷ (opened c ∷ [])) = record {
    sums = λ w. omega arith;
    current = cw;
    sound = λ s. s.1;
    numbers = none (at_b (opened b ∷ (opened c ∷ []))) (at_a (opened b ∷ (opened c ∷ [])))
        (at_c (opened b ∷ (opened c ∷ [])) 1 (omega arith));
    lives = omega arith;
    small = omega arith;
  }

  halves : (t : Bool) (f : Node) (ps : List Node) (i : ℕ) → Spaced (f ∷ ps) false → suc i + 2 ≤ suc (length (f ∷ ps))
      → Builds u ((opened a ∷ (f ∷ ps)) ∷ ws)
      (in_order t (opened (vertex_at (f ∷ ps) (suc i)) ∷ take (suc i) (f ∷ ps)) (opened a ∷ drop (suc i) (f ∷ ps)) ws)
      (tri (vertex f) a (vertex_at (f ∷ ps) (suc i))) glued fresh fresh 0 0 0
  unfolding loops_sum ring_sum path_sum
  halves t f ps i sp h =
      let j = suc i in
      let s₁ : Spaced (take j (f ∷ ps)) false = spaced_take j (f ∷ ps) false sp in
      let s₂ : Spaced (drop j (f ∷ ps)) false = spaced_drop j (f ∷ ps) false sp in
      let c = vertex_at (f ∷ ps) j in
      let lo = opened c ∷ take j (f ∷ ps) in
      let hi = opened a ∷ drop j (f ∷ ps) in
      record {
        sums = λ w.
            omega (
              arith,
              sum_order w t lo hi ws,
              sum_append w (take j (f ∷ ps)) (drop j (f ∷ ps)) a,
              ap (λ (l : List Node). path_sum w l a) (take-append-drop j (f ∷ ps)),
              ap (path_sum w (take j (f ∷ ps))) (start_drop a (f ∷ ps) j (omega arith)),
              ap (λ (x : ℕ). w a x true) (start_drop a (f ∷ ps) j (omega arith)),
            );
        current = current_order t lo hi ws refl refl s₁ s₂ cw;
        sound = λ s.
            sound_order t lo hi ws (record { long = omega (arith, length-take j (f ∷ ps)); current = refl; spaced = s₁ })
            (record { long = omega (arith, length-drop j (f ∷ ps)); current = refl; spaced = s₂ }) s.1;
        numbers = none (at_b (f ∷ ps)) (at_a (f ∷ ps)) (at_c (f ∷ ps) j (omega arith));
        lives = omega (arith, length_order t lo hi ws);
        small = omega arith;
      }

  law_split : (ps : List Node) (i : ℕ) → Spaced ps false → Law u ((opened a ∷ ps) ∷ ws) (at_edge (Split i) u a ps ws)
  unfolding allowed at_edge
  law_split ps zero sp = tt
  law_split [] (suc i) sp =
      allowed_law u ((opened a ∷ []) ∷ ws)
      (leb 1 (suc i) && leb (suc i + 2) 1 && not (eqb (suc i) 1 && false) && not (eqb (suc i + 2) 1 && last_open []))
      (builds (building_of (in_order
      (leb (length {A = Node} (opened (vertex_at [] (suc i)) ∷ take (suc i) [])) (length {A = Node} (opened a ∷ drop (suc i) [])))
      (opened (vertex_at [] (suc i)) ∷ take (suc i) []) (opened a ∷ drop (suc i) []) ws) (tri a a (vertex_at [] (suc i))) glued fresh
      fresh 0 0 0))
      (λ t. absurd (omega (arith, split_high (suc i) 1 (not (eqb (suc i) 1 && false)) (not (eqb (suc i + 2) 1 && last_open [])) t)))
  law_split (f ∷ ps) (suc i) sp =
      let j = suc i in
      let k = suc (length (f ∷ ps)) in
      let x = not (eqb j 1 && is_open f) in
      let y = not (eqb (j + 2) k && last_open (f ∷ ps)) in
      let c = vertex_at (f ∷ ps) j in
      let first = leb (length (opened c ∷ take j (f ∷ ps))) (length (opened a ∷ drop j (f ∷ ps))) in
      allowed_law u ((opened a ∷ (f ∷ ps)) ∷ ws) (leb 1 j && leb (j + 2) k && x && y)
      (builds (building_of (in_order first (opened c ∷ take j (f ∷ ps)) (opened a ∷ drop j (f ∷ ps)) ws) (tri (vertex f) a c) glued fresh
      fresh 0 0 0))
      (λ t. halves first f ps i sp (split_high j k x y t))

  law_union : (ps : List Node) (n j : ℕ) → Spaced ps false → Law u ((opened a ∷ ps) ∷ ws) (at_edge (Union n j) u a ps ws)
  unfolding at_edge loops_sum ring_sum path_sum
  law_union ps n j sp =
      let l = loop_at ws (n - 1) in
      let c = vertex_at l j in
      allowed_law u ((opened a ∷ ps) ∷ ws) (leb 1 n && leb n (length ws) && ltb j (length l))
      (builds (building_of ((opened c ∷ (ps ++ (opened a ∷ (drop j l ++ take j l)))) ∷ without ws (n - 1)) (tri (start_or a ps) a c) glued
      fresh fresh 0 0 1))
      (λ t.
      let t' = and_left (leb 1 n && leb n (length ws)) (ltb j (length l)) t in
      let h : j < length l = ltb-true j (length l) (and_right (leb 1 n && leb n (length ws)) (ltb j (length l)) t) in
      let low : 1 ≤ n = leb-true 1 n (and_left (leb 1 n) (leb n (length ws)) t') in
      let high : n ≤ length ws = leb-true n (length ws) (and_right (leb 1 n) (leb n (length ws)) t') in
      let cl = current_at ws (n - 1) (omega arith) cw in
      let sp' : Spaced (ps ++ (opened a ∷ (drop j l ++ take j l))) false =
      spaced_append ps (opened a ∷ (drop j l ++ take j l)) false sp (spaced_turn l j cl.0 cl.1) in
      record {
        sums = λ w.
            omega (
              arith,
              sum_append w ps (opened a ∷ (drop j l ++ take j l)) c,
              ap (λ (x : ℕ). w c x true) (start_append c ps (opened a ∷ (drop j l ++ take j l))),
              spliced w l j h,
              ap (λ (x : ℕ). w a x true) (spliced_start c l j h),
              sum_without w ws (n - 1) (omega arith),
            );
        current = (refl, current_without ws (n - 1) cw, sp');
        sound = λ s. (
          record { long = simp length-append (omega (arith, s.0.long)); current = refl; spaced = sp' },
          sound_without ws
              (n - 1) s.1,
        );
        numbers =
            none (at_b ps) (at_a ps)
            (λ g. omega (arith, at_path g l j (start_or 0 l) h, sum_without (λ x y o. g x) ws (n - 1) (omega arith)));
        lives = omega (arith, length_without ws (n - 1) (omega arith));
        small = omega arith;
      })

  law_border : (ps : List Node) → Law u ((opened a ∷ ps) ∷ ws) (at_edge Border u a ps ws)
  unfolding at_edge loops_sum ring_sum path_sum
  law_border ps = go (shown (onward [] (ps ++ (marked a ∷ [])))) refl
    where
      whole : (w : Weight) → ring_sum w (ps ++ (marked a ∷ [])) ≡ path_sum w ps a + w a (start_or a ps) false
      whole w =
          omega (
            arith,
            sum_append w ps (marked a ∷ []) (start_or 0 (ps ++ (marked a ∷ []))),
            ap (λ (x : ℕ). w a x false) (start_append 0 ps (marked a ∷ [])),
          )

      sums : (w : Weight) → ((x y : ℕ) → w x y false ≡ 0)
          → ring_sum w (shown (onward [] (ps ++ (marked a ∷ [])))) + w a (start_or a ps) true
          ≡ ring_sum w (opened a ∷ ps)
      sums w z =
          let t = turned w [] (ps ++ (marked a ∷ [])) in
          omega (arith, onward_open w z [] (ps ++ (marked a ∷ [])), t.total, t.no_open z tt, whole w, z a (start_or a ps))

      fewer : (g : ℕ → ℕ) → ring_sum (λ x y o. g x) (shown (onward [] (ps ++ (marked a ∷ [])))) ≤ ring_sum (λ x y o. g x) (opened a ∷ ps)
      fewer g =
          omega (
            arith,
            onward_fewer g [] (ps ++ (marked a ∷ [])),
            (turned (λ x y o. g x) [] (ps ++ (marked a ∷ []))).total,
            whole
                (λ x y o. g x),
          )

      go : (r : Ring) → shown (onward [] (ps ++ (marked a ∷ []))) ≡ r → Law u ((opened a ∷ ps) ∷ ws) (marking r ws (edge a (start_or a ps)))
      go [] e = record {
        sums = λ w z. omega (arith, sums w z, ap (ring_sum w) e);
        fewer = λ g. omega (arith, fewer g, ap (ring_sum (λ x y o. g x)) e);
        current = cw;
        sound = λ s. s.1;
        lives = omega arith;
        small = omega arith;
      }
      go (p ∷ qs) e =
          let c = subst CurrentOr e (onward_current [] (ps ++ (marked a ∷ []))) in
          record {
            sums = λ w z. omega (arith, sums w z, ap (ring_sum w) e);
            fewer = λ g. omega (arith, fewer g, ap (ring_sum (λ x y o. g x)) e);
            current = (c.0, cw, c.1);
            sound = λ s. (subst SoundOr e (onward_sound [] (ps ++ (marked a ∷ [])) (simp length-append (omega (arith, s.0.long)))), s.1);
            lives = omega arith;
            small = omega arith;
          }

-- the law of each operation
pub at_edge_law : (o : Operation) (u a : ℕ) (ps : List Node) (ws : List Ring) → AllCurrent ((opened a ∷ ps) ∷ ws)
    → Law u ((opened a ∷ ps) ∷ ws) (at_edge o u a ps ws)
unfolding at_edge
at_edge_law New u a ps ws c = law_new u a ws c.1 ps c.2
at_edge_law Forward u a ps ws c = law_forward u a ws c.1 ps c.2
at_edge_law Backward u a ps ws c = law_backward u a ws c.1 ps c.2
at_edge_law Border u a ps ws c = law_border u a ws c.1 ps
at_edge_law (Split i) u a ps ws c = law_split u a ws c.1 ps i c.2
at_edge_law Close u a ps ws c = law_close u a ws c.1 ps
at_edge_law (Union n j) u a ps ws c = law_union u a ws c.1 ps n j c.2
at_edge_law Start u a ps ws c = tt

at_rest_law : (o : Operation) (u : ℕ) → Law u [] (at_rest o u)
unfolding at_rest loops_sum ring_sum path_sum
at_rest_law New u = tt
at_rest_law Forward u = tt
at_rest_law Backward u = tt
at_rest_law Border u = tt
at_rest_law (Split i) u = tt
at_rest_law Close u = tt
at_rest_law (Union n j) u = tt
at_rest_law Start u = record {
  sums = λ w. omega arith;
  current = (refl, tt, tt);
  sound = λ s. (record { long = omega arith; current = refl; spaced = tt }, tt);
  numbers = three;
  lives = omega arith;
  small = omega arith;
}

-- on loops whose current edges are open
pub effect_law : (o : Operation) (u : ℕ) (ls : List Ring) → AllCurrent ls → Law u ls (effect o u ls)
unfolding effect
effect_law o u [] c = at_rest_law o u
effect_law o u ([] ∷ ws) c = tt
effect_law o u ((opened a ∷ ps) ∷ ws) c = at_edge_law o u a ps ws c
effect_law o u ((marked a ∷ ps) ∷ ws) c = absurd (false≢true c.0)
