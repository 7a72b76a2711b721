-- Loops that stand are near: no function on the memory reads or writes outside it.
-- Assumes nothing.
use Prim.Native.Nat.{ℕ, zero, suc, ◌+◌, ◌-◌, ◌*◌, ◌≤◌, ◌<◌}
use native.Mathlib.Omega.{arith}
use mathlib.Core.Bool.{Bool, true, false, false≢true}
use mathlib.Core.List.{List, [], ◌∷◌, ◌++◌}
use mathlib.Core.Path.{◌≡◌, refl, sym, ap, ◌∙◌, subst}
use lib.ListN.{length, set, length-append, length-set}
use lib.Seq.{get_or-set_same, get_or-set_other}
use lib.Dec.{eqb}
use borrow.Author.Tests.{eqb-true, eqb-false}
use Rattle.rules.specs.Ring.{Node, opened, marked, Ring, start_or, places, loop_at}
use Rattle.cutborder.specs.declared.Loops.{Loops}
use Rattle.border_theory.specs.Memory.Layout.{at, before_of, after_of, edge_stored, walked}
use Rattle.border_theory.specs.Memory.Stands.{StandsAt}
use Rattle.border_theory.specs.Memory.Near.{Near, Starts}
use Rattle.border_theory.proofs.Memory.Standing.{Trail, trails, trail_at, walk_trail, near_trail, last_trail, start_trail, top_free_lem}
use Rattle.border_theory.proofs.Memory.Room.{room}
use Rattle.border_theory.proofs.Memory.Waiting.{waits_at}
use Rattle.border_theory.proofs.Memory.Doubled.{trail_join}
use Rattle.border_theory.proofs.Memory.Start.{first_near, second_near, third_near}

-- all along a run of nodes, and at its end
along : (n : ℕ) (m : List ℕ) (b : ℕ) → b < n → (ps : List Node) → Trail n m ps b → (j : ℕ) → j ≤ length ps → walked m j (start_or b ps) < n
unfolding walked
along n m b k [] t zero h = k
along n m b k [] t (suc j) h = absurd (omega arith)
along n m b k (p ∷ ps) t zero h = t.0.near
along n m b k (p ∷ ps) t (suc j) h = rw (t.0.fore, walked) (along n m b k ps t.1 j (omega arith))

pub start_any : (b c : ℕ) (w : Ring) → 1 ≤ length w → start_or b w ≡ start_or c w
start_any b c [] h = absurd (omega arith)
start_any b c (p ∷ w) h = refl

loop_le : (ws : List Ring) (i : ℕ) → length (loop_at ws i) ≤ places ws
unfolding loop_at places
loop_le [] i = omega arith
loop_le (w ∷ ws) zero = omega arith
loop_le (w ∷ ws) (suc i) = omega (arith, loop_le ws i)

module _ (n : ℕ) (l : Loops) (m : List ℕ) (few : n ≤ 1024) where
  near_at : (e : ℕ) (ps : List Node) (ws : List Ring) → StandsAt n l m ((opened e ∷ ps) ∷ ws) → Near n l m
  unfolding places
  near_at e ps ws st =
      let rs : List Ring = (opened e ∷ ps) ∷ ws in
      let t = trails n l m rs st in
      let ring : Trail n m (opened e ∷ ps) e = t.0 in
      let c : l.current ≡ e = st.heads.current in
      let z : l.size ≡ length (opened e ∷ ps) = st.heads.size in
      let last = last_trail n m e (opened e ∷ ps) ring (omega arith) in
      let r = room n l m rs st in
      let idx : (w : ℕ) → w + 2 ≤ l.live → w + (length ws - 1 - w) + 1 ≡ length ws = λ w h. omega (arith, h, st.heads.live) in
      record {
        few = few;
        live = omega (arith, st.heads.live);
        long = st.long;
        some = omega (arith, z);
        room = omega (arith, z, r);
        ahead = λ j h.
            rw c
            (along n m (start_or e ps) (start_trail n m e ring.0.near ps ring.1) ((opened e ∷ ps) ++ (opened e ∷ []))
            (trail_join n m (start_or e ps) (opened e ∷ ps) (opened e ∷ []) ring (ring.0, tt)) j
            (simp length-append (omega (arith, h, z))));
        behind = rw (c, last.back) last.near;
        top = λ h. (top_free_lem n l m rs st h).1;
        waiting = λ w h j k.
            let i : ℕ = length ws - 1 - w in
            let a = waits_at n m ws i w (idx w h) st.heads.waiting in
            let s : j < length (loop_at ws i) = omega (arith, k, a.1) in
            let d = trail_at n m ws i t.1 in
            rw (
              a.0 ∙ start_any 0 (start_or 0 (loop_at ws i)) (loop_at ws i) (omega (arith, s)),
              walk_trail n m (start_or 0 (loop_at ws i))
                  (loop_at ws i) j d s,
            )
            (near_trail n m (start_or 0 (loop_at ws i)) (loop_at ws i) j d s);
        sizes = λ w h.
            let i : ℕ = length ws - 1 - w in
            omega (arith, (waits_at n m ws i w (idx w h) st.heads.waiting).1, loop_le ws i, r);
      }

  pub near : (rs : List Ring) → StandsAt n l m rs → 1 ≤ l.live → Near n l m
  near [] st h = absurd (omega (arith, h, st.heads))
  near ([] ∷ ws) st h = absurd (false≢true st.sound.0)
  near ((marked e ∷ ps) ∷ ws) st h = absurd (false≢true st.sound.0)
  near ((opened e ∷ ps) ∷ ws) st h = near_at e ps ws st

-- the current place and the two after it
module _ (n : ℕ) (l : Loops) (m : List ℕ) (h : Near n l m) where
  pub near_e : l.current < n
  unfolding walked
  near_e = h.ahead 0 (omega arith)

  pub near_f : after_of m l.current < n
  unfolding walked
  near_f = h.ahead 1 (omega (arith, h.some))

  pub near_g : after_of m (after_of m l.current) < n
  unfolding walked
  near_g = h.ahead 2 (omega (arith, h.some))

  pub near_next : (f c : ℕ) → f ≡ after_of m l.current → c ≡ after_of m f → c < n
  near_next f c ef ec = subst (λ (x : ℕ). x < n) (sym (ec ∙ ap (after_of m) ef)) near_g

-- the current edge stored again, open or marked: the links stay
module _ (n : ℕ) (l : Loops) (m m₁ : List ℕ) (f o : ℕ) (h : Near n l m) (ef : f ≡ after_of m l.current)
    (em : m₁ ≡ edge_stored m l.current f o) where
  long_marked : length m₁ ≡ length m
  unfolding edge_stored
  long_marked = ap length em ∙ simp length-set

  other_marked : (i : ℕ) → (i ≡ 4 * l.current + 2 → ⊥) → (i ≡ 4 * f + 1 → ⊥) → (i ≡ 4 * l.current + 3 → ⊥) → at m₁ i ≡ at m i
  unfolding edge_stored
  other_marked i a b c =
      let e : ℕ = l.current in
      ap (λ (y : List ℕ). at y i) em ∙ get_or-set_other (set (set m (4 * e + 2) f) (4 * f + 1) e) (4 * e + 3) i o 0 c
      ∙ get_or-set_other (set m (4 * e + 2) f) (4 * f + 1) i e 0 b ∙ get_or-set_other m (4 * e + 2) i f 0 a

  stored_after : after_of m₁ l.current ≡ after_of m l.current
  unfolding edge_stored
  stored_after =
      let e : ℕ = l.current in
      let a : e < n = near_e n l m h in
      ap (λ (y : List ℕ). at y (4 * e + 2)) em
      ∙ get_or-set_other (set (set m (4 * e + 2) f) (4 * f + 1) e) (4 * e + 3) (4 * e + 2) o 0 (λ y. omega (arith, y))
      ∙ get_or-set_other (set m (4 * e + 2) f) (4 * f + 1) (4 * e + 2) e 0 (λ y. omega (arith, y))
      ∙ get_or-set_same m (4 * e + 2) f 0 (omega (arith, h.long)) ∙ ef

  stored_before : l.current ≡ f → before_of m₁ l.current ≡ l.current
  unfolding edge_stored
  stored_before z =
      let e : ℕ = l.current in
      let a : e < n = near_e n l m h in
      ap (λ (y : List ℕ). at y (4 * e + 1)) em
      ∙ get_or-set_other (set (set m (4 * e + 2) f) (4 * f + 1) e) (4 * e + 3) (4 * e + 1) o 0 (λ y. omega (arith, y))
      ∙ ap (λ (x : ℕ). at (set (set m (4 * e + 2) f) (4 * f + 1) e) (4 * x + 1)) z
      ∙ get_or-set_same (set m (4 * e + 2) f) (4 * f + 1) e 0 (simp length-set (omega (arith, h.long, z)))

  same_after : (x : ℕ) → after_of m₁ x ≡ after_of m x
  same_after x = go (eqb x l.current) refl
    where
      go : (t : Bool) → eqb x l.current ≡ t → after_of m₁ x ≡ after_of m x
      go true z = let y : x ≡ l.current = eqb-true x l.current z in rw y stored_after
      go false z = other_marked (4 * x + 2) (λ y. eqb-false x l.current z (omega (arith, y))) (λ y. omega (arith, y))
          (λ y. omega (arith, y))

  same_walk : (j x : ℕ) → walked m₁ j x ≡ walked m j x
  unfolding walked
  same_walk zero x = refl
  same_walk (suc j) x = ap (walked m₁ j) (same_after x) ∙ same_walk j (after_of m x)

  above_marked : (i : ℕ) → 4 * n ≤ i → at m₁ i ≡ at m i
  above_marked i k =
      let a = near_e n l m h in
      let b : f < n = subst (λ (x : ℕ). x < n) (sym ef) (near_f n l m h) in
      other_marked i (λ y. omega (arith, y)) (λ y. omega (arith, y)) (λ y. omega (arith, y))

  behind_marked : before_of m₁ l.current < n
  behind_marked = go (eqb l.current f) refl
    where
      go : (t : Bool) → eqb l.current f ≡ t → before_of m₁ l.current < n
      go true z = let y : l.current ≡ f = eqb-true l.current f z in subst (λ (x : ℕ). x < n) (sym (stored_before y)) (near_e n l m h)
      go false z =
          subst (λ (x : ℕ). x < n)
          (sym (other_marked (4 * l.current + 1) (λ y. omega (arith, y)) (λ y. eqb-false l.current f z (omega (arith, y)))
          (λ y. omega (arith, y)))) h.behind

  pub near_marked : Near n l m₁
  near_marked = record {
    few = h.few;
    live = h.live;
    long = omega (arith, h.long, long_marked);
    some = h.some;
    room = h.room;
    ahead = λ j k. rw (same_walk j l.current) (h.ahead j k);
    behind = behind_marked;
    top = λ k. rw (above_marked (4 * n + (l.free - 1)) (omega arith)) (h.top k);
    waiting = λ w k j i.
        rw (same_walk j (at m₁ (5 * n + 2 * w)), above_marked (5 * n + 2 * w) (omega arith))
        (h.waiting w k j (subst (λ (x : ℕ). j < x) (above_marked (5 * n + 2 * w + 1) (omega arith)) i));
    sizes = λ w k. rw (above_marked (5 * n + 2 * w + 1) (omega arith)) (h.sizes w k);
  }

starts_at_lem : (n : ℕ) (l : Loops) (m : List ℕ) → n ≤ 1024 → StandsAt n l m [] → 3 ≤ l.free → Starts n l m
unfolding places
starts_at_lem n l m few st some =
    record {
      few = few;
      some = some;
      room = omega (arith, room n l m [] st);
      long = omega (arith, st.long);
      first = first_near n l m st some;
      second = second_near n l m st some;
      third = third_near n l m st some;
    }

-- a start's three places
pub starts : (n : ℕ) (l : Loops) (m : List ℕ) (rs : List Ring) → n ≤ 1024 → StandsAt n l m rs → l.live ≡ 0 → 3 ≤ l.free → Starts n l m
starts n l m [] few st z some = starts_at_lem n l m few st some
starts n l m (r ∷ rs) few st z some = absurd (omega (arith, z, st.heads.live))
