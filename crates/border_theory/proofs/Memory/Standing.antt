-- What follows from loops that stand: where their links lead, which places are free, and that they can be read off.
-- Assumes nothing.
use Prim.Native.Nat.{ℕ, zero, suc, ◌+◌, ◌-◌, ◌*◌, ◌≤◌, ◌<◌}
use native.Mathlib.Omega.{arith}
use mathlib.Core.Bool.{Bool, true, false}
use mathlib.Core.List.{List, [], ◌∷◌}
use mathlib.Core.Path.{◌≡◌, refl, sym, ap, ap₂, ◌∙◌, subst}
use lib.ListN.{length}
use lib.Dec.{ltb}
use borrow.Author.Tests.{ltb-true}
use Rattle.rules.specs.Count.{num, same}
use Rattle.rules.specs.Ring.{Node, Ring, vertex, is_open, start_or, vertex_at, last_open, last_vertex, loop_at}
use Rattle.book.specs.Sums.{path_sum, ring_sum, loops_sum, placed}
use Rattle.border_theory.specs.Links.Held.{Memory, Link, arc_hit, read, Holds}
use Rattle.border_theory.proofs.Links.Relink.{Apart, arc_yes}
use Rattle.border_theory.proofs.Links.Read.{read_loop, holds_rest}
use Rattle.cutborder.specs.declared.Loops.{Loops}
use Rattle.border_theory.specs.Memory.Layout.{at, before_of, after_of, open_of, links_of, stacked, walked}
use Rattle.border_theory.specs.Memory.Stands.{waiting_in, live_in, rings_in, Waits, StandsAt}
use Rattle.border_theory.proofs.Memory.Columns.{column_at}
use Rattle.counting.proofs.Counts.{same_yes}

-- one link of a loop, read off the memory
pub record Hop (n : ℕ) (m : List ℕ) (x y : ℕ) (o : Bool) : Type 0 where
  pub fore : after_of m x ≡ y
  pub back : before_of m y ≡ x
  pub mark : open_of m x ≡ num o
  pub near : x < n

-- the links of a run of nodes whose last edge goes to b
abbrev pub Trail : ℕ → List ℕ → List Node → ℕ → Type 0
Trail n m [] b = Unit {0}
Trail n m (p ∷ ps) b = Hop n m (vertex p) (start_or b ps) (is_open p) × Trail n m ps b

abbrev pub Trails : ℕ → List ℕ → List Ring → Type 0
Trails n m [] = Unit {0}
Trails n m (l ∷ ls) = Trail n m l (start_or 0 l) × Trails n m ls

module _ (n : ℕ) (m : List ℕ) where
  start_near : (b : ℕ) → b < n → (ps : List Node) → ((x : ℕ) → 1 ≤ path_sum (λ p q o. same x p) ps b → x < n) → start_or b ps < n
  unfolding path_sum
  start_near b k [] h = k
  start_near b k (p ∷ ps) h = h (vertex p) (omega (arith, same_yes (vertex p)))

  trail : (b : ℕ) → b < n → (ps : List Node) → ((x : ℕ) → 1 ≤ path_sum (λ p q o. same x p) ps b → x < n)
      → ((x y : ℕ) (o : Bool) → 1 ≤ path_sum (arc_hit x y o) ps b → Link (links_of n m) x y o) → Trail n m ps b
  unfolding path_sum
  trail b k [] h l = tt
  trail b k (p ∷ ps) h l =
      let x : vertex p < n = h (vertex p) (omega (arith, same_yes (vertex p))) in
      let y : start_or b ps < n = start_near b k ps (λ z i. h z (omega arith)) in
      let r = l (vertex p) (start_or b ps) (is_open p) (omega (arith, arc_yes (vertex p) (start_or b ps) (is_open p))) in (
        record {
          fore = sym (column_at m 2 n (vertex p) x) ∙ r.fore;
          back = sym (column_at m 1 n (start_or b ps) y) ∙ r.back;
          mark = sym (column_at m 3 n (vertex p) x) ∙ r.mark;
          near = x;
        },
        trail b k ps (λ z i. h z (omega arith)) (λ z w o i. l z w o (omega arith)),
      )

  pub trails_by : (rs : List Ring) → ((x : ℕ) → 1 ≤ placed x rs → x < n) → Holds (links_of n m) rs → Trails n m rs
  unfolding loops_sum ring_sum path_sum
  trails_by [] b h = tt
  trails_by ([] ∷ rs) b h = (tt, trails_by rs (λ x i. b x (omega arith)) (λ x y o i. h x y o (omega arith)))
  trails_by ((p ∷ ps) ∷ rs) b h = (
    trail (vertex p) (b (vertex p) (omega (arith, same_yes (vertex p)))) (p ∷ ps) (λ x i. b x (omega arith))
        (λ x y o i. h x y o (omega arith)),
    trails_by rs (λ x i. b x (omega arith)) (λ x y o i. h x y o (omega arith)),
  )

module _ (n : ℕ) (m : List ℕ) (b : ℕ) where
  -- the place i places after the first, and the last one
  pub walk_trail : (ps : List Node) (i : ℕ) → Trail n m ps b → i < length ps → walked m i (start_or b ps) ≡ vertex_at ps i
  unfolding walked vertex_at
  walk_trail [] i t h = absurd (omega arith)
  walk_trail (p ∷ ps) zero t h = refl
  walk_trail (p ∷ ps) (suc i) t h = ap (walked m i) t.0.fore ∙ walk_trail ps i t.1 (omega arith)

  pub near_trail : (ps : List Node) (i : ℕ) → Trail n m ps b → i < length ps → vertex_at ps i < n
  unfolding vertex_at
  near_trail [] i t h = absurd (omega arith)
  near_trail (p ∷ ps) zero t h = t.0.near
  near_trail (p ∷ ps) (suc i) t h = near_trail ps i t.1 (omega arith)

  pub last_trail : (ps : List Node) → Trail n m ps b → 1 ≤ length ps → Hop n m (last_vertex ps) b (last_open ps)
  unfolding last_vertex last_open
  last_trail [] t h = absurd (omega arith)
  last_trail (p ∷ []) t h = t.0
  last_trail (p ∷ (q ∷ ps)) t h = last_trail (q ∷ ps) t.1 (omega arith)

  -- where a run starts, or else it ends there
  pub start_trail : b < n → (ps : List Node) → Trail n m ps b → start_or b ps < n
  start_trail h [] t = h
  start_trail h (p ∷ ps) t = t.0.near

pub trail_at : (n : ℕ) (m : List ℕ) (ws : List Ring) (k : ℕ) → Trails n m ws → Trail n m (loop_at ws k) (start_or 0 (loop_at ws k))
unfolding loop_at
trail_at n m [] k t = tt
trail_at n m (w ∷ ws) zero t = t.0
trail_at n m (w ∷ ws) (suc k) t = trail_at n m ws k t.1

module _ (n : ℕ) (s : Loops) (m : List ℕ) (rs : List Ring) (st : StandsAt n s m rs) where
  pub each_le : (x : ℕ) → num (ltb x n) ≤ 1
  each_le x = go (ltb x n)
    where
      go : (t : Bool) → num t ≤ 1
      go true = omega arith
      go false = omega arith

  pub apart : Apart rs
  apart x = omega (arith, st.each x, each_le x)

  below_by : (x : ℕ) → 1 ≤ num (ltb x n) → x < n
  below_by x = go (ltb x n) refl
    where
      go : (t : Bool) → ltb x n ≡ t → 1 ≤ num t → x < n
      go true e h = ltb-true x n e
      go false e h = absurd (omega (arith, h))

  pub below : (x : ℕ) → 1 ≤ placed x rs → x < n
  below x h = below_by x (omega (arith, st.each x))

  pub trails : Trails n m rs
  trails = trails_by n m rs below st.holds

  -- the places on the stack are free, and below n
  pub stack_near : (x : ℕ) → 1 ≤ stacked n m s.free x → (placed x rs ≡ 0) × (x < n)
  stack_near x h = (omega (arith, st.each x, each_le x), below_by x (omega (arith, st.each x)))

  pub top_free_lem : 1 ≤ s.free → (placed (at m (4 * n + (s.free - 1))) rs ≡ 0) × (at m (4 * n + (s.free - 1)) < n)
  top_free_lem h = go s.free refl h
    where
      one : (k : ℕ) → 1 ≤ stacked n m (suc k) (at m (4 * n + k))
      one k = unfold stacked in omega (arith, same_yes (at m (4 * n + k)))

      go : (k : ℕ) → s.free ≡ k → 1 ≤ k → (placed (at m (4 * n + (s.free - 1))) rs ≡ 0) × (at m (4 * n + (s.free - 1)) < n)
      go zero e l = absurd (omega (arith, l))
      go (suc k) e l =
          let z : s.free - 1 ≡ k = omega (arith, e) in
          rw z (stack_near (at m (4 * n + k)) (subst (λ (f : ℕ). 1 ≤ stacked n m f (at m (4 * n + k))) (sym e) (one k)))

-- the loops are read off
read_ring : (M : Memory) (l : Ring) (ls : List Ring) → Holds M (l ∷ ls) → read M (length l) (start_or 0 l) ≡ l
unfolding read
read_ring M [] ls h = refl
read_ring M (p ∷ ps) ls h = read_loop M p ps ls h

read_waiting : (n : ℕ) (m : List ℕ) (ws : List Ring) → Holds (links_of n m) ws → Waits n m ws → waiting_in n m (length ws) ≡ ws
unfolding waiting_in
read_waiting n m [] h w = refl
read_waiting n m (l ∷ ws) h w =
    ap₂ (λ (r : Ring) (rs : List Ring). r ∷ rs) (ap₂ (read (links_of n m)) w.1 w.0 ∙ read_ring (links_of n m) l ws h)
    (read_waiting n m ws (holds_rest (links_of n m) l ws h) w.2)

pub rings_read : (n : ℕ) (s : Loops) (m : List ℕ) (rs : List Ring) → StandsAt n s m rs → rings_in n s m ≡ rs
unfolding live_in
rings_read n s m [] st = let e : s.live ≡ 0 = st.heads in rw e
rings_read n s m (l ∷ ws) st =
    let e : s.live ≡ suc (length ws) = st.heads.live in
    rw e
    (ap₂ (λ (r : Ring) (rs : List Ring). r ∷ rs)
    (ap₂ (read (links_of n m)) st.heads.size st.heads.current ∙ read_ring (links_of n m) l ws st.holds)
    (read_waiting n m ws (holds_rest (links_of n m) l ws st.holds) st.heads.waiting))
