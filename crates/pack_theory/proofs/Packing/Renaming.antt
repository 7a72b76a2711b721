-- The vertices of a loop of three places that was just begun.
-- Assumes nothing.
use Prim.Native.Nat.{ℕ, suc, ◌+◌, ◌*◌, ◌≤◌, ◌<◌}
use native.Mathlib.Omega.{arith}
use mathlib.Core.Bool.{Bool, true, false, false≢true}
use mathlib.Core.List.{List, [], ◌∷◌}
use mathlib.Core.Path.{◌≡◌, refl, sym, ap, ap₂, ◌∙◌, subst}
use lib.ListN.{length, get_or, set, length-set}
use lib.Seq.{get_or-set_same, get_or-set_other}
use Rattle.rules.specs.Count.{same}
use Rattle.rules.specs.Ring.{Node, opened, marked, Ring, is_open, loop_at}
use Rattle.book.specs.Sums.{path_sum, ring_sum, loops_sum}
use Rattle.border_theory.specs.Links.Held.{Memory, Holds, named_ring, named_loops}
use Rattle.border_theory.proofs.Links.Named.{named_open}
use Rattle.cutborder.specs.declared.Loops.{Loops}
use Rattle.border_theory.specs.Memory.Layout.{after_of, vertices_of}
use Rattle.border_theory.specs.Memory.Stands.{rings_in, loops_in, Named, StandsAt, Stands}
use Rattle.border_theory.proofs.Memory.Columns.{column_length, named_vertices, named_links, named_above}
use Rattle.border_theory.proofs.Memory.Standing.{trails, apart, rings_read}
use Rattle.border_theory.proofs.Memory.Relinked.{stacked_same, waits_same}
use Rattle.pack_theory.specs.Packing.Course.{renamed}
use Rattle.counting.proofs.Counts.{same_yes}

-- a vertex stored at a place leaves the loops of places as they stand
module _ (n : ℕ) (l : Loops) (m : List ℕ) (x y : ℕ) (long : 4 * n ≤ length m) (near : x < n) where
  named_same : (rs : List Ring) → Named n l m rs → Named n l (set m (4 * x) y) rs
  named_same [] h = h
  named_same (r ∷ ws) h = record {
    live = h.live;
    current = h.current;
    size = h.size;
    waiting = waits_same n m (set m (4 * x) y) (λ i k. named_above n m x y long near i (omega (arith, k))) ws h.waiting;
  }

  pub stands_renamed : (rs : List Ring) → StandsAt n l m rs → StandsAt n l (set m (4 * x) y) rs
  stands_renamed rs st = record {
    long = omega (arith, st.long, length-set m (4 * x) y);
    holds = subst (λ (M : Memory). Holds M rs) (sym (named_links n m x y long near)) st.holds;
    each = λ z.
        omega (
          arith,
          st.each z,
          stacked_same n z m (set m (4 * x) y) l.free (λ i k. named_above n m x y long near (4 * n + i) (omega arith)),
        );
    heads = named_same rs st.heads;
    sound = st.sound;
  }

-- a ring of three open edges
record Three (n : ℕ) (l : Loops) (m : List ℕ) (rs : List Ring) : Type 0 where
  x : ℕ
  y : ℕ
  z : ℕ
  rings : rs ≡ (opened x ∷ (opened y ∷ (opened z ∷ []))) ∷ []
  first : l.current ≡ x
  second : after_of m x ≡ y
  third : after_of m y ≡ z
  near_x : x < n
  near_y : y < n
  near_z : z < n
  x_y : x ≡ y → ⊥
  y_z : y ≡ z → ⊥
  z_x : z ≡ x → ⊥

open_in : List Ring → ℕ → Bool
open_in ls i = at_node (loop_at ls 0) i
  where
    at_node : List Node → ℕ → Bool
    at_node [] i = false
    at_node (p ∷ ps) Prim.Native.Nat.zero = is_open p
    at_node (p ∷ ps) (suc i) = at_node ps i

module _ (n : ℕ) (l : Loops) (m : List ℕ) where
  three_of : (x y z : Node) → StandsAt n l m ((x ∷ (y ∷ (z ∷ []))) ∷ []) → is_open x ≡ true → is_open y ≡ true → is_open z ≡ true
      → Three n l m ((x ∷ (y ∷ (z ∷ []))) ∷ [])
  unfolding loops_sum ring_sum path_sum
  three_of (opened x) (opened y) (opened z) st a b c =
      let rs : List Ring = (opened x ∷ (opened y ∷ (opened z ∷ []))) ∷ [] in
      let t = (trails n l m rs st).0 in
      record {
        x = x;
        y = y;
        z = z;
        rings = refl;
        first = st.heads.current;
        second = t.0.fore;
        third = t.1.0.fore;
        near_x = t.0.near;
        near_y = t.1.0.near;
        near_z = t.1.1.0.near;
        x_y = λ e. omega (arith, apart n l m rs st x, same_yes x, ap (same x) e);
        y_z = λ e. omega (arith, apart n l m rs st y, same_yes y, ap (same y) e);
        z_x = λ e. omega (arith, apart n l m rs st z, same_yes z, ap (same z) e);
      }
  three_of (marked x) y z st a b c = absurd (false≢true a)
  three_of (opened x) (marked y) z st a b c = absurd (false≢true b)
  three_of (opened x) (opened y) (marked z) st a b c = absurd (false≢true c)

  three : (rs : List Ring) → StandsAt n l m rs → (p q r : ℕ)
      → named_loops (vertices_of n m) rs ≡ (opened p ∷ (opened q ∷ (opened r ∷ []))) ∷ [] → Three n l m rs
  unfolding named_loops named_ring loop_at open_in
  three [] st p q r e = absurd (omega (arith, ap length e))
  three (a ∷ (b ∷ rs)) st p q r e = absurd (omega (arith, ap length e))
  three ([] ∷ []) st p q r e = absurd (omega (arith, ap (λ (ls : List Ring). length (loop_at ls 0)) e))
  three ((x ∷ []) ∷ []) st p q r e = absurd (omega (arith, ap (λ (ls : List Ring). length (loop_at ls 0)) e))
  three ((x ∷ (y ∷ [])) ∷ []) st p q r e = absurd (omega (arith, ap (λ (ls : List Ring). length (loop_at ls 0)) e))
  three ((x ∷ (y ∷ (z ∷ (w ∷ ws)))) ∷ []) st p q r e = absurd (omega (arith, ap (λ (ls : List Ring). length (loop_at ls 0)) e))
  three ((x ∷ (y ∷ (z ∷ []))) ∷ []) st p q r e =
      three_of x y z st
      (sym (named_open (vertices_of n m) x) ∙ ap (λ (ls : List Ring). open_in ls 0) e)
      (sym (named_open (vertices_of n m) y) ∙ ap (λ (ls : List Ring). open_in ls 1) e)
      (sym (named_open (vertices_of n m) z) ∙ ap (λ (ls : List Ring). open_in ls 2) e)

-- the places of the loop, and what stands after the three vertices are stored
pub record Renamed (n : ℕ) (l : Loops) (m : List ℕ) (p q r : ℕ) : Type 0 where
  pub near_x : l.current < n
  pub near_y : after_of m l.current < n
  pub near_z : after_of m (after_of m l.current) < n
  pub lengths : length (renamed m l.current p q r) ≡ length m
  pub stands : Stands n l (renamed m l.current p q r)
  pub loops : loops_in n l (renamed m l.current p q r) ≡ (opened p ∷ (opened q ∷ (opened r ∷ []))) ∷ []

pub renamed_three : (n : ℕ) (l : Loops) (m : List ℕ) (a b c p q r : ℕ) → 4 * n ≤ length m → Stands n l m
    → loops_in n l m ≡ (opened a ∷ (opened b ∷ (opened c ∷ []))) ∷ [] → Renamed n l m p q r
unfolding named_loops named_ring
renamed_three n l m a b c p q r long st e =
    let h = three n l m (rings_in n l m) st a b c e in
    let x = h.x in
    let y = h.y in
    let z = h.z in
    let rs : List Ring = (opened x ∷ (opened y ∷ (opened z ∷ []))) ∷ [] in
    let ey : after_of m l.current ≡ y = ap (after_of m) h.first ∙ h.second in
    let ez : after_of m (after_of m l.current) ≡ z = ap (after_of m) ey ∙ h.third in
    let m₁ = set m (4 * x) p in
    let m₂ = set m₁ (4 * y) q in
    let m₃ = set m₂ (4 * z) r in
    let em : renamed m l.current p q r ≡ m₃ =
    ap₂ (λ (i j : ℕ). set (set (set m (4 * i) p) (4 * j) q) (4 * after_of m (after_of m l.current)) r) h.first ey
    ∙ ap (λ (k : ℕ). set (set (set m (4 * x) p) (4 * y) q) (4 * k) r) ez in
    let l₁ : 4 * n ≤ length m₁ = omega (arith, long, length-set m (4 * x) p) in
    let l₂ : 4 * n ≤ length m₂ = omega (arith, l₁, length-set m₁ (4 * y) q) in
    let s₀ : StandsAt n l m rs = subst (StandsAt n l m) h.rings st in
    let s₃ : StandsAt n l m₃ rs =
    stands_renamed n l m₂ z r l₂ h.near_z rs
    (stands_renamed n l m₁ y q l₁ h.near_y rs (stands_renamed n l m x p long h.near_x rs s₀)) in
    let v₀ : List ℕ = vertices_of n m in
    let v₁ : List ℕ = set v₀ x p in
    let v₂ : List ℕ = set v₁ y q in
    let v₃ : List ℕ = set v₂ z r in
    let ev : vertices_of n m₃ ≡ v₃ =
    named_vertices n m₂ z r l₂ h.near_z
    ∙ ap (λ (w : List ℕ). set w z r)
    (named_vertices n m₁ y q l₁ h.near_y ∙ ap (λ (w : List ℕ). set w y q) (named_vertices n m x p long h.near_x)) in
    let k₀ : length v₀ ≡ n = column_length m 0 n in
    let k₁ : length v₁ ≡ n = length-set v₀ x p ∙ k₀ in
    let k₂ : length v₂ ≡ n = length-set v₁ y q ∙ k₁ in
    let ex : get_or v₃ x 0 ≡ p =
    get_or-set_other v₂ z x r 0 (λ w. h.z_x (sym w)) ∙ get_or-set_other v₁ y x q 0 h.x_y
    ∙ get_or-set_same v₀ x p 0 (omega (arith, k₀, h.near_x)) in
    let eq : get_or v₃ y 0 ≡ q = get_or-set_other v₂ z y r 0 h.y_z ∙ get_or-set_same v₁ y q 0 (omega (arith, k₁, h.near_y)) in
    let er : get_or v₃ z 0 ≡ r = get_or-set_same v₂ z r 0 (omega (arith, k₂, h.near_z)) in
    let en : named_loops (vertices_of n m₃) rs ≡ (opened p ∷ (opened q ∷ (opened r ∷ []))) ∷ [] = rw (ev, ex, eq, er) refl in
    let ri : rings_in n l m₃ ≡ rs = rings_read n l m₃ rs s₃ in
    record {
      near_x = omega (arith, h.first, h.near_x);
      near_y = omega (arith, ey, h.near_y);
      near_z = omega (arith, ez, h.near_z);
      lengths = ap length em ∙ length-set m₂ (4 * z) r ∙ length-set m₁ (4 * y) q ∙ length-set m (4 * x) p;
      stands = subst (Stands n l) (sym em) (subst (StandsAt n l m₃) (sym ri) s₃);
      loops = ap (loops_in n l) em ∙ ap (named_loops (vertices_of n m₃)) ri ∙ en;
    }
