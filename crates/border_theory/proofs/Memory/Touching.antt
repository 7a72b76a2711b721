-- An operation writes the records of the places that it touches and no other, and gives a vertex to the places that it takes alone.
-- Assumes nothing.
use Prim.Native.Nat.{ℕ, zero, suc, ◌+◌, ◌-◌, ◌*◌, ◌≤◌, ◌<◌}
use native.Mathlib.Omega.{arith}
use mathlib.Core.Bool.{Bool, true, false}
use mathlib.Core.List.{List, [], ◌∷◌}
use mathlib.Core.Path.{◌≡◌, refl, sym, ◌∙◌, subst}
use lib.ListN.{length, set}
use lib.Dec.{eqb, leb}
use lib.Seq.{get_or-set_same, get_or-set_other}
use Rattle.rules.specs.declared.Operation.{Operation}
use Rattle.rules.specs.declared.Operation.TheVariants.{New, Forward, Backward, Border, Split, Close, Union, Start}
use Rattle.cutborder.specs.declared.Loops.{Loops}
use Rattle.border_theory.specs.Memory.Layout.{at, before_of, after_of, open_of, edge_stored, edges_stored, freed, released, walked, waits}
use Rattle.border_theory.specs.Memory.Layout.{moved_down}
use Rattle.border_theory.specs.Memory.Moves.{top_free, new_held, forward_held, backward_held, ended_by, ended_held, turned_by}
use Rattle.border_theory.specs.Memory.Moves.{turned_held, cut_by, next_cut, last_cut, marked_held, doubled, split_by, split_held}
use Rattle.border_theory.specs.Memory.Moves.{union_held}
use Rattle.border_theory.specs.Memory.Moves.{start_held}
use Rattle.border_theory.specs.Memory.Decision.{held_by}
use Rattle.border_theory.specs.Memory.Near.{Near, Borders}
use Rattle.border_theory.specs.Memory.Performs.{Performs}
use Rattle.border_theory.specs.Memory.Touched.{touched_by, NoneOf, OnlyAt}

-- a number of a list after a store is the one stored, or the one that was there
set_either : (P : ℕ → Type 0) (m : List ℕ) (j k v : ℕ) → P (at m k) → P v → P (at (set m j v) k)
set_either P [] j k v h g = h
set_either P (x ∷ m) zero zero v h g = g
set_either P (x ∷ m) zero (suc k) v h g = h
set_either P (x ∷ m) (suc j) zero v h g = h
set_either P (x ∷ m) (suc j) (suc k) v h g = set_either P m j k v h g

-- x is one of these
abbrev Of : List ℕ → ℕ → Type 0
Of T x = (i : ℕ) → NoneOf i T → i ≡ x → ⊥

module _ (n : ℕ) (T : List ℕ) where
  only_trans : (m m₁ m₂ : List ℕ) → OnlyAt n T m m₁ → OnlyAt n T m₁ m₂ → OnlyAt n T m m₂
  only_trans m m₁ m₂ f g = record { others = λ i k h l d. g.others i k h l d ∙ f.others i k h l d }

  only_same : (m : List ℕ) → OnlyAt n T m m
  only_same m = record { others = λ i k h l d. refl }

  -- a number past the records
  high_only : (m : List ℕ) (j v : ℕ) → 4 * n ≤ j → OnlyAt n T m (set m j v)
  high_only m j v b = record { others = λ i k h l d. get_or-set_other m j (4 * i + k) v 0 (λ e. omega (arith, e, b, h, l)) }

  edge_only : (m : List ℕ) (x y o : ℕ) → Of T x → Of T y → OnlyAt n T m (edge_stored m x y o)
  unfolding edge_stored
  edge_only m x y o f g = record {
    others = λ i k h l d.
        get_or-set_other (set (set m (4 * x + 2) y) (4 * y + 1) x) (4 * x + 3) (4 * i + k) o 0 (λ e. f i d (omega (arith, e, l)))
        ∙ get_or-set_other (set m (4 * x + 2) y) (4 * y + 1) (4 * i + k) x 0 (λ e. g i d (omega (arith, e, l)))
        ∙ get_or-set_other m (4 * x + 2) (4 * i + k) y 0 (λ e. f i d (omega (arith, e, l)));
  }

  name_only : (m : List ℕ) (x v : ℕ) → Of T x → OnlyAt n T m (set m (4 * x) v)
  name_only m x v f = record { others = λ i k h l d. get_or-set_other m (4 * x) (4 * i + k) v 0 (λ e. f i d (omega (arith, e, l))) }

  released_only : (m : List ℕ) (k j p : ℕ) → OnlyAt n T m (released n m k j p)
  unfolding released
  released_only m k zero p = only_same _
  released_only m k (suc j) p =
      only_trans m (freed n m k p) (released n (freed n m k p) (k + 1) j (after_of m p)) (high_only m (4 * n + k) p (omega arith))
      (released_only (freed n m k p) (k + 1) j (after_of m p))

  waits_only : (m : List ℕ) (l p k : ℕ) → OnlyAt n T m (waits n m l p k)
  waits_only m l p k =
      only_trans m (set m (5 * n + 2 * l) p) (waits n m l p k) (high_only m (5 * n + 2 * l) p (omega arith))
      (high_only (set m (5 * n + 2 * l) p) (5 * n + 2 * l + 1) k (omega arith))

  down_only : (m : List ℕ) (l k : ℕ) → OnlyAt n T m (moved_down n m l k)
  unfolding moved_down
  down_only m l zero = only_same _
  down_only m l (suc k) =
      let m₁ : List ℕ = waits n m l (at m (5 * n + 2 * (l + 1))) (at m (5 * n + 2 * (l + 1) + 1)) in
      only_trans m m₁ (moved_down n m₁ (l + 1) k) (waits_only m l (at m (5 * n + 2 * (l + 1))) (at m (5 * n + 2 * (l + 1) + 1)))
      (down_only m₁ (l + 1) k)

  ended_only : (s : Loops) (m : List ℕ) → OnlyAt n T m (ended_held n s m).memory
  unfolding ended_held
  ended_only s m = go (leb s.live 1)
    where
      go : (t : Bool) → OnlyAt n T m (ended_by t n s m).memory
      go true = released_only m s.free s.size s.current
      go false = released_only m s.free s.size s.current

  forward_only : (s : Loops) (m : List ℕ) → Of T s.current → Of T (after_of m (after_of m s.current))
      → OnlyAt n T m (forward_held n s m).memory
  unfolding forward_held edges_stored
  forward_only s m f g =
      let m₁ : List ℕ = edge_stored m s.current (after_of m (after_of m s.current)) 1 in
      only_trans m m₁ (freed n m₁ s.free (after_of m s.current)) (edge_only m s.current (after_of m (after_of m s.current)) 1 f g)
      (high_only m₁ (4 * n + s.free) (after_of m s.current) (omega arith))

  backward_only : (s : Loops) (m : List ℕ) → Of T (before_of m s.current) → Of T (after_of m s.current)
      → OnlyAt n T m (backward_held n s m).memory
  unfolding backward_held edges_stored
  backward_only s m f g =
      let m₁ : List ℕ = edge_stored m (before_of m s.current) (after_of m s.current) 1 in
      only_trans m m₁ (freed n m₁ s.free s.current) (edge_only m (before_of m s.current) (after_of m s.current) 1 f g)
      (high_only m₁ (4 * n + s.free) s.current (omega arith))

  doubled_only : (s : Loops) (m : List ℕ) (c : ℕ) → Of T (top_free n s m) → Of T s.current → Of T (after_of m s.current) → Of T c
      → Of T (before_of m c)
      → OnlyAt n T m (doubled n s m c)
  unfolding doubled
  doubled_only s m c fq fe ff fc fl =
      let q : ℕ = top_free n s m in
      let e : ℕ = s.current in
      let l : ℕ = before_of m c in
      let m₁ : List ℕ = set m (4 * q) (at m (4 * c)) in
      let m₂ : List ℕ = edge_stored m₁ e c 1 in
      let m₃ : List ℕ = edge_stored m₂ l q (open_of m l) in
      only_trans m m₃ (edge_stored m₃ q (after_of m e) 1)
      (only_trans m m₂ m₃ (only_trans m m₁ m₂ (name_only m q (at m (4 * c)) fq) (edge_only m₁ e c 1 fe fc))
      (edge_only m₂ l q (open_of m l) fl fq))
      (edge_only m₃ q (after_of m e) 1 fq ff)

  -- the current place, the place after it and the one before it are of these
  record Around (l : Loops) (m : List ℕ) : Type 0 where
    here : Of T l.current
    fore : Of T (after_of m l.current)
    back : Of T (before_of m l.current)

  turned_only : (l : Loops) (m : List ℕ) → Of T l.current → Of T (after_of m l.current) → OnlyAt n T m (turned_held n l m).memory
  unfolding turned_held edges_stored
  turned_only l m f g =
      let m₁ : List ℕ = edge_stored m l.current (after_of m l.current) 0 in
      let p : ℕ = after_of m l.current in
      only_trans m m₁ _ (edge_only m l.current p 0 f g) (go m₁ p (eqb (open_of m₁ p) 0))
    where
      go : (m₁ : List ℕ) (p : ℕ) (t : Bool) → OnlyAt n T m₁ (turned_by t n l m₁ p).memory
      go m₁ p true = ended_only l m₁
      go m₁ p false = only_same _

  module _ (s : Loops) (m : List ℕ) (b : Borders n s m) (a : Around s m) (far : Of T (after_of m (after_of m s.current))) where
    abbrev e : ℕ
    e = s.current

    abbrev g : ℕ
    g = after_of m (after_of m e)

    near_e : e < n
    unfolding walked
    near_e = b.near.ahead 0 (omega arith)

    long : 4 * e + 2 < length m
    long = omega (arith, near_e, b.near.long)

    -- after the next place has left
    fore_left : after_of (forward_held n s m).memory e ≡ g
    unfolding forward_held edges_stored edge_stored
    fore_left =
        get_or-set_other (set (set (set m (4 * e + 2) g) (4 * g + 1) e) (4 * e + 3) 1) (4 * n + s.free) (4 * e + 2) (after_of m e) 0
        (λ z. omega (arith, z, near_e))
        ∙ get_or-set_other (set (set m (4 * e + 2) g) (4 * g + 1) e) (4 * e + 3) (4 * e + 2) 1 0 (λ z. omega (arith, z))
        ∙ get_or-set_other (set m (4 * e + 2) g) (4 * g + 1) (4 * e + 2) e 0 (λ z. omega (arith, z))
        ∙ get_or-set_same m (4 * e + 2) g 0 long

    back_left : Of T (before_of (forward_held n s m).memory e)
    unfolding forward_held edges_stored edge_stored
    back_left =
        subst (Of T)
        (sym
        (get_or-set_other (set (set (set m (4 * e + 2) g) (4 * g + 1) e) (4 * e + 3) 1) (4 * n + s.free) (4 * e + 1) (after_of m e) 0
        (λ z. omega (arith, z, near_e))
        ∙ get_or-set_other (set (set m (4 * e + 2) g) (4 * g + 1) e) (4 * e + 3) (4 * e + 1) 1 0 (λ z. omega (arith, z))))
        (set_either (Of T) (set m (4 * e + 2) g) (4 * g + 1) (4 * e + 1) e
        (subst (Of T) (sym (get_or-set_other m (4 * e + 2) (4 * e + 1) g 0 (λ z. omega (arith, z)))) a.back) a.here)

    next_by : (t : Bool) → Around (cut_by t (forward_held n s m) s m).loops (cut_by t (forward_held n s m) s m).memory
    next_by true =
        record {
          here = unfold forward_held in a.here;
          fore = unfold forward_held in subst (Of T) (sym (unfold forward_held in fore_left)) far;
          back = unfold forward_held in back_left;
        }
    next_by false = a

    next_around : Around (next_cut n s m).loops (next_cut n s m).memory
    unfolding next_cut
    next_around = next_by (eqb (open_of m (after_of m s.current)) 0)

    next_only : OnlyAt n T m (next_cut n s m).memory
    unfolding next_cut
    next_only = go (eqb (open_of m (after_of m s.current)) 0)
      where
        go : (t : Bool) → OnlyAt n T m (cut_by t (forward_held n s m) s m).memory
        go true = forward_only s m a.here far
        go false = only_same _

  -- where the edge before the current place is marked, that place leaves too
  module _ (l : Loops) (m : List ℕ) (near : Near n l m) (a : Around l m) where
    abbrev c : ℕ
    c = before_of m l.current

    abbrev f : ℕ
    f = after_of m l.current

    fore_back : after_of (backward_held n l m).memory c ≡ f
    unfolding backward_held edges_stored edge_stored
    fore_back =
        get_or-set_other (set (set (set m (4 * c + 2) f) (4 * f + 1) c) (4 * c + 3) 1) (4 * n + l.free) (4 * c + 2) l.current 0
        (λ z. omega (arith, z, near.behind))
        ∙ get_or-set_other (set (set m (4 * c + 2) f) (4 * f + 1) c) (4 * c + 3) (4 * c + 2) 1 0 (λ z. omega (arith, z))
        ∙ get_or-set_other (set m (4 * c + 2) f) (4 * f + 1) (4 * c + 2) c 0 (λ z. omega (arith, z))
        ∙ get_or-set_same m (4 * c + 2) f 0 (omega (arith, near.behind, near.long))

    last_by : (t : Bool) → let h = cut_by t (backward_held n l m) l m in
        Of T h.loops.current × Of T (after_of h.memory h.loops.current)
    last_by true = (unfold backward_held in a.back, unfold backward_held in subst (Of T) (sym (unfold backward_held in fore_back)) a.fore)
    last_by false = (a.here, a.fore)

    last_around : Of T (last_cut n l m).loops.current × Of T (after_of (last_cut n l m).memory (last_cut n l m).loops.current)
    unfolding last_cut
    last_around = last_by (eqb (open_of m (before_of m l.current)) 0)

    last_only : OnlyAt n T m (last_cut n l m).memory
    unfolding last_cut
    last_only = go (eqb (open_of m (before_of m l.current)) 0)
      where
        go : (t : Bool) → OnlyAt n T m (cut_by t (backward_held n l m) l m).memory
        go true = backward_only l m a.back a.fore
        go false = only_same _

  marked_only : (s : Loops) (m : List ℕ) → Borders n s m → Around s m → Of T (after_of m (after_of m s.current))
      → OnlyAt n T m (marked_held n s m).memory
  unfolding marked_held
  marked_only s m b a far =
      let l : Loops = (next_cut n s m).loops in
      let m₁ : List ℕ = (next_cut n s m).memory in
      let w = next_around s m b a far in
      let x = last_around l m₁ b.next w in
      only_trans m (last_cut n l m₁).memory _
      (only_trans m m₁ (last_cut n l m₁).memory (next_only s m b a far) (last_only l m₁ b.next w))
      (turned_only (last_cut n l m₁).loops (last_cut n l m₁).memory x.0 x.1)

-- one operation after the other
module _ (n : ℕ) (s : Loops) (m : List ℕ) where
  new_only : (u c : ℕ) → OnlyAt n (touched_by n s m New c) m (new_held n s m u).memory
  unfolding new_held edges_stored
  new_only u c =
      let T : List ℕ = touched_by n s m New c in
      let q : ℕ = top_free n s m in
      let m₁ : List ℕ = set m (4 * q) u in
      let m₂ : List ℕ = edge_stored m₁ q (after_of m s.current) 1 in
      only_trans n T m m₂ _
      (only_trans n T m m₁ m₂ (name_only n T m q u (λ i d. d.1.1.0))
      (edge_only n T m₁ q (after_of m s.current) 1 (λ i d. d.1.1.0) (λ i d. d.1.0)))
      (edge_only n T m₂ s.current q 1 (λ i d. d.0) (λ i d. d.1.1.0))

  twice_only : (c : ℕ) → let T = s.current ∷ (after_of m s.current ∷ (c ∷ (before_of m c ∷ (top_free n s m ∷ [])))) in
      OnlyAt n T m (doubled n s m c)
  twice_only c =
      doubled_only n (s.current ∷ (after_of m s.current ∷ (c ∷ (before_of m c ∷ (top_free n s m ∷ []))))) s m c (λ i d. d.1.1.1.1.0)
      (λ i d. d.0)
      (λ i d. d.1.0) (λ i d. d.1.1.0) (λ i d. d.1.1.1.0)

  split_only : (i c : ℕ) → OnlyAt n (touched_by n s m (Split i) c) m (split_held n s m i c).memory
  unfolding split_held
  split_only i c = go (leb (i + 1) (s.size - i))
    where
      go : (t : Bool) → OnlyAt n (touched_by n s m (Split i) c) m (split_by t n s (doubled n s m c) i (top_free n s m)).memory
      go true =
          only_trans n (touched_by n s m (Split i) c) m (doubled n s m c)
          (waits n (doubled n s m c) (s.live - 1) s.current (s.size - i)) (twice_only c)
          (waits_only n (touched_by n s m (Split i) c) (doubled n s m c) (s.live - 1) s.current (s.size - i))
      go false =
          only_trans n (touched_by n s m (Split i) c) m (doubled n s m c) (waits n (doubled n s m c) (s.live - 1) (top_free n s m) (i + 1))
          (twice_only c)
          (waits_only n (touched_by n s m (Split i) c) (doubled n s m c) (s.live - 1) (top_free n s m) (i + 1))

  union_only : (p j c : ℕ) → OnlyAt n (touched_by n s m (Union p j) c) m (union_held n s m p c).memory
  unfolding union_held
  union_only p j c =
      only_trans n (touched_by n s m (Union p j) c) m (doubled n s m c) _ (twice_only c)
      (down_only n (touched_by n s m (Union p j) c) (doubled n s m c) (s.live - 1 - p) (p - 1))

  start_only : (u c : ℕ) → OnlyAt n (touched_by n s m Start c) m (start_held n s m u).memory
  unfolding start_held edges_stored
  start_only u c =
      let T : List ℕ = touched_by n s m Start c in
      let x : ℕ = at m (4 * n + (s.free - 1)) in
      let y : ℕ = at m (4 * n + (s.free - 2)) in
      let z : ℕ = at m (4 * n + (s.free - 3)) in
      let m₁ : List ℕ = set m (4 * x) u in
      let m₂ : List ℕ = set m₁ (4 * y) (u + 1) in
      let m₃ : List ℕ = set m₂ (4 * z) (u + 2) in
      let m₄ : List ℕ = edge_stored m₃ z x 1 in
      let m₅ : List ℕ = edge_stored m₄ y z 1 in
      let fx : Of T x = λ i d. d.0 in
      let fy : Of T y = λ i d. d.1.0 in
      let fz : Of T z = λ i d. d.1.1.0 in
      only_trans n T m m₅ _
      (only_trans n T m m₄ m₅
      (only_trans n T m m₃ m₄
      (only_trans n T m m₂ m₃ (only_trans n T m m₁ m₂ (name_only n T m x u fx) (name_only n T m₁ y (u + 1) fy))
      (name_only n T m₂ z (u + 2) fz))
      (edge_only n T m₃ z x 1 fz fx))
      (edge_only n T m₄ y z 1 fy fz))
      (edge_only n T m₅ x y 1 fx fy)

-- an operation that can be done writes no other record
pub touches : (n : ℕ) (s : Loops) (m : List ℕ) (u : ℕ) (o : Operation) (c : ℕ) → Performs n s m u o c
    → OnlyAt n (touched_by n s m o c) m (held_by n s m u o c).memory
touches n s m u New c h = new_only n s m u c
touches n s m u Forward c h = forward_only n (touched_by n s m Forward c) s m (λ i d. d.0) (λ i d. d.1.0)
touches n s m u Backward c h = backward_only n (touched_by n s m Backward c) s m (λ i d. d.0) (λ i d. d.1.0)
touches n s m u Border c h =
    marked_only n (touched_by n s m Border c) s m h (record { here = λ i d. d.1.0; fore = λ i d. d.1.1.0; back = λ i d. d.0 })
    (λ i d. d.1.1.1.0)
touches n s m u (Split i) c h = split_only n s m i c
touches n s m u Close c h = ended_only n [] s m
touches n s m u (Union p j) c h = union_only n s m p j c
touches n s m u Start c h = start_only n s m u c
