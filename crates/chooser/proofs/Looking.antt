-- Laws over plain lists and numbers that the functions' proofs cite: the search along the waiting loops, and its first places.
-- Assumes nothing.
use Prim.Native.Nat.{ℕ, zero, suc, ◌+◌, ◌-◌, ◌*◌, ◌≤◌, ◌<◌}
use native.Mathlib.Omega.{arith}
use native.Mathlib.Numerals.{add-one}
use mathlib.Core.Bool.{Bool, true, false}
use mathlib.Core.List.{List}
use mathlib.Core.Path.{◌≡◌, refl, sym, ap, ap₂, ◌∙◌, subst}
use lib.ListN.{length}
use borrow.Author.Tests.{lt-ltb, le-ltb}
use Rattle.rules.specs.Limits.{max_places}
use Rattle.cutborder.specs.declared.Loops.{Loops}
use Rattle.border_theory.specs.Memory.Layout.{at, before_of, after_of, walked}
use Rattle.pack_theory.specs.Choosing.Seat.{Seat, Nowhere, At}
use Rattle.pack_theory.specs.Choosing.Seeking.{starts_at, gone_by, seat_among, waiting_seat, walked_seat, seat_in, Inside, Seekable}

-- one loop, if the edge is in it, else the others
among_here : (w k i : ℕ) (s : Seat) → i < k → At w k i ≡ seat_among w k i s
unfolding seat_among
among_here w k i s h = sym (ap (λ (b : Bool). elim b [ true ↦ At w k i | false ↦ s ]) (lt-ltb i k h))

among_other : (w k i : ℕ) (s : Seat) → k ≤ i → s ≡ seat_among w k i s
unfolding seat_among
among_other w k i s h = sym (ap (λ (b : Bool). elim b [ true ↦ At w k i | false ↦ s ]) (le-ltb i k h))

-- the search in the waiting loops: j of them are left, the latest of which has number w
pub record Looking (m : List ℕ) (x y j₀ w₀ j w : ℕ) : Type 0 where
  pub ends : waiting_seat m j w x y ≡ waiting_seat m j₀ w₀ x y
  pub sum : j + w ≡ j₀ + w₀
  pub first : 1 ≤ w

-- the loop that is looked at next is in the memory
module _ (l : Loops) (m : List ℕ) (h : Seekable l m) (x y j w : ℕ) (k : Looking m x y (l.live - 1) 1 j w) (some : 0 < j) where
  pub looking_long : (max_places ≤ 1024) × (5 * max_places + 2 * (j - 1) + 1 < length m)
  looking_long = (omega arith, omega (arith, h.long, h.live, k.sum, k.first, some))

  pub looking_near : (n p : ℕ) → n ≡ at m (5 * max_places + 2 * (j - 1) + 1) → p ≡ at m (5 * max_places + 2 * (j - 1)) → (i : ℕ) → i < n
      → Inside m (walked m i p)
  looking_near n p en ep i b =
      subst (λ (q : ℕ). Inside m (walked m i q)) (sym ep)
      (h.waiting (j - 1) (omega (arith, h.live, k.sum, k.first, some)) i (subst (λ (q : ℕ). i < q) en b))

-- one loop of the search
waiting_step : (m : List ℕ) (x y j w n p i : ℕ) → 0 < j → n ≡ at m (5 * max_places + 2 * (j - 1) + 1)
    → p ≡ at m (5 * max_places + 2 * (j - 1))
    → i ≡ gone_by m n 0 p x y → seat_among w n i (waiting_seat m (j - 1) (w + 1) x y) ≡ waiting_seat m j w x y
unfolding waiting_seat
waiting_step m x y zero w n p i h en ep ei = absurd (omega arith)
waiting_step m x y (suc j) w n p i h en ep ei =
    let d : suc j - 1 ≡ j = omega arith in
    let n' : n ≡ at m (5 * max_places + 2 * j + 1) = en ∙ ap (λ (q : ℕ). at m (5 * max_places + 2 * q + 1)) d in
    let p' : p ≡ at m (5 * max_places + 2 * j) = ep ∙ ap (λ (q : ℕ). at m (5 * max_places + 2 * q)) d in
    ap₂ (λ (q v : ℕ). seat_among w n i (waiting_seat m q v x y)) d (add-one w)
    ∙ (ap (λ (q : ℕ). seat_among w n q (waiting_seat m j (suc w) x y)) (ei ∙ ap₂ (λ (a b : ℕ). gone_by m a 0 b x y) n' p')
    ∙ ap (λ (q : ℕ). seat_among w q (gone_by m (at m (5 * max_places + 2 * j + 1)) 0 (at m (5 * max_places + 2 * j)) x y)
    (waiting_seat m j (suc w) x y)) n')

module _ (m : List ℕ) (x y j₀ w₀ j w : ℕ) (k : Looking m x y j₀ w₀ j w) where
  pub looking_found : (n p i : ℕ) → 0 < j → n ≡ at m (5 * max_places + 2 * (j - 1) + 1) → p ≡ at m (5 * max_places + 2 * (j - 1))
      → i ≡ gone_by m n 0 p x y → i < n → At w n i ≡ waiting_seat m j₀ w₀ x y
  looking_found n p i h en ep ei b = among_here w n i _ b ∙ (waiting_step m x y j w n p i h en ep ei ∙ k.ends)

  pub looking_more : (n p i : ℕ) → 0 < j → n ≡ at m (5 * max_places + 2 * (j - 1) + 1) → p ≡ at m (5 * max_places + 2 * (j - 1))
      → i ≡ gone_by m n 0 p x y → n ≤ i → Looking m x y j₀ w₀ (j - 1) (w + 1)
  looking_more n p i h en ep ei b = record {
    ends = among_other w n i _ b ∙ (waiting_step m x y j w n p i h en ep ei ∙ k.ends);
    sum = omega (arith, k.sum, h);
    first = omega (arith, k.first);
  }

  pub looking_done : j ≤ 0 → Nowhere ≡ waiting_seat m j₀ w₀ x y
  unfolding waiting_seat
  looking_done h = let d : 0 ≡ j = omega (arith, h) in ap (λ (q : ℕ). waiting_seat m q w x y) d ∙ k.ends

module _ (l : Loops) (m : List ℕ) (x y : ℕ) where
  -- along the current loop
  pub walked_here : (i : ℕ) → i ≡ gone_by m l.size 0 l.current x y → i < l.size → At 0 l.size i ≡ walked_seat l m x y
  unfolding walked_seat
  walked_here i e h = among_here 0 l.size i _ h ∙ ap (λ (q : ℕ). seat_among 0 l.size q (waiting_seat m (l.live - 1) 1 x y)) e

  pub walked_on : (i : ℕ) (s : Seat) → i ≡ gone_by m l.size 0 l.current x y → l.size ≤ i → s ≡ waiting_seat m (l.live - 1) 1 x y
      → s ≡ walked_seat l m x y
  unfolding walked_seat
  walked_on i s e h q =
      q ∙ (among_other 0 l.size i _ h ∙ ap (λ (j : ℕ). seat_among 0 l.size j (waiting_seat m (l.live - 1) 1 x y)) e)

  -- the three places that are looked at first
  module _ (f : ℕ) (ef : f ≡ after_of m l.current) (b : Bool) (eb : b ≡ starts_at m f x y) where
    first_is : starts_at m (after_of m l.current) x y ≡ b
    first_is = ap (λ (p : ℕ). starts_at m p x y) (sym ef) ∙ sym eb

    pub seat_after : b ≡ true → At 0 l.size 1 ≡ seat_in l m x y
    unfolding seat_in
    seat_after h = rw (seat_in, first_is ∙ h) refl

    module _ (no : b ≡ false) (g : ℕ) (eg : g ≡ before_of m l.current) (c : Bool) (ec : c ≡ starts_at m g x y) where
      second_is : starts_at m (before_of m l.current) x y ≡ c
      second_is = ap (λ (p : ℕ). starts_at m p x y) (sym eg) ∙ sym ec

      pub seat_before : c ≡ true → At 0 l.size (l.size - 1) ≡ seat_in l m x y
      unfolding seat_in
      seat_before h = rw (seat_in, first_is ∙ no, second_is ∙ h) refl

      module _ (no-c : c ≡ false) (k : ℕ) (ek : k ≡ before_of m g) (d : Bool) (ed : d ≡ starts_at m k x y) where
        third_is : starts_at m (before_of m (before_of m l.current)) x y ≡ d
        third_is = ap (λ (p : ℕ). starts_at m p x y) (sym (ek ∙ ap (before_of m) eg)) ∙ sym ed

        pub seat_second : d ≡ true → At 0 l.size (l.size - 2) ≡ seat_in l m x y
        unfolding seat_in
        seat_second h = rw (seat_in, first_is ∙ no, second_is ∙ no-c, third_is ∙ h) refl

        pub seat_walked : (s : Seat) → d ≡ false → s ≡ walked_seat l m x y → s ≡ seat_in l m x y
        unfolding seat_in
        seat_walked s h q = rw (seat_in, first_is ∙ no, second_is ∙ no-c, third_is ∙ h) q

-- the current place
pub current_long : (l : Loops) (m : List ℕ) → Seekable l m → 4 * l.current + 3 < length m
unfolding walked
current_long l m h = (h.ahead 0 (omega (arith, h.two))).0

-- the three places
module _ (l : Loops) (m : List ℕ) (h : Seekable l m) where
  pub inside_after : (f : ℕ) → f ≡ after_of m l.current → Inside m f
  inside_after f e = subst (Inside m) (sym e) h.after

  pub inside_before : (g : ℕ) → g ≡ before_of m l.current → Inside m g
  inside_before g e = subst (Inside m) (sym e) h.before

  pub inside_second : (g k : ℕ) → g ≡ before_of m l.current → k ≡ before_of m g → Inside m k
  inside_second g k e f = subst (Inside m) (sym (f ∙ ap (before_of m) e)) h.second
