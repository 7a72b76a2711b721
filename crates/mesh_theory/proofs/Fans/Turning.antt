-- Turning as far as it goes: the edges taken are a way, and together with those left they are all. Both ways round at once.
-- Assumes nothing.
use Prim.Native.Nat.{ℕ, zero, suc, ◌+◌, ◌≤◌}
use native.Mathlib.Omega.{arith}
use mathlib.Core.Bool.{Bool, true, false}
use mathlib.Core.List.{List, [], ◌∷◌}
use mathlib.Core.Path.{◌≡◌, refl, sym, subst}
use lib.ListN.{length}
use lib.Dec.{eqb}
use borrow.Author.Tests.{eqb-true, eqb-false}
use Rattle.rules.specs.Triangle.{Edge}
use Rattle.rules.specs.Count.{same}
use Rattle.rules.specs.Fan.{Taken, no_edge, taken, keep, leaving, entering, turn_on, turn_back}
use Rattle.mesh_theory.specs.Fans.Ways.{total, Walk}
use Rattle.mesh_theory.proofs.Fans.Counting.{length_total}
use Rattle.counting.proofs.Counts.{same_no}

-- what turning is, seen from an edge's near end to its far end
pub record Turn (near far : Edge → ℕ) (pick : ℕ → List Edge → Taken) (turn : ℕ → ℕ → List Edge → List Edge) : Type 0 where
  pub pick_none : (x : ℕ) → pick x [] ≡ no_edge
  pub pick_here : (x : ℕ) (d : Edge) (ds : List Edge) → eqb (near d) x ≡ true → pick x (d ∷ ds) ≡ taken d ds
  pub pick_later : (x : ℕ) (d : Edge) (ds : List Edge) → eqb (near d) x ≡ false → pick x (d ∷ ds) ≡ keep d (pick x ds)
  pub turn_zero : (x : ℕ) (ds : List Edge) → turn zero x ds ≡ ds
  pub turn_stop : (n x : ℕ) (ds : List Edge) → pick x ds ≡ no_edge → turn (suc n) x ds ≡ ds
  pub turn_more : (n x : ℕ) (ds : List Edge) (d : Edge) (es : List Edge) → pick x ds ≡ taken d es
      → turn (suc n) x ds ≡ turn n (far d) es

pub onward : Turn (λ d. d.from) (λ d. d.to) leaving turn_on
unfolding leaving turn_on
onward = record {
  pick_none = λ x. refl;
  pick_here = λ x d ds e. rw (leaving, e);
  pick_later = λ x d ds e. rw (leaving, e);
  turn_zero = λ x ds. refl;
  turn_stop = λ n x ds e. rw (turn_on, e);
  turn_more = λ n x ds d es e. rw (turn_on, e);
}

pub backward : Turn (λ d. d.to) (λ d. d.from) entering turn_back
unfolding entering turn_back
backward = record {
  pick_none = λ x. refl;
  pick_here = λ x d ds e. rw (entering, e);
  pick_later = λ x d ds e. rw (entering, e);
  turn_zero = λ x ds. refl;
  turn_stop = λ n x ds e. rw (turn_back, e);
  turn_more = λ n x ds d es e. rw (turn_back, e);
}

-- what taking an edge out gives: none has the near end x, or one that has it is taken and the others are left
abbrev pub Parts : (Edge → ℕ) → ℕ → List Edge → Taken → Type 0
Parts near x ds no_edge = total (λ d. same x (near d)) ds ≡ 0
Parts near x ds (taken d es) = (near d ≡ x) × ((w : Edge → ℕ) → total w ds ≡ w d + total w es)

-- turning from x by at most n edges: the way that it goes
pub record Turned (near far : Edge → ℕ) (n x : ℕ) (ds rest : List Edge) : Type 0 where
  pub path : List Edge
  pub end : ℕ
  pub walk : Walk near far x path end
  pub sum : (w : Edge → ℕ) → total w ds ≡ total w path + total w rest
  pub stuck : length ds ≤ n → total (λ d. same end (near d)) rest ≡ 0

module _ (near far : Edge → ℕ) (pick : ℕ → List Edge → Taken) (turn : ℕ → ℕ → List Edge → List Edge)
    (law : Turn near far pick turn) where
  parts_keep : (x : ℕ) (d : Edge) (ds : List Edge) (r : Taken) → eqb (near d) x ≡ false → Parts near x ds r
      → Parts near x (d ∷ ds) (keep d r)
  unfolding total
  parts_keep x d ds no_edge e h = omega (arith, h, same_no x (near d) (λ q. eqb-false (near d) x e (sym q)))
  parts_keep x d ds (taken f es) e h = (h.0, λ w. omega (arith, h.1 w))

  pub parts : (x : ℕ) (ds : List Edge) → Parts near x ds (pick x ds)
  unfolding total
  parts x [] = subst (Parts near x []) (sym (law.pick_none x)) refl
  parts x (d ∷ ds) = go (eqb (near d) x) refl (parts x ds)
    where
      go : (b : Bool) → eqb (near d) x ≡ b → Parts near x ds (pick x ds) → Parts near x (d ∷ ds) (pick x (d ∷ ds))
      go true e h = subst (Parts near x (d ∷ ds)) (sym (law.pick_here x d ds e)) (eqb-true (near d) x e, λ w. refl)
      go false e h = subst (Parts near x (d ∷ ds)) (sym (law.pick_later x d ds e)) (parts_keep x d ds (pick x ds) e h)

  stop : (n x : ℕ) (ds : List Edge) → (length ds ≤ n → total (λ d. same x (near d)) ds ≡ 0) → Turned near far n x ds ds
  unfolding total
  stop n x ds h = record { path = []; end = x; walk = refl; sum = λ w. omega arith; stuck = h }

  none_left : (w : Edge → ℕ) (ds : List Edge) → length ds ≤ 0 → total w ds ≡ 0
  unfolding total
  none_left w [] h = refl
  none_left w (d ∷ ds) h = absurd (omega arith)

  -- one edge, and on
  one_more : (n x : ℕ) (ds : List Edge) (d : Edge) (es rest : List Edge) → Parts near x ds (taken d es)
      → Turned near far n (far d) es rest → Turned near far (suc n) x ds rest
  unfolding total
  one_more n x ds d es rest h t = record {
    path = d ∷ t.path;
    end = t.end;
    walk = (h.0, t.walk);
    sum = λ w. omega (arith, h.1 w, t.sum w);
    stuck = λ l. t.stuck (omega (arith, h.1 (λ e. 1), length_total ds, length_total es));
  }

  pub turned : (n x : ℕ) (ds : List Edge) → Turned near far n x ds (turn n x ds)
  turned zero x ds =
      subst (Turned near far zero x ds) (sym (law.turn_zero x ds)) (stop zero x ds (λ h. none_left (λ d. same x (near d)) ds h))
  turned (suc n) x ds = go (pick x ds) refl (parts x ds) (λ d es. turned n (far d) es)
    where
      go : (r : Taken) → pick x ds ≡ r → Parts near x ds r
          → ((d : Edge) (es : List Edge) → Turned near far n (far d) es (turn n (far d) es))
          → Turned near far (suc n) x ds (turn (suc n) x ds)
      go no_edge e h k = subst (Turned near far (suc n) x ds) (sym (law.turn_stop n x ds e)) (stop (suc n) x ds (λ l. h))
      go (taken d es) e h k =
          subst (Turned near far (suc n) x ds) (sym (law.turn_more n x ds d es e))
          (one_more n x ds d es (turn n (far d) es) h (k d es))
