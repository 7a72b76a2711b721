-- After an operation's stores the memory holds its rings of places, whose current edges are open, and their names are its loops: once for
-- all operations.
-- Assumes nothing.
use Prim.Native.Nat.{ℕ, zero, suc, ◌+◌, ◌-◌, ◌*◌, ◌≤◌, ◌<◌}
use native.Mathlib.Omega.{arith}
use native.Mathlib.Numerals.{add-one}
use mathlib.Core.Bool.{false}
use mathlib.Core.List.{List, [], ◌∷◌}
use mathlib.Core.Path.{◌≡◌, refl, sym, ap, ◌∙◌, subst}
use lib.ListN.{length, get_or}
use lib.Seq.{get_or-set_same, get_or-set_other}
use Rattle.rules.specs.declared.Operation.{Operation}
use Rattle.rules.specs.Count.{same}
use Rattle.rules.specs.Ring.{Node, opened, Ring}
use Rattle.rules.specs.Table.{Effect, not_allowed, builds, marks, at_edge, effect}
use Rattle.book.specs.Consistent.{AllCurrent}
use Rattle.book.proofs.Effects.{Law, effect_law}
use Rattle.book.specs.Sums.{placed}
use Rattle.border_theory.specs.Links.Held.{Memory, Holds, named_ring, named_loops}
use Rattle.border_theory.proofs.Links.Relink.{stored}
use Rattle.border_theory.proofs.Links.Stores.{places_after, stores, vertices_after, HasLoops, Takes, Whole, Fits}
use Rattle.border_theory.proofs.Links.Stored.{held}
use Rattle.border_theory.proofs.Links.Loops.{has_loops}
use Rattle.border_theory.proofs.Links.After.{Unless, fits}
use Rattle.border_theory.proofs.Links.Named.{named_first_open, named_spaced, spaced_named}
use Rattle.cutborder.specs.declared.Loops.{Loops}
use Rattle.border_theory.specs.Memory.Layout.{at, vertices_of, links_of, stacked, freed}
use Rattle.border_theory.specs.Memory.Stands.{Waits, StandsAt}
use Rattle.border_theory.specs.Memory.Moves.{Held}
use Rattle.border_theory.proofs.Memory.Columns.{column_length, links_long}
use Rattle.border_theory.proofs.Memory.Standing.{apart, below}

-- the operation is allowed
abbrev pub Goes : Effect → Type 0
Goes not_allowed = ⊥
Goes (builds x) = Unit {0}
Goes (marks x) = Unit {0}

pub goes_so : (P : Type 0) (E : Effect) → Unless P E → Goes E → P
goes_so P not_allowed h g = absurd g
goes_so P (builds x) h g = h
goes_so P (marks x) h g = h

pub current_has : (u : ℕ) (before ls : List Ring) (E : Effect) → HasLoops ls E → Law u before E → Goes E → AllCurrent ls
current_has u before ls not_allowed h l g = absurd g
current_has u before ls (builds x) h l g = subst AllCurrent (sym h) l.current
current_has u before ls (marks x) h l g = subst AllCurrent (sym h) l.current

pub current_places : (vs : List ℕ) (rs : List Ring) → AllCurrent (named_loops vs rs) → AllCurrent rs
unfolding named_loops
current_places vs [] h = tt
current_places vs (l ∷ ls) h = (sym (named_first_open vs l) ∙ h.0, current_places vs ls h.1, spaced_named vs l false h.2)

pub current_names : (vs : List ℕ) (rs : List Ring) → AllCurrent rs → AllCurrent (named_loops vs rs)
unfolding named_loops
current_names vs [] h = tt
current_names vs (l ∷ ls) h = (named_first_open vs l ∙ h.0, current_names vs ls h.1, named_spaced vs l false h.2)

-- the loops of an effect stand in the memory, as these rings of places
pub record Moved (n : ℕ) (s : Loops) (m : List ℕ) (h : Held) (rings : List Ring) (E : Effect) : Type 0 where
  pub lengths : length h.memory ≡ length m
  -- nothing changes past the waiting loops
  pub rest : (i : ℕ) → 5 * n + 2 * s.live ≤ i → at h.memory i ≡ at m i
  -- nor in the part of the stack that stays
  pub stack : (j : ℕ) → j < s.free → j < h.loops.free → at h.memory (4 * n + j) ≡ at m (4 * n + j)
  pub stands : StandsAt n h.loops h.memory rings
  pub loops : HasLoops (named_loops (vertices_of n h.memory) rings) E

-- what an operation would do to the loop of places e, ps and those that wait, named by their vertices
abbrev pub effect_at : Operation → ℕ → ℕ → List ℕ → ℕ → List Node → List Ring → Effect
effect_at o u n m e ps ws = at_edge o u (get_or (vertices_of n m) e 0) (named_ring (vertices_of n m) ps) (named_loops (vertices_of n m) ws)

-- the memory after the stores
pub record Relinked (n : ℕ) (m : List ℕ) (rs : List Ring) (E : Effect) : Type 0 where
  pub holds : Holds (links_of n m) rs
  pub current : AllCurrent rs
  pub loops : HasLoops (named_loops (vertices_of n m) rs) E

module _ (o : Operation) (n : ℕ) (s : Loops) (m : List ℕ) (u q e : ℕ) (ps : List Node) (ws : List Ring)
    (st : StandsAt n s m ((opened e ∷ ps) ∷ ws)) (goes : Goes (effect_at o u n m e ps ws)) where
  pub fit : Fits o ps ws
  fit =
      goes_so (Fits o ps ws) (effect_at o u n m e ps ws)
      (fits o (vertices_of n m) u (get_or (vertices_of n m) e 0) ps ws) goes

  pub law : Law u (named_loops (vertices_of n m) ((opened e ∷ ps) ∷ ws)) (effect_at o u n m e ps ws)
  unfolding effect named_loops named_ring
  law =
      effect_law o u (named_loops (vertices_of n m) ((opened e ∷ ps) ∷ ws))
      (current_names (vertices_of n m) ((opened e ∷ ps) ∷ ws) st.sound)

  pub relinked : Whole o → (Takes o → (placed q ((opened e ∷ ps) ∷ ws) ≡ 0) × (q < n)) → (m₁ : List ℕ)
      → links_of n m₁ ≡ stored (stores o q e ps ws) (links_of n m)
      → vertices_of n m₁ ≡ vertices_after o u q (vertices_of n m) ps ws
      → Relinked n m₁ (places_after o q e ps ws) (effect_at o u n m e ps ws)
  relinked whole free m₁ el ev =
      let rs : List Ring = (opened e ∷ ps) ∷ ws in
      let d = held o n (links_of n m) (links_long n m) q e ps ws (apart n s m rs st) free (below n s m rs st) st.holds fit in
      let has : HasLoops (named_loops (vertices_of n m₁) (places_after o q e ps ws)) (effect_at o u n m e ps ws) =
      rw ev
      (has_loops o whole (vertices_of n m) u q e ps ws (λ t. ((free t).0, rw (column_length m 0 n) (free t).1))) in
      record {
        holds = subst (λ (M : Memory). Holds M (places_after o q e ps ws)) (sym el) d.holds;
        current = current_places (vertices_of n m₁) (places_after o q e ps ws)
            (current_has u (named_loops (vertices_of n m) ((opened e ∷ ps) ∷ ws))
            (named_loops (vertices_of n m₁) (places_after o q e ps ws))
            (effect_at o u n m e ps ws) has law goes);
        loops = has;
      }

-- the stack of free places
module _ (n : ℕ) (x : ℕ) where
  pub stacked_same : (m m' : List ℕ) (k : ℕ) → ((i : ℕ) → i < k → at m' (4 * n + i) ≡ at m (4 * n + i)) → stacked n m' k x ≡ stacked n m k x
  unfolding stacked
  stacked_same m m' zero h = refl
  stacked_same m m' (suc k) h = omega (arith, ap (same x) (h k (omega arith)), stacked_same m m' k (λ i l. h i (omega arith)))

  pub stacked_top : (m : List ℕ) (k : ℕ) → 1 ≤ k → stacked n m k x ≡ same x (at m (4 * n + (k - 1))) + stacked n m (k - 1) x
  unfolding stacked
  stacked_top m zero h = absurd (omega arith)
  stacked_top m (suc k) h = let e : suc k - 1 ≡ k = omega arith in rw e

  pub stacked_freed : (m : List ℕ) (k p : ℕ) → 4 * n + k < length m → stacked n (freed n m k p) (k + 1) x ≡ same x p + stacked n m k x
  stacked_freed m k p h =
      let e : stacked n (freed n m k p) (suc k) x ≡ same x (at (freed n m k p) (4 * n + k)) + stacked n (freed n m k p) k x =
      unfold stacked in refl in
      rw (add-one k)
      (omega (
        arith,
        e,
        ap (same x) (get_or-set_same m (4 * n + k) p 0 h),
        stacked_same m (freed n m k p) k (λ i l. get_or-set_other m (4 * n + k) (4 * n + i) p 0 (λ z. omega (arith, z))),
      ))

-- the waiting loops stay where only numbers before them change
pub waits_same : (n : ℕ) (m m' : List ℕ) → ((i : ℕ) → 5 * n ≤ i → at m' i ≡ at m i) → (ws : List Ring) → Waits n m ws → Waits n m' ws
waits_same n m m' h [] w = tt
waits_same n m m' h (l ∷ ws) w =
    (h (5 * n + 2 * length ws) (omega arith) ∙ w.0, h (5 * n + 2 * length ws + 1) (omega arith) ∙ w.1, waits_same n m m' h ws w.2)
