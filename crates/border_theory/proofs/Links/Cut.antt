-- A border marks the current edge after two places may have left: the next one, whose own edge is marked, and the current one, where
-- the edge before it is. What comes of it is the ring shown.
-- Assumes nothing.
use Prim.Native.Nat.{ℕ, ◌≤◌}
use native.Mathlib.Omega.{arith}
use mathlib.Core.Bool.{Bool, true, false, not, true≢false}
use mathlib.Core.List.{List, [], ◌∷◌, ◌++◌, append-nil}
use mathlib.Core.Path.{◌≡◌, refl, sym, ap, ap₂, ◌∙◌}
use lib.ListN.{length}
use Rattle.rules.specs.Ring.{Node, opened, marked, is_open, last_open, last_vertex, front, onward, reached, shown}
use Rattle.book.specs.Spaced.{Spaced}
use Rattle.book.proofs.Shown.{ends, reached_append, around}
use Rattle.book.proofs.Spaced.{reached_spaced}
use Rattle.border_theory.proofs.Links.Stores.{cut_next, OpenNext}

ends_last : (p : Node) (qs : List Node) (m : Bool) → ends (p ∷ qs) m ≡ not (last_open (p ∷ qs))
unfolding ends last_open
ends_last p [] m = refl
ends_last p (q ∷ qs) m = ends_last q qs (not (is_open p))

-- what is shown of places whose last edge is followed by the marked one of e
module _ (f e : ℕ) (qs : List Node) (sp : Spaced qs false) where
  tail : (t : Bool) → last_open (opened f ∷ qs) ≡ t → reached (qs ++ (marked e ∷ [])) false ≡ qs ++ reached (marked e ∷ []) (not t)
  unfolding ends
  tail t h =
      reached_append qs (marked e ∷ []) false
      ∙ ap₂ (λ (l : List Node) (m : Bool). l ++ reached (marked e ∷ []) m) (reached_spaced qs false sp)
      (ends_last (opened f) qs false ∙ ap not h)

  tail_kept : last_open (opened f ∷ qs) ≡ true → reached (qs ++ (marked e ∷ [])) false ≡ qs ++ (marked e ∷ [])
  unfolding reached
  tail_kept h = tail true h

  tail_lost : last_open (opened f ∷ qs) ≡ false → reached (qs ++ (marked e ∷ [])) false ≡ qs
  unfolding reached
  tail_lost h = tail false h ∙ append-nil qs

pub front_marked : (ps : List Node) → 1 ≤ length ps → last_open ps ≡ false → front ps ++ (marked (last_vertex ps) ∷ []) ≡ ps
unfolding front last_open last_vertex
front_marked [] k h = absurd (omega arith)
front_marked (opened v ∷ []) k h = absurd (true≢false h)
front_marked (marked v ∷ []) k h = refl
front_marked (p ∷ (q ∷ ps)) k h = ap (λ (l : List Node). p ∷ l) (front_marked (q ∷ ps) (omega arith) h)

-- the current place stays
pub cut_kept : (e : ℕ) (ps : List Node) → Spaced ps false → last_open (opened e ∷ cut_next ps) ≡ true
    → shown (onward [] (ps ++ (marked e ∷ []))) ≡ onward [] (cut_next ps ++ (marked e ∷ []))
unfolding onward last_open
cut_kept e [] sp h = refl
cut_kept e (opened f ∷ qs) sp h =
    let a : List Node = qs ++ (marked e ∷ []) in
    ap (λ (l : List Node). opened f ∷ l)
    (ap (λ (l : List Node). reached l false) (append-nil a) ∙ tail_kept f e qs sp h ∙ sym (append-nil a))
cut_kept e (marked f ∷ []) sp h = refl
cut_kept e (marked f ∷ (opened g ∷ qs)) sp h =
    let a : List Node = qs ++ (marked e ∷ []) in
    ap (λ (l : List Node). opened g ∷ l) (around qs (marked f ∷ []) e (refl, tt) ∙ tail_kept g e qs sp h ∙ sym (append-nil a))
cut_kept e (marked f ∷ (marked g ∷ qs)) sp h = absurd sp

-- it leaves, and the last place is current
pub cut_lost : (e : ℕ) (ps : List Node) → Spaced ps false → last_open (opened e ∷ cut_next ps) ≡ false
    → shown (onward [] (ps ++ (marked e ∷ []))) ≡ onward [] (front (cut_next ps) ++ (marked (last_vertex (cut_next ps)) ∷ []))
unfolding onward last_open
cut_lost e [] sp h = absurd (true≢false h)
cut_lost e (opened f ∷ qs) sp h =
    let a : List Node = qs ++ (marked e ∷ []) in
    ap (λ (l : List Node). opened f ∷ l)
    (ap (λ (l : List Node). reached l false) (append-nil a) ∙ tail_lost f e qs sp h ∙ sym (append-nil qs))
    ∙ ap (onward []) (sym (front_marked (opened f ∷ qs) (omega arith) h))
cut_lost e (marked f ∷ []) sp h = absurd (true≢false h)
cut_lost e (marked f ∷ (opened g ∷ qs)) sp h =
    ap (λ (l : List Node). opened g ∷ l) (around qs (marked f ∷ []) e (refl, tt) ∙ tail_lost g e qs sp h ∙ sym (append-nil qs))
    ∙ ap (onward []) (sym (front_marked (opened g ∷ qs) (omega arith) h))
cut_lost e (marked f ∷ (marked g ∷ qs)) sp h = absurd sp

-- and then the next edge is open
pub next_open : (ps : List Node) → Spaced ps false → OpenNext (cut_next ps)
next_open [] sp = tt
next_open (opened f ∷ qs) sp = refl
next_open (marked f ∷ []) sp = tt
next_open (marked f ∷ (opened g ∷ qs)) sp = refl
next_open (marked f ∷ (marked g ∷ qs)) sp = absurd sp

pub front_open : (ps : List Node) → OpenNext ps → OpenNext (front ps)
unfolding front
front_open [] o = tt
front_open (p ∷ []) o = tt
front_open (p ∷ (q ∷ ps)) o = o
