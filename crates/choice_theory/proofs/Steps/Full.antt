-- What an operation that builds does to the full rings, part by part, is what `full_after` computes.
-- Assumes nothing.
use Prim.Native.Nat.{ℕ, suc, ◌+◌, ◌-◌}
use native.Mathlib.Omega.{arith}
use mathlib.Core.Bool.{Bool, true, false, false≢true}
use mathlib.Core.List.{List, [], ◌∷◌, ◌++◌}
use mathlib.Core.Logic.{◌⊎◌, inl, inr}
use mathlib.Core.Path.{◌≡◌, refl, sym, ap, ap₂, ◌∙◌}
use lib.ListN.{length, take, drop}
use Rattle.rules.specs.declared.Operation.{Operation}
use Rattle.rules.specs.declared.Operation.TheVariants.{New, Forward, Backward, Split, Close, Union}
use Rattle.rules.specs.Ring.{Node, opened, marked, Ring, vertex, is_open, vertex_at, reached, loop_at, without}
use Rattle.book.proofs.Shown.{ends, take_cut, drop_cut}
use Rattle.choice_theory.specs.Full.{full_index, fewer_first, full_at}
use Rattle.choice_theory.proofs.Steps.Surgery.{Surgery, on_new, on_forward, on_backward, on_close, on_split, on_union}
use Rattle.choice_theory.proofs.Steps.Effects.{vertex_cut, loop_cut, without_cut, last_vertex_lem, front_of_lem}

-- the place that stays, found by its number among those shown
cut_index : (us : List Node) (p : Node) (vs : List Node) (m : Bool) → (is_open p ≡ true) ⊎ (ends us m ≡ false)
    → full_index (us ++ (p ∷ vs)) m (length (reached us m)) ≡ length us
unfolding full_index reached ends
cut_index [] (opened v) vs m h = refl
cut_index [] (marked v) vs false h = refl
cut_index [] (marked v) vs true (inl h) = absurd (false≢true h)
cut_index [] (marked v) vs true (inr h) = absurd (false≢true (sym h))
cut_index (opened v ∷ us) p vs m h = ap suc (cut_index us p vs false h)
cut_index (marked v ∷ us) p vs true h = ap suc (cut_index us p vs true h)
cut_index (marked v ∷ us) p vs false h = ap suc (cut_index us p vs true h)

-- an operation that builds does to the full rings what `full_after` says
pub surgery_full : {e f : Node} {ps : List Node} {ws ls : List Ring} {c : ℕ} (u : ℕ) (o : Operation) → Surgery e f ps ws ls c o
    → (o ≡ New → c ≡ u)
    → ls ≡ full_at o u e (f ∷ ps) ws
unfolding full_at
surgery_full {e} {f} {ps} {ws} u New (on_new q) n = q ∙ ap (λ (v : ℕ). (opened v ∷ (f ∷ (ps ++ (opened (vertex e) ∷ [])))) ∷ ws) (n refl)
surgery_full {e} {ws = ws} u Forward (on_forward p q qs sh k op l) n = l ∙ ap (λ (qs : List Node). (opened (vertex e) ∷ qs) ∷ ws) (sym sh)
surgery_full {f = f} {ws = ws} u Backward (on_backward q qs p sh k op l) n =
    l
    ∙ ap₂ (λ (v : ℕ) (qs : List Node). (opened v ∷ qs) ∷ ws) (sym (last_vertex_lem (f ∷ (q ∷ qs)) p)) (sym (front_of_lem (f ∷ (q ∷ qs)) p))
    ∙ ap (λ (r : List Node). full_at Backward u f (f ∷ r) ws) (sym sh)
surgery_full u Close (on_close p sh k op op' l) n = l
surgery_full {e} {f} {ws = ws} u (Split i) (on_split us p vs sh m lu lv k l) n =
    let qs : List Node = f ∷ us in
    let at : full_index (qs ++ (p ∷ vs)) false i ≡ length qs =
    ap (full_index (qs ++ (p ∷ vs)) false) (sym m.0) ∙ cut_index qs p vs false m.1 in
    let cut : ℕ → List Ring =
    λ j. fewer_first (opened (vertex_at (qs ++ (p ∷ vs)) j) ∷ take j (qs ++ (p ∷ vs))) (opened (vertex e) ∷ drop j (qs ++ (p ∷ vs))) ws in
    l
    ∙ sym (rw (vertex_cut qs p vs, take_cut qs (p ∷ vs), drop_cut qs (p ∷ vs)) refl)
    ∙ ap cut (sym at)
    ∙ ap (λ (r : List Node). full_at (Split i) u e (f ∷ r) ws) (sym sh)
surgery_full {e} {f} {ps} u (Union w j) (on_union before us p vs behind sh m i k l) n =
    let ring : Ring = us ++ (p ∷ vs) in
    let all : List Ring = before ++ (ring ∷ behind) in
    let joined : Ring → ℕ → List Ring → List Ring =
    λ r x rest. (opened (vertex_at r x) ∷ (f ∷ (ps ++ (opened (vertex e) ∷ (drop x r ++ take x r))))) ∷ rest in
    let at : full_index ring false j ≡ length us = ap (full_index ring false) (sym i.0) ∙ cut_index us p vs false i.1 in
    let pred : length before ≡ w - 1 = omega (arith, m) in
    l
    ∙ sym (rw (vertex_cut us p vs, take_cut us (p ∷ vs), drop_cut us (p ∷ vs)) refl)
    ∙ ap (λ (x : ℕ). joined ring x (before ++ behind)) (sym at)
    ∙ ap₂ (λ (r : Ring) (rest : List Ring). joined r (full_index r false j) rest) (sym (loop_cut before ring behind))
    (sym (without_cut before ring behind))
    ∙ ap (λ (x : ℕ). joined (loop_at all x) (full_index (loop_at all x) false j) (without all x)) pred
    ∙ ap (full_at (Union w j) u e (f ∷ ps)) (sym sh)
surgery_full {e = e} {f = f} {ps = ps} {ws = ws} {ls = ls} {c = c} u Rattle.rules.specs.declared.Operation.TheVariants.Border x'' n =
    elim x'' [ ]
surgery_full {e = e} {f = f} {ps = ps} {ws = ws} {ls = ls} {c = c} u Rattle.rules.specs.declared.Operation.TheVariants.Start x3 n =
    elim x3 [ ]
