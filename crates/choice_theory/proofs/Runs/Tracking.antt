-- What the machine and the packer count along a run: the peaks, the limits, the numbers given to vertices.
-- Assumes nothing.
use Prim.Native.Nat.{ℕ, zero, suc, ◌≤◌, max}
use native.Mathlib.Omega.{arith}
use mathlib.Core.List.{List, [], ◌∷◌, ◌++◌, append_assoc}
use mathlib.Core.Path.{◌≡◌, refl, sym, ap, ◌∙◌}
use lib.ListN.{length}
use Rattle.rules.specs.declared.Triangle.{Triangle}
use Rattle.rules.specs.declared.Operation.{Operation}
use Rattle.rules.specs.declared.Operation.TheVariants.{New, Forward, Backward, Border, Split, Close, Union, Start}
use Rattle.rules.specs.Ring.{places, opened, Ring}
use Rattle.rules.specs.Choice.{Packing}
use Rattle.rules.specs.Pack.{index_of}
use Rattle.book.specs.Shown.{shown_all}
use Rattle.choice_theory.specs.Full.{with_ring, new_numbers}
use Rattle.choice_theory.proofs.Steps.Surgery.{after_border}
use Rattle.choice_theory.proofs.Runs.Machine.{Run, r_done, r_start, r_build, r_border}

-- the ring of a first triangle
abbrev pub first_ring : ℕ → ℕ → ℕ → List Ring
first_ring p q r = (opened p ∷ (opened q ∷ (opened r ∷ []))) ∷ []

-- what is counted of the rings shown
abbrev pub shown_places : List Ring → ℕ
shown_places ls = places (shown_all ls)

abbrev pub shown_loops : List Ring → ℕ
shown_loops ls = length (shown_all ls)

-- the peak of something that the loops have, from a on
abbrev pub peak : {M : List Triangle} → (List Ring → ℕ) → ℕ
    → {B : List Triangle} {rims ls : List Ring} {os : List Operation} {R : List Triangle} → Run M B rims ls os R → ℕ
peak w a r_done = a
peak w a (r_start {p = p} {q = q} {r = r} np nq nr d run) = peak w (max a (w (first_ring p q r))) run
peak w a (r_build {ls = ls} v s ra rb d new run) = peak w (max a (w ls)) run
peak w a (r_border {ws = ws} {e = e} {f = f} {ps = ps} v run) = peak w (max a (w (with_ring (after_border e f ps) ws))) run

-- it is never above a limit
abbrev pub Within : (List Ring → ℕ) → ℕ → {M B : List Triangle} {rims ls : List Ring} {os : List Operation} {R : List Triangle}
    → Run M B rims ls os R → Type 0
Within w k r_done = Unit {0}
Within w k (r_start {p = p} {q = q} {r = r} np nq nr d run) = (w (first_ring p q r) ≤ k) × Within w k run
Within w k (r_build {ls = ls} v s ra rb d new run) = (w ls ≤ k) × Within w k run
Within w k (r_border {ws = ws} {e = e} {f = f} {ps = ps} v run) = (w (with_ring (after_border e f ps) ws) ≤ k) × Within w k run

-- the vertices that have numbers, after an operation with the third corner c
abbrev pub numbered_after : Operation → ℕ → List ℕ → List ℕ
numbered_after New c vs = vs ++ (c ∷ [])
numbered_after Forward c vs = vs
numbered_after Backward c vs = vs
numbered_after Border c vs = vs
numbered_after (Split i) c vs = vs
numbered_after Close c vs = vs
numbered_after (Union n j) c vs = vs
numbered_after Start c vs = vs

pub same_numbers : (o : Operation) (c : ℕ) (vs : List ℕ) → new_numbers o ≡ 0 → numbered_after o c vs ≡ vs
same_numbers New c vs h = absurd (omega arith)
same_numbers Forward c vs h = refl
same_numbers Backward c vs h = refl
same_numbers Border c vs h = refl
same_numbers (Split i) c vs h = refl
same_numbers Close c vs h = refl
same_numbers (Union n j) c vs h = refl
same_numbers Start c vs h = refl

-- and at the end of the run
abbrev pub numbering : {M : List Triangle} → List ℕ → {B : List Triangle} {rims ls : List Ring} {os : List Operation} {R : List Triangle}
    → Run M B rims ls os R → List ℕ
numbering vs r_done = vs
numbering vs (r_start {p = p} {q = q} {r = r} np nq nr d run) = numbering (vs ++ (p ∷ (q ∷ (r ∷ [])))) run
numbering vs (r_build {c = c} {o = o} v s ra rb d new run) = numbering (numbered_after o c vs) run
numbering vs (r_border v run) = numbering vs run

-- the numbers below n, in their order
abbrev pub up_to : ℕ → List ℕ
up_to zero = []
up_to (suc n) = up_to n ++ (n ∷ [])

-- a name for each vertex agrees with the numbers: each vertex gets the next one
abbrev pub Agrees : {M : List Triangle} → (ℕ → ℕ) → List ℕ
    → {B : List Triangle} {rims ls : List Ring} {os : List Operation} {R : List Triangle} → Run M B rims ls os R → Type 0
Agrees name vs r_done = Unit {0}
Agrees name vs (r_start {p = p} {q = q} {r = r} np nq nr d run) =
    ((name p ≡ length vs) × (name q ≡ suc (length vs)) × (name r ≡ suc (suc (length vs)))) × Agrees name (vs ++ (p ∷ (q ∷ (r ∷ [])))) run
Agrees name vs (r_build {c = c} {o = o} v s ra rb d new run) = (o ≡ New → name c ≡ length vs) × Agrees name (numbered_after o c vs) run
Agrees name vs (r_border v run) = Agrees name vs run

append-nil : (xs : List ℕ) → xs ++ [] ≡ xs
append-nil [] = refl
append-nil (x ∷ xs) = ap (λ (l : List ℕ). x ∷ l) (append-nil xs)

after_grows : (o : Operation) (c : ℕ) (vs : List ℕ) → (ws : List ℕ) × (numbered_after o c vs ≡ vs ++ ws)
after_grows New c vs = (c ∷ [], refl)
after_grows Forward c vs = ([], sym (append-nil vs))
after_grows Backward c vs = ([], sym (append-nil vs))
after_grows Border c vs = ([], sym (append-nil vs))
after_grows (Split i) c vs = ([], sym (append-nil vs))
after_grows Close c vs = ([], sym (append-nil vs))
after_grows (Union n j) c vs = ([], sym (append-nil vs))
after_grows Start c vs = ([], sym (append-nil vs))

-- the numbers that are given stay
pub numbering_grows : {M B : List Triangle} {rims ls : List Ring} {os : List Operation} {R : List Triangle} (run : Run M B rims ls os R)
    (vs : List ℕ)
    → (ws : List ℕ) × (numbering vs run ≡ vs ++ ws)
numbering_grows r_done vs = ([], sym (append-nil vs))
numbering_grows (r_start {p = p} {q = q} {r = r} np nq nr d run) vs =
    let h = numbering_grows run (vs ++ (p ∷ (q ∷ (r ∷ [])))) in (p ∷ (q ∷ (r ∷ h.0)), h.1 ∙ append_assoc vs (p ∷ (q ∷ (r ∷ []))) h.0)
numbering_grows (r_build {c = c} {o = o} v s ra rb d new run) vs =
    let h = numbering_grows run (numbered_after o c vs) in
    let k = after_grows o c vs in
    (k.0 ++ h.0, h.1 ∙ (ap (λ (l : List ℕ). l ++ h.0) k.1 ∙ append_assoc vs k.0 h.0))
numbering_grows (r_border v run) vs = numbering_grows run vs

-- a run from loops ls with n triangles left, the peaks a and b and the numbered vertices vs to the packing `last`
pub record RunsAt (last : Packing) (M B : List Triangle) (rims : List Ring) (os : List Operation) (ls : List Ring) (n a b : ℕ)
    (vs : List ℕ) : Type 0 where
  pub order : List Triangle
  pub count : length order ≡ n
  pub run : Run M B rims ls os order
  pub most_places_lem : last.most_places ≡ peak shown_places a run
  pub most_loops_lem : last.most_loops ≡ peak shown_loops b run
  pub numbers : last.numbered ≡ numbering vs run
  pub agrees : Agrees (λ (v : ℕ). index_of v last.numbered) vs run

-- ls are the full rings of which the packing has those shown
abbrev pub Runs : Packing → List Ring → Packing → List Triangle → List Triangle → List Ring → List Operation → Type 0
Runs s ls last M B rims os = RunsAt last M B rims os ls (length s.left) s.most_places s.most_loops s.numbered

-- a peak is not below any value of the run
peak_more : {M B : List Triangle} (w : List Ring → ℕ) (a : ℕ) {rims ls : List Ring} {os : List Operation} {R : List Triangle}
    (run : Run M B rims ls os R) → a ≤ peak w a run
peak_more w a r_done = omega arith
peak_more w a (r_start {p = p} {q = q} {r = r} np nq nr d run) = let h = peak_more w (max a (w (first_ring p q r))) run in omega arith
peak_more w a (r_build {ls = ls} v s ra rb d new run) = let h = peak_more w (max a (w ls)) run in omega arith
peak_more w a (r_border {ws = ws} {e = e} {f = f} {ps = ps} v run) = let h =
    peak_more w (max a (w (with_ring (after_border e f ps) ws))) run in omega arith

pub peak_within : {M B : List Triangle} (w : List Ring → ℕ) (a k : ℕ) {rims ls : List Ring} {os : List Operation} {R : List Triangle}
    (run : Run M B rims ls os R)
    → peak w a run ≤ k → Within w k run
peak_within w a k r_done h = tt
peak_within w a k (r_start {p = p} {q = q} {r = r} np nq nr d run) h =
    let x = max a (w (first_ring p q r)) in let l = peak_more w x run in (omega arith, peak_within w x k run h)
peak_within w a k (r_build {ls = ls} v s ra rb d new run) h = let x = max a (w ls) in let l = peak_more w x run in
    (omega arith, peak_within w x k run h)
peak_within w a k (r_border {ws = ws} {e = e} {f = f} {ps = ps} v run) h =
    let x = max a (w (with_ring (after_border e f ps) ws)) in let l = peak_more w x run in (omega arith, peak_within w x k run h)
