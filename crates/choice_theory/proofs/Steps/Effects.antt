-- A surgery is what the table of operations says of the rings shown: the table allows the operation, and builds the triangle b a c.
-- Assumes nothing.
use Prim.Native.Nat.{ℕ, suc, ◌+◌, ◌-◌, ◌≤◌}
use native.Mathlib.Omega.{arith}
use mathlib.Core.Bool.{Bool, true, false, ◌&&◌, not, false≢true}
use mathlib.Core.List.{List, [], ◌∷◌, ◌++◌}
use mathlib.Core.Logic.{inl}
use mathlib.Core.Path.{◌≡◌, refl, sym, ap, ap₂, ◌∙◌, subst}
use lib.ListN.{length, take, drop, length-append}
use lib.Dec.{eqb, ltb, leb}
use borrow.Author.Tests.{lt-ltb, le-leb, eqb-true}
use Rattle.rules.specs.declared.Operation.{Operation}
use Rattle.rules.specs.declared.Operation.TheVariants.{New, Forward, Backward, Border, Split, Close, Union}
use Rattle.rules.specs.Triangle.{edge}
use Rattle.rules.specs.Ring.{Node, opened, marked, Ring, vertex, is_open, all_open, start_or, vertex_at, last_open, last_vertex, front}
use Rattle.rules.specs.Ring.{loop_at}
use Rattle.rules.specs.Ring.{without, reached, shown}
use Rattle.rules.specs.Table.{glued, fresh, Effect, builds, marks, allowed, in_order, shorter_first, marking, at_edge}
use Rattle.book.specs.Shown.{shown_all}
use Rattle.book.proofs.Shown.{Stays, Live, reached_append, reached_first, reached_cut, border_shown, backward_shown, reached_some, take_cut}
use Rattle.book.proofs.Shown.{drop_cut, all_shown_append, all_shown_length, live_split, shown_start, waiting_shown}
use Rattle.book.proofs.Parts.{building_of, marking_of}
use Rattle.choice_theory.specs.Full.{fewer_first, with_ring, new_numbers}
use Rattle.choice_theory.proofs.Steps.Surgery.{triangle_at, after_border, Surgery, on_new, on_forward, on_backward, on_close, on_split}
use Rattle.choice_theory.proofs.Steps.Surgery.{on_union}
use Rattle.choice_theory.proofs.Steps.Tally.{glues_a, glues_b, side_of, unions_of}
use Rattle.counting.proofs.Bools.{and_both}

allowed_true : (b : Bool) (ef : Effect) → b ≡ true → allowed b ef ≡ ef
unfolding allowed
allowed_true b ef h = ap (λ (t : Bool). allowed t ef) h

pub and_none : (a b : Bool) → (a ≡ true → b ≡ true → ⊥) → a && b ≡ false
and_none true true h = absurd (h refl refl)
and_none true false h = refl
and_none false b h = refl

pub not_both : (a b : Bool) → (a ≡ true → b ≡ true → ⊥) → not (a && b) ≡ true
not_both a b h = ap not (and_none a b h)

-- lists cut at a place
pub vertex_cut : (us : List Node) (p : Node) (vs : List Node) → vertex_at (us ++ (p ∷ vs)) (length us) ≡ vertex p
unfolding vertex_at
vertex_cut [] p vs = refl
vertex_cut (u ∷ us) p vs = vertex_cut us p vs

pub loop_cut : (before : List Ring) (l : Ring) (behind : List Ring) → loop_at (before ++ (l ∷ behind)) (length before) ≡ l
unfolding loop_at
loop_cut [] l behind = refl
loop_cut (b ∷ before) l behind = loop_cut before l behind

pub without_cut : (before : List Ring) (l : Ring) (behind : List Ring) → without (before ++ (l ∷ behind)) (length before) ≡ before ++ behind
unfolding without
without_cut [] l behind = refl
without_cut (b ∷ before) l behind = ap (λ (k : List Ring). b ∷ k) (without_cut before l behind)

-- lists with a last place
pub last_vertex_lem : (us : List Node) (p : Node) → last_vertex (us ++ (p ∷ [])) ≡ vertex p
unfolding last_vertex
last_vertex_lem [] p = refl
last_vertex_lem (u ∷ []) p = refl
last_vertex_lem (u ∷ (v ∷ us)) p = last_vertex_lem (v ∷ us) p

pub last_open_lem : (us : List Node) (p : Node) → last_open (us ++ (p ∷ [])) ≡ is_open p
unfolding last_open
last_open_lem [] p = refl
last_open_lem (u ∷ []) p = refl
last_open_lem (u ∷ (v ∷ us)) p = last_open_lem (v ∷ us) p

pub front_of_lem : (us : List Node) (p : Node) → front (us ++ (p ∷ [])) ≡ us
unfolding front
front_of_lem [] p = refl
front_of_lem (u ∷ []) p = refl
front_of_lem (u ∷ (v ∷ us)) p = ap (λ (k : List Node). u ∷ k) (front_of_lem (v ∷ us) p)

pub all_open_lem : (p : Node) (ps : List Node) → is_open p ≡ true → all_open ps ≡ true → all_open (p ∷ ps) ≡ true
unfolding all_open
all_open_lem (opened v) ps h k = k
all_open_lem (marked v) ps h k = h

module _ (u : ℕ) (e f : Node) (ws : List Ring) where
  on_f : (p : Node) (qs : List Node) → is_open f ≡ true
      → (eqb (suc (length (f ∷ (p ∷ qs)))) 3 ≡ true → all_open (f ∷ (p ∷ qs)) ≡ true → ⊥)
      → at_edge Forward u (vertex e) (f ∷ (p ∷ qs)) ws
      ≡ builds (building_of ((opened (vertex e) ∷ (p ∷ qs)) ∷ ws) (triangle_at e f (vertex p)) glued fresh glued 0 0 0)
  unfolding at_edge vertex_at
  on_f p qs h g =
      let k = suc (length (f ∷ (p ∷ qs))) in
      allowed_true _ (builds (building_of ((opened (vertex e) ∷ (p ∷ qs)) ∷ ws) (triangle_at e f (vertex p)) glued fresh glued 0 0 0))
      (and_both (leb 3 k && is_open f) (not (eqb k 3 && all_open (f ∷ (p ∷ qs))))
      (and_both (leb 3 k) (is_open f) (le-leb 3 k (omega arith)) h)
      (not_both (eqb k 3) (all_open (f ∷ (p ∷ qs))) g))

  on_b : (qs : List Node) (p : Node) → is_open p ≡ true
      → (eqb (suc (length (f ∷ (qs ++ (p ∷ []))))) 3 ≡ true → all_open (f ∷ (qs ++ (p ∷ []))) ≡ true → ⊥)
      → at_edge Backward u (vertex e) (f ∷ (qs ++ (p ∷ []))) ws
      ≡ builds (building_of ((opened (vertex p) ∷ (f ∷ qs)) ∷ ws) (triangle_at e f (vertex p)) glued glued fresh 0 0 0)
  unfolding at_edge
  on_b qs p h g =
      let l = (f ∷ qs) ++ (p ∷ []) in
      let k = suc (length l) in
      let n : length l ≡ length (f ∷ qs) + 1 = length-append (f ∷ qs) (p ∷ []) in
      allowed_true _ (builds (building_of ((opened (last_vertex l) ∷ front l) ∷ ws) (triangle_at e f (last_vertex l)) glued glued fresh 0 0
      0))
      (and_both (leb 3 k && last_open l) (not (eqb k 3 && all_open l))
      (and_both (leb 3 k) (last_open l) (le-leb 3 k (omega arith)) (last_open_lem (f ∷ qs) p ∙ h))
      (not_both (eqb k 3) (all_open l) g))
      ∙ ap₂ (λ (v : ℕ) (k : List Node). builds (building_of ((opened v ∷ k) ∷ ws) (triangle_at e f v) glued glued fresh 0 0 0))
      (last_vertex_lem (f ∷ qs) p) (front_of_lem (f ∷ qs) p)

  on_c : (p : Node) → is_open f ≡ true → is_open p ≡ true
      → at_edge Close u (vertex e) (f ∷ (p ∷ [])) ws ≡ builds (building_of ws (triangle_at e f (vertex p)) glued glued glued 0 0 0)
  unfolding at_edge vertex_at all_open
  on_c p h k =
      allowed_true _ (builds (building_of ws (triangle_at e f (vertex p)) glued glued glued 0 0 0))
      (and_both (eqb 3 3) (all_open (f ∷ (p ∷ []))) refl (all_open_lem f (p ∷ []) h (all_open_lem p [] k refl)))

  on_s : (us : List Node) (p : Node) (vs : List Node) → (is_open f ≡ true → 1 ≤ length us) → (is_open p ≡ true → 1 ≤ length vs)
      → at_edge (Split (suc (length us))) u (vertex e) (f ∷ (us ++ (p ∷ vs))) ws
      ≡ builds (building_of (shorter_first (opened (vertex p) ∷ (f ∷ us)) (opened (vertex e) ∷ (p ∷ vs)) ws) (triangle_at e f (vertex p))
      glued
      fresh fresh 0 0 0)
  unfolding at_edge vertex_at
  on_s us p vs lu lv =
      let l = (f ∷ us) ++ (p ∷ vs) in
      let i = suc (length us) in
      let k = suc (length l) in
      let n : length l ≡ suc (length us) + suc (length vs) = length-append (f ∷ us) (p ∷ vs) in
      allowed_true _ (builds (building_of (shorter_first (opened (vertex_at l i) ∷ take i l) (opened (vertex e) ∷ drop i l) ws)
      (triangle_at e f (vertex_at l i)) glued fresh fresh 0 0 0))
      (and_both (leb 1 i && leb (i + 2) k && not (eqb i 1 && is_open f)) (not (eqb (i + 2) k && last_open l))
      (and_both (leb 1 i && leb (i + 2) k) (not (eqb i 1 && is_open f))
      (and_both (leb 1 i) (leb (i + 2) k) (le-leb 1 i (omega arith)) (le-leb (i + 2) k (omega arith)))
      (not_both (eqb i 1) (is_open f) (λ x y. let z = eqb-true i 1 x in let w = lu y in omega arith)))
      (not_both (eqb (i + 2) k) (last_open l) (λ x y. ended_open vs (omega (arith, eqb-true (i + 2) k x)) y lv)))
      ∙ rw (vertex_cut us p vs, take_cut us (p ∷ vs), drop_cut us (p ∷ vs)) refl
    where
      ended_open : (ks : List Node) → length ks ≡ 0 → last_open ((f ∷ us) ++ (p ∷ ks)) ≡ true → (is_open p ≡ true → 1 ≤ length ks) → ⊥
      ended_open [] h g m = let z = m (sym (last_open_lem (f ∷ us) p) ∙ g) in omega arith
      ended_open (k ∷ ks) h g m = omega arith

  on_u : (before : List Ring) (us : List Node) (p : Node) (vs : List Node) (behind : List Ring) (ps : List Node)
      → at_edge (Union (suc (length before)) (length us)) u (vertex e) (f ∷ ps) (before ++ ((us ++ (p ∷ vs)) ∷ behind))
      ≡ builds (building_of ((opened (vertex p) ∷ (f ∷ (ps ++ (opened (vertex e) ∷ (p ∷ (vs ++ us)))))) ∷ (before ++ behind))
      (triangle_at e f (vertex p)) glued fresh fresh 0 0 1)
  unfolding at_edge
  on_u before us p vs behind ps =
      let all = before ++ ((us ++ (p ∷ vs)) ∷ behind) in
      let k = suc (length before) - 1 in
      let j = length us in
      let pred : k ≡ length before = omega arith in
      let at : loop_at all k ≡ us ++ (p ∷ vs) = ap (loop_at all) pred ∙ loop_cut before (us ++ (p ∷ vs)) behind in
      let n : length all ≡ length before + suc (length behind) = length-append before ((us ++ (p ∷ vs)) ∷ behind) in
      let m : length (loop_at all k) ≡ length us + suc (length vs) = ap length at ∙ length-append us (p ∷ vs) in
      allowed_true _
      (builds (building_of ((opened (vertex_at (loop_at all k) j)
      ∷ (f ∷ (ps ++ (opened (vertex e) ∷ (drop j (loop_at all k) ++ take j (loop_at all k)))))) ∷ without all k)
      (triangle_at e f (vertex_at (loop_at all k) j)) glued fresh fresh 0 0 1))
      (and_both (leb 1 (suc (length before)) && leb (suc (length before)) (length all)) (ltb j (length (loop_at all k)))
      (and_both (leb 1 (suc (length before))) (leb (suc (length before)) (length all)) (le-leb 1 (suc (length before)) (omega arith))
      (le-leb (suc (length before)) (length all) (omega arith)))
      (lt-ltb j (length (loop_at all k)) (omega arith)))
      ∙ (ap₂
      (λ (l : List Node) (r : List Ring).
      builds (building_of ((opened (vertex_at l j) ∷ (f ∷ (ps ++ (opened (vertex e) ∷ (drop j l ++ take j l))))) ∷ r)
      (triangle_at e f (vertex_at l j)) glued fresh fresh 0 0 1))
      at (ap (without all) pred ∙ without_cut before (us ++ (p ∷ vs)) behind)
      ∙ rw (vertex_cut us p vs, take_cut us (p ∷ vs), drop_cut us (p ∷ vs)) refl)

-- the effect of an operation that builds
abbrev pub built : Operation → Node → Node → List Ring → ℕ → Effect
built o e f ls c = builds
    (building_of ls (triangle_at e f c) glued (side_of (glues_a o)) (side_of (glues_b o)) (new_numbers o) 0 (unions_of o))

moved : (o : Operation) (e f : Node) {ls ls' : List Ring} {c c' : ℕ} → ls ≡ ls' → c ≡ c' → built o e f ls' c' ≡ built o e f ls c
moved o e f h k = ap₂ (built o e f) (sym h) (sym k)

-- all but three places, or one of the edges is marked: then close is not what is meant
pub not_forward : (f p q : Node) (qs : List Node) → eqb (suc (length (f ∷ (p ∷ reached (q ∷ qs) (not (is_open p)))))) 3 ≡ true
    → all_open (f ∷ (p ∷ reached (q ∷ qs) (not (is_open p)))) ≡ true → ⊥
unfolding all_open
not_forward (marked w) p q qs h g = false≢true g
not_forward (opened w) (marked v) q qs h g = false≢true g
not_forward (opened w) (opened v) q qs h g =
    let l = reached (q ∷ qs) false in
    let n : 1 ≤ length l = reached_some (q ∷ qs) true refl (omega arith) in
    let z = eqb-true (suc (suc (suc (length l)))) 3 h in
    omega arith

pub not_backward : (f q : Node) (qs : List Node) (p : Node)
    → eqb (suc (length (f ∷ (reached (q ∷ qs) (not (is_open f)) ++ (p ∷ []))))) 3 ≡ true
    → all_open (f ∷ (reached (q ∷ qs) (not (is_open f)) ++ (p ∷ []))) ≡ true → ⊥
unfolding all_open
not_backward (marked w) q qs p h g = false≢true g
not_backward (opened w) q qs p h g =
    let l = reached (q ∷ qs) false in
    let n : 1 ≤ length l = reached_some (q ∷ qs) true refl (omega arith) in
    let m = length-append l (p ∷ []) in
    let z = eqb-true (suc (suc (length (l ++ (p ∷ []))))) 3 h in
    omega arith

-- what is shown of the rings after an operation
module _ (e f : Node) where
  pub shown_forward : (p q : Node) (qs : List Node) → is_open f ≡ true
      → reached (f ∷ (p ∷ (q ∷ qs))) false ≡ f ∷ (p ∷ reached (q ∷ qs) (not (is_open p)))
  shown_forward p q qs h =
      reached_first f (p ∷ (q ∷ qs))
      ∙ ap (λ (k : List Node). f ∷ k) (ap (λ (t : Bool). reached (p ∷ (q ∷ qs)) (not t)) h ∙ reached_first p (q ∷ qs))

  pub shown_backward : (qs : List Node) (p : Node) → is_open p ≡ true
      → reached (f ∷ (qs ++ (p ∷ []))) false ≡ f ∷ (reached qs (not (is_open f)) ++ (p ∷ []))
  unfolding reached
  shown_backward qs p h =
      reached_cut (f ∷ qs) p [] (inl h)
      ∙ (ap (λ (k : List Node). reached (f ∷ qs) false ++ (p ∷ k)) (nothing (not (is_open p)))
      ∙ ap (λ (k : List Node). k ++ (p ∷ [])) (reached_first f qs))
    where
      nothing : (t : Bool) → reached [] t ≡ []
      nothing t = refl

  pub shown_cut : (us : List Node) (p : Node) (vs : List Node) → Stays (f ∷ us) p
      → reached (f ∷ (us ++ (p ∷ vs))) false ≡ f ∷ (reached us (not (is_open f)) ++ (p ∷ reached vs (not (is_open p))))
  shown_cut us p vs h = reached_cut (f ∷ us) p vs h ∙ ap (λ (k : List Node). k ++ (p ∷ reached vs (not (is_open p)))) (reached_first f us)

  -- the two halves of a split
  pub shown_halves : (us : List Node) (p : Node) (vs : List Node) (ws : List Ring)
      → shown_all (fewer_first (opened (vertex p) ∷ (f ∷ us)) (opened (vertex e) ∷ (p ∷ vs)) ws)
      ≡ shorter_first (opened (vertex p) ∷ (f ∷ reached us (not (is_open f)))) (opened (vertex e) ∷ (p ∷ reached vs (not (is_open p))))
      (shown_all ws)
  unfolding in_order
  shown_halves us p vs ws =
      order (leb (length (shown (opened (vertex p) ∷ (f ∷ us)))) (length (shown (opened (vertex e) ∷ (p ∷ vs)))))
      (opened (vertex p) ∷ (f ∷ us)) (opened (vertex e) ∷ (p ∷ vs))
      ∙ ap₂ (λ (k l : List Node). shorter_first (opened (vertex p) ∷ k) (opened (vertex e) ∷ l) (shown_all ws)) (reached_first f us)
      (reached_first p vs)
    where
      order : (t : Bool) (a b : Ring) → shown_all (in_order t a b ws) ≡ in_order t (shown a) (shown b) (shown_all ws)
      order true a b = refl
      order false a b = refl

  -- the ring of a union
  pub shown_union : (ps us : List Node) (p : Node) (vs : List Node) (ls : List Ring) → Live ((us ++ (p ∷ vs)) ∷ ls)
      → reached (f ∷ (ps ++ (opened (vertex e) ∷ (p ∷ (vs ++ us))))) false
      ≡ f ∷ (reached ps (not (is_open f)) ++ (opened (vertex e) ∷ (p ∷ (reached vs (not (is_open p)) ++ reached us false))))
  shown_union ps us p vs ls g =
      shown_cut ps (opened (vertex e)) (p ∷ (vs ++ us)) (inl refl)
      ∙ ap (λ (k : List Node). f ∷ (reached ps (not (is_open f)) ++ (opened (vertex e) ∷ k)))
      (reached_first p (vs ++ us)
      ∙ ap (λ (k : List Node). p ∷ k)
      (reached_append vs us (not (is_open p))
      ∙ ap (λ (k : List Node). reached vs (not (is_open p)) ++ k) (shown_start us (p ∷ vs) ls _ g)))

-- u is the next unused number: new takes it
pub allows_any : (o : Operation) (u : ℕ) (e f : Node) (ps : List Node) (ws ls : List Ring) (c : ℕ) → Live ws → Surgery e f ps ws ls c o
    → (o ≡ New → c ≡ u)
    → at_edge o u (vertex e) (reached (f ∷ ps) false) (shown_all ws) ≡ built o e f (shown_all ls) c
unfolding at_edge reached
allows_any New u e f ps ws ls c g (on_new q) n =
    ap₂ (λ (v : ℕ) (r : List Node). at_edge New v (vertex e) r (shown_all ws)) (sym (n refl)) (reached_first f ps)
    ∙ moved New e f (ap shown_all q
    ∙ ap (λ (r : List Node). (opened c ∷ r) ∷ shown_all ws)
    (backward_shown (f ∷ ps) (vertex e) ∙ ap (λ (r : List Node). r ++ (opened (vertex e) ∷ [])) (reached_first f ps))) refl
allows_any Forward u e f ps ws ls c g (on_forward p q qs sh k op l) n =
    ap (λ (r : List Node). at_edge Forward u (vertex e) r (shown_all ws))
    (ap (λ (r : List Node). reached (f ∷ r) false) sh ∙ shown_forward e f p q qs op)
    ∙ (on_f u e f (shown_all ws) p (reached (q ∷ qs) (not (is_open p))) op (not_forward f p q qs)
    ∙ moved Forward e f (ap shown_all l ∙ ap (λ (r : List Node). (opened (vertex e) ∷ r) ∷ shown_all ws) (reached_first p (q ∷ qs))) k)
allows_any Backward u e f ps ws ls c g (on_backward q qs p sh k op l) n =
    ap (λ (r : List Node). at_edge Backward u (vertex e) r (shown_all ws))
    (ap (λ (r : List Node). reached (f ∷ r) false) sh ∙ shown_backward e f (q ∷ qs) p op)
    ∙ (on_b u e f (shown_all ws) (reached (q ∷ qs) (not (is_open f))) p op (not_backward f q qs p)
    ∙ moved Backward e f (ap shown_all l ∙ ap (λ (r : List Node). (opened (vertex p) ∷ r) ∷ shown_all ws) (reached_first f (q ∷ qs))) k)
allows_any Close u e f ps ws ls c g (on_close p sh k op op' l) n =
    ap (λ (r : List Node). at_edge Close u (vertex e) r (shown_all ws))
    (ap (λ (r : List Node). reached (f ∷ r) false) sh ∙ shown_backward e f [] p op')
    ∙ (on_c u e f (shown_all ws) p op op' ∙ moved Close e f (ap shown_all l) k)
allows_any (Split i) u e f ps ws ls c g (on_split us p vs sh m lu lv k l) n =
    ap₂ (λ (j : ℕ) (r : List Node). at_edge (Split j) u (vertex e) r (shown_all ws)) (sym m.0 ∙ ap length (reached_first f us))
    (ap (λ (r : List Node). reached (f ∷ r) false) sh ∙ shown_cut e f us p vs m.1)
    ∙ (on_s u e f (shown_all ws) (reached us (not (is_open f))) p (reached vs (not (is_open p))) (λ h. reached_some us (is_open f) h lu)
    (λ h. reached_some vs (is_open p) h lv)
    ∙ moved (Split i) e f (ap shown_all l ∙ shown_halves e f us p vs ws) k)
allows_any (Union w j) u e f ps ws ls c g (on_union before us p vs behind sh m i k l) n =
    let g' = (live_split before ((us ++ (p ∷ vs)) ∷ behind) (subst Live sh g)).1 in
    let at : shown_all ws ≡ shown_all before ++ ((reached us false ++ (p ∷ reached vs (not (is_open p)))) ∷ shown_all behind) =
    ap shown_all sh ∙ (all_shown_append before ((us ++ (p ∷ vs)) ∷ behind)
    ∙ ap (λ (r : List Node). shown_all before ++ (r ∷ shown_all behind)) (waiting_shown us p vs behind g' i.1)) in
    ap₂ (λ (h : ℕ) (r : List Ring). at_edge (Union h j) u (vertex e) (reached (f ∷ ps) false) r)
    (sym m ∙ ap suc (sym (all_shown_length before))) at
    ∙ (ap₂
    (λ (h : ℕ) (r : List Node).
    at_edge (Union (suc (length (shown_all before))) h) u (vertex e) r
    (shown_all before ++ ((reached us false ++ (p ∷ reached vs (not (is_open p)))) ∷ shown_all behind)))
    (sym i.0) (reached_first f ps)
    ∙ (on_u u e f (shown_all ws) (shown_all before) (reached us false) p (reached vs (not (is_open p))) (shown_all behind)
    (reached ps (not (is_open f)))
    ∙ moved (Union w j) e f
    (ap shown_all l ∙ ap₂ (λ (r : List Node) (rs : List Ring). (opened (vertex p) ∷ r) ∷ rs) (shown_union e f ps us p vs behind g')
    (all_shown_append before behind)) k))
allows_any Border u e f ps ws ls c g x3 n = elim x3 [ ]
allows_any Rattle.rules.specs.declared.Operation.TheVariants.Start u e f ps ws ls c g x4 n = elim x4 [ ]

-- with the third corner itself as that number
pub allows : (o : Operation) (e f : Node) (ps : List Node) (ws ls : List Ring) (c : ℕ) → Live ws → Surgery e f ps ws ls c o
    → at_edge o c (vertex e) (reached (f ∷ ps) false) (shown_all ws) ≡ built o e f (shown_all ls) c
allows o e f ps ws ls c g s = allows_any o c e f ps ws ls c g s (λ h. refl)

-- what border does, whichever edge comes next
marked_by : (r : Ring) (ws : List Ring) (x y : ℕ)
    → (n : ℕ) × (marking (shown r) (shown_all ws) (edge x y) ≡ marks (marking_of (shown_all (with_ring r ws)) (edge x y) n))
marked_by [] ws x y = (1, refl)
marked_by (p ∷ ps) ws x y = (0, refl)

pub border_marks : (u : ℕ) (e f : Node) (ps : List Node) (ws : List Ring)
    → (n : ℕ) × (at_edge Border u (vertex e) (reached (f ∷ ps) false) (shown_all ws)
    ≡ marks (marking_of (shown_all (with_ring (after_border e f ps) ws)) (edge (vertex e) (vertex f)) n))
unfolding at_edge
border_marks u e f ps ws =
    let r = marked_by (after_border e f ps) ws (vertex e) (vertex f) in (
      r.0,
      ap₂ (λ (k : Ring) (v : ℕ). marking k (shown_all ws) (edge (vertex e) v)) (border_shown (f ∷ ps) (vertex e))
          (ap (start_or (vertex e)) (reached_first f ps)) ∙ r.1,
    )
