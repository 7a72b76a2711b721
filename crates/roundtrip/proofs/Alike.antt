-- Two lists with the same triangles, whatever their order and corners: the packer does the same, if it starts with the same triangles.
-- Assumes nothing.
use Prim.Native.Nat.{ℕ, zero, suc, max}
use native.Mathlib.Omega.{arith}
use mathlib.Core.Bool.{Bool, true, false}
use mathlib.Core.List.{List, [], ◌∷◌, ◌++◌}
use mathlib.Core.Path.{◌≡◌, refl, sym, ap, ap₂, ◌∙◌, subst}
use mathlib.Core.Logic.{◌⊎◌, inl, inr}
use lib.ListN.{length}
use lib.Dec.{leb}
use Rattle.rules.specs.declared.Triangle.{Triangle}
use Rattle.rules.specs.Across.{Across}
use Rattle.rules.specs.Across.{Found, Nothing}
use Rattle.rules.specs.declared.Operation.{Operation}
use Rattle.rules.specs.declared.Operation.TheVariants.{New, Border, Start}
use Rattle.rules.specs.Across.{in_triangle, across}
use Rattle.rules.specs.Ring.{Node, opened, Ring, vertex, start_or, places}
use Rattle.rules.specs.Table.{Effect, not_allowed, builds, marks, at_edge}
use Rattle.rules.specs.Choice.{Packing, has, drop_triangle, turn_in, turn_out, nowhere, spot, spot_of, operation_for, size_of, following}
use Rattle.rules.specs.Choice.{choose_place, Next, ended, refuses, takes, limited, choose, after_current}
use Rattle.rules.specs.Pack.{Chosen, stopped, chosen, cons, choose_all}
use Rattle.rules.specs.Triangle.{at_p, at_q, at_r, In, here, there}
use Rattle.mesh_theory.specs.Fans.Corner.{Once}
use Rattle.mesh_theory.proofs.Fans.Corners.{in_next}
use Rattle.choice_theory.specs.Spots.{Unused}
use Rattle.choice_theory.proofs.Turning.Links.{in_last, free_rot}
use Rattle.choice_theory.proofs.Turning.Ways.{Told, told, across_some, across_none, look, others, others_length, others_sub, others_once}
use Rattle.choice_theory.proofs.Turning.Ways.{others_free}
use Rattle.choice_theory.proofs.Turning.Dropping.{drop_others}
use Rattle.choice_theory.proofs.Turning.Taking.{out}
use Rattle.roundtrip.specs.Run.{start_of, starts_by}
use Rattle.roundtrip.proofs.Wanting.{Want, idle, wants, wanting, want_triangle, want_at, want, doing, choose_want}

-- the same triangles
pub record Same (ts us : List Triangle) : Type 0 where
  pub once : Once ts
  pub once' : Once us
  pub count : length ts ≡ length us
  pub to : (x y z : ℕ) → In x y z ts → In x y z us
  pub from : (x y z : ℕ) → In x y z us → In x y z ts

-- what a look-up tells
pub data SameLook (x y : ℕ) (ts us : List Triangle) : Type 0 where
  both_none : across x y ts ≡ Nothing → across x y us ≡ Nothing → SameLook x y ts us
  both_found : (n k m j z : ℕ) → across x y ts ≡ Found n k z → across x y us ≡ Found m j z → SameLook x y ts us

same_look : (x y : ℕ) (ts us : List Triangle) → Same ts us → SameLook x y ts us
same_look x y ts us s = go (look x y ts)
  where
    go : ((z : ℕ) × In x y z ts) ⊎ Unused x y ts → SameLook x y ts us
    go (inl (z, i)) =
        let a = across_some x y z ts s.once i in
        let b = across_some x y z us s.once' (s.to x y z i) in
        both_found a.number a.corner b.number b.corner z a.found b.found
    go (inr u) = both_none (across_none x y ts u) (across_none x y us (λ z i. u z (s.from x y z i)))

turn_in_same : (n c x : ℕ) (ts us : List Triangle) → Same ts us → turn_in n c x ts ≡ turn_in n c x us
unfolding turn_in
turn_in_same zero c x ts us s = refl
turn_in_same (suc n) c x ts us s = go (same_look x c ts us s) (λ z. turn_in_same n c z ts us s)
  where
    go : SameLook x c ts us → ((z : ℕ) → turn_in n c z ts ≡ turn_in n c z us) → turn_in (suc n) c x ts ≡ turn_in (suc n) c x us
    go (both_none a b) ih = rw (turn_in, a, b) refl
    go (both_found i k m j z a b) ih = rw (turn_in, a, b) (ih z)

turn_out_same : (n c x : ℕ) (ts us : List Triangle) → Same ts us → turn_out n c x ts ≡ turn_out n c x us
unfolding turn_out
turn_out_same zero c x ts us s = refl
turn_out_same (suc n) c x ts us s = go (same_look c x ts us s) (λ z. turn_out_same n c z ts us s)
  where
    go : SameLook c x ts us → ((z : ℕ) → turn_out n c z ts ≡ turn_out n c z us) → turn_out (suc n) c x ts ≡ turn_out (suc n) c x us
    go (both_none a b) ih = rw (turn_out, a, b) refl
    go (both_found i k m j z a b) ih = rw (turn_out, a, b) (ih z)

place_same : (a b c : ℕ) (ts us : List Triangle) (ls : List Ring) → Same ts us → choose_place a b c ts ls ≡ choose_place a b c us ls
unfolding choose_place
place_same a b c ts us ls s =
    let p : turn_in (length ts) c b ts ≡ turn_in (length us) c b us =
    turn_in_same (length ts) c b ts us s ∙ ap (λ (n : ℕ). turn_in n c b us) s.count in
    let q : turn_out (length ts) c a ts ≡ turn_out (length us) c a us =
    turn_out_same (length ts) c a ts us s ∙ ap (λ (n : ℕ). turn_out n c a us) s.count in
    ap₂ (λ (x y : ℕ). elim (spot_of 0 x c ls) [
      | spot l i ↦ operation_for (after_current ls) l (following (size_of ls l) i)
      | nowhere ↦ elim (spot_of 0 c y ls) [ spot l i ↦ operation_for (after_current ls) l i | nowhere ↦ Border ]
    ]) p q

-- the triangle that is built taken out of both
drop_none : (x y : ℕ) (ts : List Triangle) → Unused x y ts → drop_triangle x y ts ≡ ts
unfolding drop_triangle Told
drop_none x y [] u = refl
drop_none x y (t ∷ ts) u = go (in_triangle x y t) (told x y t) (drop_none x y ts (λ z i. u z (there i)))
  where
    go : (m : Across) → Told x y t m → drop_triangle x y ts ≡ ts
        → ◌≡◌ {A = List Triangle} (elim m [ Found n k w ↦ ts | Nothing ↦ t ∷ drop_triangle x y ts ]) (t ∷ ts)
    go (Found n k w) h e = absurd (u w (here h))
    go Nothing h e = ap (λ (l : List Triangle). t ∷ l) e

others_keep : {x y z : ℕ} (ts us : List Triangle) (i : In x y z ts) (j : In x y z us) → Once ts → ((a b c : ℕ) → In a b c ts → In a b c us)
    → (a b c : ℕ) → In a b c (others i) → In a b c (others j)
others_keep {x} {y} {z} ts us i j o to a b c k = go (out j (to a b c (others_sub i k)))
  where
    go : In a b c (record { p = x; q = y; r = z } ∷ others j) → In a b c (others j)
    go (there l) = l
    go (here (at_p e f g)) =
        absurd (others_free ts i o b
        (subst (λ (n : ℕ). In z n b (others i)) (sym e) (subst (λ (n : ℕ). In n a b (others i)) (sym g) (in_last k))))
    go (here (at_q e f g)) =
        absurd (others_free ts i o a
        (subst (λ (n : ℕ). In z n a (others i)) (sym g) (subst (λ (n : ℕ). In n c a (others i)) (sym f) (in_next k))))
    go (here (at_r e f g)) =
        absurd (others_free ts i o c (subst (λ (n : ℕ). In z n c (others i)) (sym f) (subst (λ (n : ℕ). In n b c (others i)) (sym e) k)))

drop_same : (x y : ℕ) (ts us : List Triangle) → Same ts us → Same (drop_triangle x y ts) (drop_triangle x y us)
drop_same x y ts us s = go (look x y ts)
  where
    go : ((z : ℕ) × In x y z ts) ⊎ Unused x y ts → Same (drop_triangle x y ts) (drop_triangle x y us)
    go (inl (z, i)) =
        let j = s.to x y z i in
        rw (drop_others x y z ts i s.once, drop_others x y z us j s.once')
        (record {
          once = others_once ts i s.once;
          once' = others_once us j s.once';
          count = omega (arith, others_length i, others_length j, s.count);
          to = others_keep ts us i j s.once s.to;
          from = others_keep us ts j i s.once' s.from;
        })
    go (inr u) = rw (drop_none x y ts u, drop_none x y us (λ z i. u z (s.from x y z i))) s

-- the same is wanted
pub data SameWant (w w' : Want) : Type 0 where
  both_idle : w ≡ idle → w' ≡ idle → SameWant w w'
  both_want : (o : Operation) (ts us : List Triangle) (vs : List ℕ) (ls : List Ring) → w ≡ wants o ts vs ls → w' ≡ wants o us vs ls
      → Same ts us
      → SameWant w w'

wanting_same : (o : Operation) (ts us : List Triangle) (vs : List ℕ) (ef : Effect) → Same ts us
    → SameWant (wanting o ts vs ef) (wanting o us vs ef)
wanting_same o ts us vs not_allowed s = both_idle refl refl
wanting_same o ts us vs (builds x) s = both_want o ts us vs x.loops refl refl s
wanting_same o ts us vs (marks x) s = both_want o ts us vs x.loops refl refl s

triangle_same : (L L' : List Triangle) (N : List ℕ) (ls : List Ring) (a b c : ℕ) (ps : List Node) (ws : List Ring) (t : Bool) → Same L L'
    → SameWant (want_triangle L N ls a b c ps ws t) (want_triangle L' N ls a b c ps ws t)
triangle_same L L' N ls a b c ps ws false s =
    wanting_same New (drop_triangle b a L) (drop_triangle b a L') (N ++ (c ∷ [])) (at_edge New c a ps ws) (drop_same b a L L' s)
triangle_same L L' N ls a b c ps ws true s =
    let d = drop_same b a L L' s in
    let o = choose_place a b c (drop_triangle b a L) ls in
    subst (λ (o' : Operation).
    SameWant (wanting o (drop_triangle b a L) N (at_edge o c a ps ws)) (wanting o' (drop_triangle b a L') N (at_edge o' c a ps ws)))
    (place_same a b c (drop_triangle b a L) (drop_triangle b a L') ls d)
    (wanting_same o (drop_triangle b a L) (drop_triangle b a L') N (at_edge o c a ps ws) d)

at_same : (M M' L L' : List Triangle) (N : List ℕ) (ls : List Ring) (a b : ℕ) (ps : List Node) (ws : List Ring) → Same M M' → Same L L'
    → SameWant (want_at L N ls a b ps ws (across b a M)) (want_at L' N ls a b ps ws (across b a M'))
at_same M M' L L' N ls a b ps ws m s = go (same_look b a M M' m)
  where
    at : (q q' : Across) → across b a M ≡ q → across b a M' ≡ q' → SameWant (want_at L N ls a b ps ws q) (want_at L' N ls a b ps ws q')
        → SameWant (want_at L N ls a b ps ws (across b a M)) (want_at L' N ls a b ps ws (across b a M'))
    at q q' e e' w =
        subst (λ (k : Across). SameWant (want_at L N ls a b ps ws k) (want_at L' N ls a b ps ws (across b a M'))) (sym e)
        (subst (λ (k : Across). SameWant (want_at L N ls a b ps ws q) (want_at L' N ls a b ps ws k)) (sym e') w)

    go : SameLook b a M M' → SameWant (want_at L N ls a b ps ws (across b a M)) (want_at L' N ls a b ps ws (across b a M'))
    go (both_none e e') = at Nothing Nothing e e' (wanting_same Border L L' N (at_edge Border 0 a ps ws) s)
    go (both_found n k i j c e e') = at (Found n k c) (Found i j c) e e' (triangle_same L L' N ls a b c ps ws (has c N) s)

-- a packing by its parts
abbrev packing : ℕ → ℕ → ℕ → ℕ → List ℕ → List Ring → List Triangle → List Triangle → Packing
packing mp ml lp ll N ls M L = record {
  mesh = M;
  left = L;
  numbered = N;
  loops = ls;
  most_places = mp;
  most_loops = ml;
  limit_places = lp;
  limit_loops = ll;
}

-- what is chosen is the same
abbrev pub SameChosen : Chosen → Chosen → Type 0
SameChosen (stopped n) (stopped m) = n ≡ m
SameChosen (stopped n) (chosen os s) = ⊥
SameChosen (chosen os s) (stopped m) = ⊥
SameChosen (chosen os s) (chosen os' s') =
    (os ≡ os') × (s.numbered ≡ s'.numbered) × (s.most_places ≡ s'.most_places) × (s.most_loops ≡ s'.most_loops)

cons_same : (o : Operation) (x y : Chosen) → SameChosen x y → SameChosen (cons o x) (cons o y)
cons_same o (stopped n) (stopped m) h = h
cons_same o (stopped n) (chosen os s) h = h
cons_same o (chosen os s) (stopped m) h = h
cons_same o (chosen os s) (chosen os' s') h = (ap (λ (l : List Operation). o ∷ l) h.0, h.1, h.2, h.3)

-- what one operation comes to, by what is chosen
abbrev all_by : ℕ → Packing → Next → Chosen
all_by n s x = elim x [ ended ↦ chosen [] s | refuses k ↦ stopped k | takes o s' ↦ cons o (choose_all n s') ]

abbrev starts_next : ℕ → List Triangle → Next → List Triangle
starts_next n ts x = elim x [ ended ↦ [] | refuses k ↦ [] | takes o s' ↦ ts ++ starts_by n s' ]

all_by_lem : (n : ℕ) (s : Packing) (x : Next) → choose s ≡ x → choose_all (suc n) s ≡ all_by n s x
unfolding choose_all
all_by_lem n s x e = ap (all_by n s) e

starts_by_lem : (n : ℕ) (s : Packing) (x : Next) → choose s ≡ x → starts_by (suc n) s ≡ starts_next n (start_of s.loops s.left) x
unfolding starts_by
starts_by_lem n s x e = ap (starts_next n (start_of s.loops s.left)) e

both_by : (n : ℕ) (s u : Packing) (x y : Next) → choose s ≡ x → choose u ≡ y → starts_by (suc n) s ≡ starts_by (suc n) u
    → (starts_next n (start_of s.loops s.left) x ≡ starts_next n (start_of u.loops u.left) y
    → SameChosen (all_by n s x) (all_by n u y))
    → SameChosen (choose_all (suc n) s) (choose_all (suc n) u)
both_by n s u x y a b e k =
    subst (λ (c : Chosen). SameChosen c (choose_all (suc n) u)) (sym (all_by_lem n s x a))
    (subst (λ (c : Chosen). SameChosen (all_by n s x) c) (sym (all_by_lem n u y b))
    (k (sym (starts_by_lem n s x a) ∙ (e ∙ starts_by_lem n u y b))))

abbrev first_of : Triangle → List Triangle → Triangle
first_of d [] = d
first_of d (t ∷ ts) = t

abbrev rest_of : List Triangle → List Triangle
rest_of [] = []
rest_of (t ∷ ts) = ts

abbrev ring_of : Triangle → List Ring
ring_of t = (opened t.p ∷ (opened t.q ∷ (opened t.r ∷ []))) ∷ []

abbrev with_three : List ℕ → Triangle → List ℕ
with_three N t = N ++ (t.p ∷ (t.q ∷ (t.r ∷ [])))

rest_same : (t : Triangle) (ts us : List Triangle) → Same (t ∷ ts) (t ∷ us) → Same ts us
rest_same t ts us s = record {
  once = s.once.2;
  once' = s.once'.2;
  count = omega (arith, s.count);
  to = λ x y z i. go x y z i (s.to x y z (there i));
  from = λ x y z i. back x y z i (s.from x y z (there i));
}
  where
    go : (x y z : ℕ) → In x y z ts → In x y z (t ∷ us) → In x y z us
    go x y z i (here r) = absurd (free_rot ts s.once.0 r z i)
    go x y z i (there j) = j

    back : (x y z : ℕ) → In x y z us → In x y z (t ∷ ts) → In x y z ts
    back x y z i (here r) = absurd (free_rot us s.once'.0 r z i)
    back x y z i (there j) = j

-- what holds after n operations of two packings with the same loops, numbers, peaks and limits
abbrev Alike : ℕ → Type 0
Alike n = (mp ml lp ll : ℕ) (N : List ℕ) (ls : List Ring) (M M' L L' : List Triangle) → Same M M' → Same L L'
    → starts_by n (packing mp ml lp ll N ls M L) ≡ starts_by n (packing mp ml lp ll N ls M' L')
    → SameChosen (choose_all n (packing mp ml lp ll N ls M L)) (choose_all n (packing mp ml lp ll N ls M' L'))

module _ (n : ℕ) (again : Alike n) (mp ml lp ll : ℕ) (N : List ℕ) (M M' : List Triangle) (m : Same M M') where
  -- a start
  alike_start : (t t' : Triangle) (ts ts' : List Triangle) → Same (t ∷ ts) (t' ∷ ts')
      → starts_by (suc n) (packing mp ml lp ll N [] M (t ∷ ts)) ≡ starts_by (suc n) (packing mp ml lp ll N [] M' (t' ∷ ts'))
      → SameChosen (choose_all (suc n) (packing mp ml lp ll N [] M (t ∷ ts))) (choose_all (suc n) (packing mp ml lp ll N [] M' (t' ∷ ts')))
  unfolding limited places
  alike_start t t' ts ts' s e =
      both_by n (packing mp ml lp ll N [] M (t ∷ ts)) (packing mp ml lp ll N [] M' (t' ∷ ts')) _ _ (choose_want _) (choose_want _) e
      (go (leb 3 lp) (leb 1 ll))
    where
      after : List Triangle → List Triangle → Triangle → Packing
      after K L k = packing (max mp 3) (max ml 1) lp ll (with_three N k) (ring_of k) K L

      next : List Triangle → List Triangle → Triangle → Bool → Bool → Next
      next K L k u v = elim u [ true ↦ elim v [ true ↦ takes Start (after K L k) | false ↦ refuses 10 ] | false ↦ refuses 9 ]

      same : (k : Triangle) → t ≡ k → Same (t ∷ ts) (k ∷ ts') → starts_by n (after M ts t) ≡ starts_by n (after M' ts' k)
          → SameChosen (choose_all n (after M ts t)) (choose_all n (after M' ts' k))
      same k q =
          subst (λ (k : Triangle). Same (t ∷ ts) (k ∷ ts') → starts_by n (after M ts t) ≡ starts_by n (after M' ts' k)
          → SameChosen (choose_all n (after M ts t)) (choose_all n (after M' ts' k))) q
          (λ w f. again _ _ lp ll _ _ M M' ts ts' m (rest_same t ts ts' w) f)

      go : (u v : Bool) → starts_next n (t ∷ []) (next M ts t u v) ≡ starts_next n (t' ∷ []) (next M' ts' t' u v)
          → SameChosen (all_by n (packing mp ml lp ll N [] M (t ∷ ts)) (next M ts t u v))
          (all_by n (packing mp ml lp ll N [] M' (t' ∷ ts')) (next M' ts' t' u v))
      go true true f = cons_same Start (choose_all n (after M ts t)) (choose_all n (after M' ts' t'))
          (same t' (ap (first_of t) f) s (ap rest_of f))
      go true false f = refl
      go false v f = refl

  -- an operation at an edge
  alike_want : (ls : List Ring) (L L' : List Triangle) (l : Ring) (ws : List Ring) → ls ≡ l ∷ ws
      → SameWant (want (packing mp ml lp ll N ls M L)) (want (packing mp ml lp ll N ls M' L'))
      → starts_by (suc n) (packing mp ml lp ll N ls M L) ≡ starts_by (suc n) (packing mp ml lp ll N ls M' L')
      → SameChosen (choose_all (suc n) (packing mp ml lp ll N ls M L)) (choose_all (suc n) (packing mp ml lp ll N ls M' L'))
  unfolding limited
  alike_want ls L L' l ws q (both_idle a b) e =
      both_by n (packing mp ml lp ll N ls M L) (packing mp ml lp ll N ls M' L') ended ended
      (choose_want _ ∙ ap (doing (packing mp ml lp ll N ls M L)) a) (choose_want _ ∙ ap (doing (packing mp ml lp ll N ls M' L')) b) e
      (λ f. (refl, refl, refl, refl))
  alike_want ls L L' l ws q (both_want o ts us vs ks a b s) e =
      both_by n (packing mp ml lp ll N ls M L) (packing mp ml lp ll N ls M' L') _ _
      (choose_want _ ∙ ap (doing (packing mp ml lp ll N ls M L)) a) (choose_want _ ∙ ap (doing (packing mp ml lp ll N ls M' L')) b) e
      (go (leb (places ks) lp) (leb (length ks) ll))
    where
      after : List Triangle → List Triangle → Packing
      after K T = packing (max mp (places ks)) (max ml (length ks)) lp ll vs ks K T

      next : List Triangle → List Triangle → Bool → Bool → Next
      next K T u v = elim u [ true ↦ elim v [ true ↦ takes o (after K T) | false ↦ refuses 10 ] | false ↦ refuses 9 ]

      none : (K : List Triangle) → start_of ls K ≡ []
      none K = ap (λ (k : List Ring). start_of k K) q

      go : (u v : Bool) → starts_next n (start_of ls L) (next M ts u v) ≡ starts_next n (start_of ls L') (next M' us u v)
          → SameChosen (all_by n (packing mp ml lp ll N ls M L) (next M ts u v))
          (all_by n (packing mp ml lp ll N ls M' L') (next M' us u v))
      go true true f =
          cons_same o (choose_all n (after M ts)) (choose_all n (after M' us))
          (again _ _ lp ll vs ks M M' ts us m s
          (sym (ap (λ (k : List Triangle). k ++ starts_by n (after M ts)) (none L))
          ∙ (f ∙ ap (λ (k : List Triangle). k ++ starts_by n (after M' us)) (none L'))))
      go true false f = refl
      go false v f = refl

-- the packer does the same
pub alike : (n : ℕ) → Alike n
unfolding choose_all
alike zero mp ml lp ll N ls M M' L L' m s e = (refl, refl, refl, refl)
alike (suc n) mp ml lp ll N [] M M' [] [] m s e =
    both_by n (packing mp ml lp ll N [] M []) (packing mp ml lp ll N [] M' []) ended ended (choose_want _) (choose_want _) e
    (λ f. (refl, refl, refl, refl))
alike (suc n) mp ml lp ll N [] M M' [] (t ∷ ts) m s e = absurd (omega (arith, s.count))
alike (suc n) mp ml lp ll N [] M M' (t ∷ ts) [] m s e = absurd (omega (arith, s.count))
alike (suc n) mp ml lp ll N [] M M' (t ∷ ts) (t' ∷ ts') m s e = alike_start n (alike n) mp ml lp ll N M M' m t t' ts ts' s e
alike (suc n) mp ml lp ll N ([] ∷ ws) M M' L L' m s e =
    alike_want n (alike n) mp ml lp ll N M M' m ([] ∷ ws) L L' [] ws refl (both_idle refl refl) e
alike (suc n) mp ml lp ll N ((k ∷ ps) ∷ ws) M M' L L' m s e =
    alike_want n (alike n) mp ml lp ll N M M' m ((k ∷ ps) ∷ ws) L L' (k ∷ ps) ws refl
    (at_same M M' L L' N ((k ∷ ps) ∷ ws) (vertex k) (start_or (vertex k) ps) ps ws m s) e
