-- Packing meets the edge rule: an edge of the new triangle whose opposite is used is glued.
-- Assumes nothing.
use Prim.Native.Nat.{ℕ, suc, ◌+◌, ◌≤◌, ◌<◌}
use native.Mathlib.Omega.{arith}
use mathlib.Core.Bool.{Bool, true, false}
use mathlib.Core.List.{List, ◌∷◌}
use mathlib.Core.Path.{◌≡◌, refl, sym, ap₂, ◌∙◌, subst}
use mathlib.Core.Logic.{◌⊎◌, inl, inr}
use lib.ListN.{length}
use lib.Dec.{eqb}
use borrow.Author.Tests.{eqb-true, ne_eqb}
use Rattle.rules.specs.declared.Triangle.{Triangle}
use Rattle.rules.specs.Ring.{Node, Ring, vertex, is_open, loop_at}
use Rattle.rules.specs.Choice.{size_of, following}
use Rattle.rules.specs.Triangle.{at_p, In, here, there}
use Rattle.rules.specs.Right.{OpenAt}
use Rattle.choice_theory.specs.Spots.{Unused}
use Rattle.choice_theory.proofs.Turning.Turn.{Turn, rest, turn, jump}
use Rattle.choice_theory.proofs.Places.Corners.{Filled}
use Rattle.choice_theory.proofs.Places.Spots.{Spotted}
use Rattle.choice_theory.proofs.Steps.Surgery.{triangle_at}
use Rattle.mesh_theory.proofs.Fans.Corners.{in_next}
use Rattle.choice_theory.proofs.Turning.Links.{in_last, once_func, once_inj}
use Rattle.choice_theory.proofs.Places.Ends.{spotted_holds, spotted_site, place_leaving, place_entered}
use Rattle.choice_theory.proofs.Places.Exists.{Used, PlaceOf}
use Rattle.choice_theory.proofs.Runs.Canonical.{State}
use Rattle.choice_theory.proofs.Steps.Choice.{Packs, no_step}

-- a path into a vertex that nothing enters
pub no_entry : {M : List Triangle} {c : ℕ} {R : List Triangle} {x y : ℕ} → Unused y c R → (Unused y c M → ⊥) → Turn M c R x y → x ≡ y
no_entry f g rest = refl
no_entry {M = M} {c = c} {R = R} {x = x} {y = y} f g (turn {z = z} i l) =
    absurd (f x (subst (λ (v : ℕ). In v c x R) (no_entry f g l) (in_last i)))
no_entry {M = M} {c = c} {R = R} {x = x} {y = y} f g (jump {w = w} h k l) = absurd (g (subst (λ (v : ℕ). Unused v c M) (no_entry f g l) k))

-- the first step of a path that cannot jump
pub first_step : {M : List Triangle} {c x y : ℕ} {R : List Triangle} → (Unused c x M → ⊥) → Turn M c R x y
    → (x ≡ y) ⊎ ((z : ℕ) × In c x z R × Turn M c R z y)
first_step g rest = inl refl
first_step g (turn {z = z} i l) = inr (z, i, l)
first_step g (jump h k l) = absurd (g h)

-- the last step of a path that cannot jump there
pub last_step : {M : List Triangle} {c : ℕ} {R : List Triangle} {x y : ℕ} → (Unused y c M → ⊥) → Turn M c R x y
    → (x ≡ y) ⊎ ((z : ℕ) × Turn M c R x z × In c z y R)
last_step g rest = inl refl
last_step {M = M} {c = c} {R = R} {x = x} {y = y} g (turn {z = z} i l) = go (last_step g l)
  where
    go : (z ≡ y) ⊎ ((w : ℕ) × Turn M c R z w × In c w y R) → (x ≡ y) ⊎ ((w : ℕ) × Turn M c R x w × In c w y R)
    go (inl e) = inr (x, rest, subst (λ (v : ℕ). In c x v R) e i)
    go (inr r) = inr (r.0, turn i r.1, r.2)
last_step {M = M} {c = c} {R = R} {x = x} {y = y} g (jump {w = z} h k l) = go (last_step g l)
  where
    go : (z ≡ y) ⊎ ((w : ℕ) × Turn M c R z w × In c w y R) → (x ≡ y) ⊎ ((w : ℕ) × Turn M c R x w × In c w y R)
    go (inl e) = absurd (g (subst (λ (v : ℕ). Unused v c M) e k))
    go (inr r) = inr (r.0, jump h k r.1, r.2)

after_zero : (k i : ℕ) → following k i ≡ 0 → i + 1 ≡ k
after_zero k i h = go (eqb (i + 1) k) refl h
  where
    go : (t : Bool) → eqb (i + 1) k ≡ t → ◌≡◌ {A = ℕ} (elim t [ true ↦ 0 | false ↦ i + 1 ]) 0 → i + 1 ≡ k
    go true e g = eqb-true (i + 1) k e
    go false e g = absurd (omega arith)

after_one : (k i j : ℕ) → i + 1 < k → following k i ≡ j → j ≡ i + 1
after_one k i j n h = sym h ∙ rw (following, ne_eqb (i + 1) k (omega arith)) refl

module _ (M R B : List Triangle) (e f : Node) (ps : List Node) (ws : List Ring) (c : ℕ)
    (pk : Packs M (triangle_at e f c ∷ R) B ((e ∷ (f ∷ ps)) ∷ ws)) (live : is_open e ≡ true) (three : 1 ≤ length ps)
    (n : PlaceOf M R ((e ∷ (f ∷ ps)) ∷ ws) (vertex e) (vertex f) c) where
  st : State M (triangle_at e f c ∷ R) B ((e ∷ (f ∷ ps)) ∷ ws)
  st = pk.state

  ba : In (vertex f) (vertex e) c (triangle_at e f c ∷ R)
  ba = here (at_p refl refl refl)

  ac : In (vertex e) c (vertex f) (triangle_at e f c ∷ R)
  ac = in_next ba

  cb : In c (vertex f) (vertex e) (triangle_at e f c ∷ R)
  cb = in_last ba

  -- the current edge is used
  ab : (z : ℕ) × In (vertex e) (vertex f) z B
  unfolding st
  ab = st.used.0.0.1

  -- an edge whose opposite is in the model is not marked
  open_leave : {l i v x y w : ℕ} → Spotted ((e ∷ (f ∷ ps)) ∷ ws) l i v x y → In y v w M → OpenAt ((e ∷ (f ∷ ps)) ∷ ws) l i v y
  open_leave {l} {i} {v} {x} {y} {w} s j = go (spotted_site M s pk.marks).leave
    where
      go : Unused y v M ⊎ OpenAt ((e ∷ (f ∷ ps)) ∷ ws) l i v y → OpenAt ((e ∷ (f ∷ ps)) ∷ ws) l i v y
      go (inl h) = absurd (h w j)
      go (inr o) = o

  open_enter : {l i v x y w : ℕ} (s : Spotted ((e ∷ (f ∷ ps)) ∷ ws) l i v x y) → In v x w M
      → OpenAt ((e ∷ (f ∷ ps)) ∷ ws) l (spotted_site M s pk.marks).from x v
  open_enter {l} {i} {v} {x} {y} {w} s j = go (spotted_site M s pk.marks).enter
    where
      go : Unused v x M ⊎ OpenAt ((e ∷ (f ∷ ps)) ∷ ws) l (spotted_site M s pk.marks).from x v
          → OpenAt ((e ∷ (f ∷ ps)) ∷ ws) l (spotted_site M s pk.marks).from x v
      go (inl h) = absurd (h w j)
      go (inr o) = o

  here_ab : OpenAt ((e ∷ (f ∷ ps)) ∷ ws) 0 0 (vertex e) (vertex f)
  here_ab = (live, refl, refl)

  -- if c→a is used, the place stands before e
  pub glue_a : (z : ℕ) → In c (vertex e) z B → (n.ring ≡ 0) × (n.at + 1 ≡ suc (suc (length ps)))
  unfolding st loop_at
  glue_a z i =
      let y-a : vertex e ≡ n.y = no_step (λ w j. st.apart c (vertex e) w z (there j) i) (λ h. h z (st.sub_b _ _ _ i)) n.on in
      let s : Spotted ((e ∷ (f ∷ ps)) ∷ ws) n.ring n.at c n.x (vertex e) =
      subst (λ (v : ℕ). Spotted ((e ∷ (f ∷ ps)) ∷ ws) n.ring n.at c n.x v) (sym y-a) n.spot in
      let o : OpenAt ((e ∷ (f ∷ ps)) ∷ ws) n.ring n.at c (vertex e) = open_leave s (st.sub_r _ _ _ ac) in
      let p = place_entered ((e ∷ (f ∷ ps)) ∷ ws) n.ring n.at c (vertex e) o in
      let q = spotted_site M p.place pk.marks in
      let y_b : vertex f ≡ p.y =
      to_b p.y (spotted_holds (Used B) p.place st.used).1
      (first_step (λ h. h _ (st.sub_r _ _ _ ac)) (spotted_holds (Filled M (triangle_at e f c ∷ R)) p.place pk.gaps)) in
      let s' : Spotted ((e ∷ (f ∷ ps)) ∷ ws) n.ring p.at (vertex e) c (vertex f) =
      subst (λ (v : ℕ). Spotted ((e ∷ (f ∷ ps)) ∷ ws) n.ring p.at (vertex e) c v) (sym y_b) p.place in
      let u = st.unique (vertex e) (vertex f) n.ring p.at 0 0 (open_leave s' (st.sub_r _ _ _ ba)) here_ab in
      let w = st.unique c (vertex e) n.ring q.from n.ring n.at (open_enter p.place (st.sub_r _ _ _ ac)) o in
      let g : following (size_of ((e ∷ (f ∷ ps)) ∷ ws) n.ring) q.from ≡ p.at = q.next in (
        u.0,
        after_zero (suc (suc (length ps))) n.at
            (ap₂ (λ (r k : ℕ). following (size_of ((e ∷ (f ∷ ps)) ∷ ws) r) k) (sym u.0) (sym w.1) ∙ (g ∙ u.1)),
      )
    where
      to_b : (y : ℕ) → (k : ℕ) × In (vertex e) y k B
          → (c ≡ y) ⊎ ((v : ℕ) × In (vertex e) c v (triangle_at e f c ∷ R) × Turn M (vertex e) (triangle_at e f c ∷ R) v y) → vertex f ≡ y
      to_b y k (inl h) = absurd (st.apart (vertex e) c _ k.0 ac (subst (λ (v : ℕ). In (vertex e) v k.0 B) (sym h) k.1))
      to_b y k (inr h) =
          let v-b = once_func (triangle_at e f c ∷ R) st.once h.1 ac in
          no_step (λ w j. st.apart (vertex e) (vertex f) w ab.0 j ab.1) (λ g. g ab.0 (st.sub_b _ _ _ ab.1))
          (subst (λ (v : ℕ). Turn M (vertex e) (triangle_at e f c ∷ R) v y) v-b h.2)

  -- if b→c is used, the place stands after f
  pub glue_b : (z : ℕ) → In (vertex f) c z B → (n.ring ≡ 0) × (n.at ≡ 2)
  unfolding st loop_at
  glue_b z i =
      let x-b : n.x ≡ vertex f = no_entry (λ w j. st.apart (vertex f) c w z (there j) i) (λ h. h z (st.sub_b _ _ _ i)) n.back in
      let s : Spotted ((e ∷ (f ∷ ps)) ∷ ws) n.ring n.at c (vertex f) n.y =
      subst (λ (v : ℕ). Spotted ((e ∷ (f ∷ ps)) ∷ ws) n.ring n.at c v n.y) x-b n.spot in
      let q = spotted_site M s pk.marks in
      let o : OpenAt ((e ∷ (f ∷ ps)) ∷ ws) n.ring q.from (vertex f) c = open_enter s (st.sub_r _ _ _ cb) in
      let p = place_leaving ((e ∷ (f ∷ ps)) ∷ ws) n.ring q.from (vertex f) c o in
      let x_a : p.0 ≡ vertex e =
      to_a p.0 (spotted_holds (Used B) p.1 st.used).0
      (last_step (λ h. h _ (st.sub_r _ _ _ cb)) (spotted_holds (Filled M (triangle_at e f c ∷ R)) p.1 pk.gaps)) in
      let s' : Spotted ((e ∷ (f ∷ ps)) ∷ ws) n.ring q.from (vertex f) (vertex e) c =
      subst (λ (v : ℕ). Spotted ((e ∷ (f ∷ ps)) ∷ ws) n.ring q.from (vertex f) v c) x_a p.1 in
      let q' = spotted_site M s' pk.marks in
      let u = st.unique (vertex e) (vertex f) n.ring q'.from 0 0 (open_enter s' (st.sub_r _ _ _ ba)) here_ab in
      let one : q.from ≡ 0 + 1 =
      after_one (suc (suc (length ps))) 0 q.from (omega arith)
      (ap₂ (λ (r k : ℕ). following (size_of ((e ∷ (f ∷ ps)) ∷ ws) r) k) (sym u.0) (sym u.1) ∙ q'.next) in
      let two : n.at ≡ 1 + 1 =
      after_one (suc (suc (length ps))) 1 n.at (omega arith)
      (ap₂ (λ (r k : ℕ). following (size_of ((e ∷ (f ∷ ps)) ∷ ws) r) k) (sym u.0) (sym one) ∙ q.next) in
      (u.0, two)
    where
      to_a : (x : ℕ) → (k : ℕ) × In x (vertex f) k B
          → (x ≡ c) ⊎ ((v : ℕ) × Turn M (vertex f) (triangle_at e f c ∷ R) x v × In (vertex f) v c (triangle_at e f c ∷ R)) → x ≡ vertex e
      to_a x k (inl h) = absurd (st.apart c (vertex f) _ k.0 cb (subst (λ (v : ℕ). In v (vertex f) k.0 B) h k.1))
      to_a x k (inr h) =
          let v-a = once_inj (triangle_at e f c ∷ R) st.once h.2 ba in
          no_entry (λ w j. st.apart (vertex e) (vertex f) w ab.0 j ab.1) (λ g. g ab.0 (st.sub_b _ _ _ ab.1))
          (subst (λ (v : ℕ). Turn M (vertex f) (triangle_at e f c ∷ R) x v) v-a h.1)
