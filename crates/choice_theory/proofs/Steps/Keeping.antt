-- Packing keeps the gaps.
-- Assumes nothing.
use Prim.Native.Nat.{ℕ}
use mathlib.Core.Bool.{Bool, true, false}
use mathlib.Core.List.{List, [], ◌∷◌}
use mathlib.Core.Path.{◌≡◌, refl, sym, subst}
use mathlib.Core.Logic.{◌⊎◌, inl, inr}
use lib.Dec.{eqb}
use borrow.Author.Tests.{eqb-true, eqb-false}
use Rattle.rules.specs.declared.Triangle.{Triangle}
use Rattle.rules.specs.Ring.{Node, Ring, vertex}
use Rattle.rules.specs.Fan.{Neighbours}
use Rattle.rules.specs.Right.{Links}
use Rattle.rules.specs.Triangle.{Rot, at_p, at_q, at_r, In, here, there}
use Rattle.choice_theory.specs.Spots.{Unused}
use Rattle.choice_theory.proofs.Turning.Turn.{Turn, rest, turn, jump}
use Rattle.choice_theory.proofs.Places.Corners.{Along, Around, Everywhere, Filled}
use Rattle.choice_theory.proofs.Steps.Surgery.{triangle_at}
use Rattle.mesh_theory.proofs.Fans.Corners.{in_next, rot_next}
use Rattle.choice_theory.proofs.Turning.Links.{in_last, free_rot, Last, last_link, first_link, links_meet, links_fork, turn_round}
use Rattle.choice_theory.proofs.Turning.Links.{turn_map}
use Rattle.choice_theory.proofs.Turning.Core.{Blocked, one_way}
use Rattle.choice_theory.proofs.Turning.Cuts.{turn_cut}
use Rattle.choice_theory.proofs.Places.Exists.{Used}
use Rattle.choice_theory.proofs.Runs.Canonical.{State}
use Rattle.choice_theory.proofs.Steps.Choice.{Packs, no_step}
use Rattle.choice_theory.proofs.Steps.Gluing.{no_entry, first_step, last_step}
use Rattle.choice_theory.proofs.Places.Elsewhere.{Kept}

-- two facts at each place
seg_zip : (P Q : ℕ → ℕ → ℕ → Type 0) (x : ℕ) (ps : List Node) (y : ℕ) → Along P x ps y → Along Q x ps y
    → Along (λ u v w. P u v w × Q u v w) x ps y
seg_zip P Q x [] y h k = tt
seg_zip P Q x (p ∷ ps) y h k = ((h.0, k.0), seg_zip P Q (vertex p) ps y h.1 k.1)

ring_zip : (P Q : ℕ → ℕ → ℕ → Type 0) (l : List Node) → Around P l → Around Q l → Around (λ u v w. P u v w × Q u v w) l
ring_zip P Q [] h k = tt
ring_zip P Q (p ∷ ps) h k = seg_zip P Q _ (p ∷ ps) _ h k

pub rings_zip : (P Q : ℕ → ℕ → ℕ → Type 0) (ls : List Ring) → Everywhere P ls → Everywhere Q ls → Everywhere (λ u v w. P u v w × Q u v w) ls
rings_zip P Q [] h k = tt
rings_zip P Q (l ∷ ls) h k = (ring_zip P Q l h.0 k.0, rings_zip P Q ls h.1 k.1)

-- a vertex that t does not have
turn_drop : {M : List Triangle} {t : Triangle} {R : List Triangle} {v x y : ℕ} → ((u w : ℕ) → Rot t v u w → ⊥) → Turn M v (t ∷ R) x y
    → Turn M v R x y
turn_drop n rest = rest
turn_drop {M} {t} {R} {v} {x} {y} n (turn {z = z} i l) = go i (turn_drop n l)
  where
    go : In v x z (t ∷ R) → Turn M v R z y → Turn M v R x y
    go (here r) k = absurd (n x z r)
    go (there j) k = turn j k
turn_drop n (jump f g l) = jump f g (turn_drop n l)

module _ (M R B : List Triangle) (e f : Node) (c : ℕ) (ls : List Ring) (pk : Packs M (triangle_at e f c ∷ R) B ls) (fan : Neighbours M c)
    (cur : (z : ℕ) × In (vertex e) (vertex f) z B) where
  st : State M (triangle_at e f c ∷ R) B ls
  st = pk.state

  tri : Rot (triangle_at e f c) (vertex f) (vertex e) c
  tri = at_p refl refl refl

  ba : In (vertex f) (vertex e) c (triangle_at e f c ∷ R)
  unfolding tri
  ba = here tri

  ac : In (vertex e) c (vertex f) (triangle_at e f c ∷ R)
  ac = in_next ba

  cb : In c (vertex f) (vertex e) (triangle_at e f c ∷ R)
  cb = in_last ba

  free_ba : Unused (vertex f) (vertex e) R
  unfolding st
  free_ba = free_rot R st.once.0 tri

  free_ac : Unused (vertex e) c R
  unfolding st
  free_ac = free_rot R st.once.0 (rot_next tri)

  free_ab : Unused (vertex e) (vertex f) R
  unfolding st
  free_ab z i = st.apart (vertex e) (vertex f) z cur.0 (there i) cur.1

  has_ab : Unused (vertex e) (vertex f) M → ⊥
  unfolding st
  has_ab h = h cur.0 (st.sub_b _ _ _ cur.1)

  has_ba : Unused (vertex f) (vertex e) M → ⊥
  unfolding st
  has_ba h = h c (st.sub_r _ _ _ ba)

  -- the heirs of e and of f
  pub heir_e : (x : ℕ) → Filled M (triangle_at e f c ∷ R) x (vertex e) (vertex f) → Used B x (vertex e) (vertex f)
      → Filled M R x (vertex e) c
  unfolding st
  heir_e x h u = go (turn_cut (triangle_at e f c) R (vertex f) c (vertex e) st.once.1 (rot_next (rot_next tri)) h)
    where
      no : (x ≡ vertex f) ⊎ ((z : ℕ) × Turn M (vertex e) R x z × In (vertex e) z (vertex f) R) → ⊥
      no (inl q) = st.apart (vertex f) (vertex e) c u.0.0 ba (subst (λ (v : ℕ). In v (vertex e) u.0.0 B) q u.0.1)
      no (inr r) = free_ba r.0 (in_last r.2)

      go : Turn M (vertex e) R x (vertex f) ⊎ (Turn M (vertex e) R x c × Turn M (vertex e) R (vertex f) (vertex f))
          → Filled M R x (vertex e) c
      go (inl w) = absurd (no (last_step has_ba w))
      go (inr w) = w.0

  pub heir_f : (y : ℕ) → Filled M (triangle_at e f c ∷ R) (vertex e) (vertex f) y → Used B (vertex e) (vertex f) y
      → Filled M R c (vertex f) y
  unfolding st
  heir_f y h u = go (turn_cut (triangle_at e f c) R c (vertex e) (vertex f) st.once.1 (rot_next tri) h)
    where
      no : (vertex e ≡ y) ⊎ ((z : ℕ) × In (vertex f) (vertex e) z R × Turn M (vertex f) R z y) → ⊥
      no (inl q) = st.apart (vertex f) (vertex e) c u.1.0 ba (subst (λ (v : ℕ). In (vertex f) v u.1.0 B) (sym q) u.1.1)
      no (inr r) = free_ba r.0 r.1

      go : Turn M (vertex f) R (vertex e) y ⊎ (Turn M (vertex f) R (vertex e) (vertex e) × Turn M (vertex f) R c y)
          → Filled M R c (vertex f) y
      go (inl w) = absurd (no (first_step has_ba w))
      go (inr w) = w.1

  -- a place of c whose gap holds t: what is known of it
  pub record Holds (x y : ℕ) : Type 0 where
    pub used : Used B x c y
    pub back : Turn M c R x (vertex f)
    pub on : Turn M c R (vertex e) y

  way : (x y : ℕ) → Holds x y → Links c R x (vertex f) ⊎ (Blocked M c R (vertex f) × Links c R (vertex e) y)
  unfolding st
  way x y h =
      one_way M R (vertex e) (vertex f) c (λ u v w i. st.sub_r u v w (there i)) (st.sub_r _ _ _ ba) free_ac st.once_m fan x
      h.used.0.0 y st.once.2
      (st.sub_b _ _ _ h.used.0.1) (λ z i. st.apart x c z h.used.0.0 (there i) h.used.0.1)
      (λ q. st.apart (vertex e) c (vertex f) h.used.0.0 ac (subst (λ (v : ℕ). In v c h.used.0.0 B) q h.used.0.1)) h.back
      h.on

  free_x : (x y : ℕ) → Holds x y → Unused x c R
  unfolding st
  free_x x y h z i = st.apart x c z h.used.0.0 (there i) h.used.0.1

  free_y : (x y : ℕ) → Holds x y → Unused c y R
  unfolding st
  free_y x y h z i = st.apart c y z h.used.1.0 (there i) h.used.1.1

  blocked : (x y : ℕ) → Holds x y → Links c R x (vertex f) → Blocked M c R (vertex f) → ⊥
  unfolding st
  blocked x y h l k = go (links_meet R st.once.2 l k.way)
    where
      to_w : (x ≡ k.at) ⊎ Last c R x k.at → ⊥
      to_w (inl q) = k.edge h.used.0.0 (subst (λ (v : ℕ). In v c h.used.0.0 M) q (st.sub_b _ _ _ h.used.0.1))
      to_w (inr r) = k.edge r.mid (st.sub_r _ _ _ (there (in_last r.final)))

      to_x : (k.at ≡ x) ⊎ Last c R k.at x → ⊥
      to_x (inl q) = to_w (inl (sym q))
      to_x (inr r) = free_x x y h r.mid (in_last r.final)

      go : Links c R x k.at ⊎ Links c R k.at x → ⊥
      go (inl m) = to_w (last_link m)
      go (inr m) = to_x (last_link m)

  -- two places whose gaps hold t share an edge
  same_place_lem : (x y x' y' : ℕ) → Holds x y → Holds x' y' → (x ≡ x') ⊎ (y ≡ y')
  unfolding st
  same_place_lem x y x' y' h h' = go (way x y h) (way x' y' h')
    where
      meet : Links c R x x' ⊎ Links c R x' x → x ≡ x'
      meet (inl m) = one (last_link m)
        where
          one : (x ≡ x') ⊎ Last c R x x' → x ≡ x'
          one (inl q) = q
          one (inr r) = absurd (free_x x' y' h' r.mid (in_last r.final))
      meet (inr m) = one (last_link m)
        where
          one : (x' ≡ x) ⊎ Last c R x' x → x ≡ x'
          one (inl q) = sym q
          one (inr r) = absurd (free_x x y h r.mid (in_last r.final))

      fork : Links c R y y' ⊎ Links c R y' y → y ≡ y'
      fork (inl m) = one (first_link m)
        where
          one : (y ≡ y') ⊎ ((z : ℕ) × In c y z R × Links c R z y') → y ≡ y'
          one (inl q) = q
          one (inr r) = absurd (free_y x y h r.0 r.1)
      fork (inr m) = one (first_link m)
        where
          one : (y' ≡ y) ⊎ ((z : ℕ) × In c y' z R × Links c R z y) → y ≡ y'
          one (inl q) = sym q
          one (inr r) = absurd (free_y x' y' h' r.0 r.1)

      go : Links c R x (vertex f) ⊎ (Blocked M c R (vertex f) × Links c R (vertex e) y)
          → Links c R x' (vertex f) ⊎ (Blocked M c R (vertex f) × Links c R (vertex e) y') → (x ≡ x') ⊎ (y ≡ y')
      go (inl l) (inl l') = inl (meet (links_meet R st.once.2 l l'))
      go (inl l) (inr k) = absurd (blocked x y h l k.0)
      go (inr k) (inl l) = absurd (blocked x' y' h' l k.0)
      go (inr k) (inr k') = inr (fork (links_fork R st.once.2 k.1 k'.1))

  -- at every place the gap does without t, or the place is e, or f, or the one of c
  module _ (xP yP : ℕ) (at_c : (x y : ℕ) → Filled M (triangle_at e f c ∷ R) x c y → Used B x c y
      → Filled M R x c y ⊎ ((x ≡ xP) ⊎ (y ≡ yP))) where
    kept_a : (x y : ℕ) → Filled M (triangle_at e f c ∷ R) x (vertex e) y → Filled M R x (vertex e) y ⊎ (y ≡ vertex f)
    unfolding st
    kept_a x y h = go (turn_cut (triangle_at e f c) R (vertex f) c (vertex e) st.once.1 (rot_next (rot_next tri)) h)
      where
        go : Turn M (vertex e) R x y ⊎ (Turn M (vertex e) R x c × Turn M (vertex e) R (vertex f) y)
            → Filled M R x (vertex e) y ⊎ (y ≡ vertex f)
        go (inl w) = inl w
        go (inr w) = inr (sym (no_step free_ab has_ab w.1))

    kept_b : (x y : ℕ) → Filled M (triangle_at e f c ∷ R) x (vertex f) y → Filled M R x (vertex f) y ⊎ (x ≡ vertex e)
    unfolding st
    kept_b x y h = go (turn_cut (triangle_at e f c) R c (vertex e) (vertex f) st.once.1 (rot_next tri) h)
      where
        go : Turn M (vertex f) R x y ⊎ (Turn M (vertex f) R x (vertex e) × Turn M (vertex f) R c y)
            → Filled M R x (vertex f) y ⊎ (x ≡ vertex e)
        go (inl w) = inl w
        go (inr w) = inr (no_entry free_ab has_ab w.0)

    pub kept : (x v y : ℕ) → Filled M (triangle_at e f c ∷ R) x v y × Used B x v y → Kept (Filled M R) (vertex e) (vertex f) c xP yP x v y
    kept x v y h = is_a (eqb v (vertex e)) refl
      where
        is_c : (v ≡ vertex e → ⊥) → (v ≡ vertex f → ⊥) → (t : Bool) → eqb v c ≡ t → Kept (Filled M R) (vertex e) (vertex f) c xP yP x v y
        is_c na nb true q =
            go
            (at_c x y (subst (λ (w : ℕ). Filled M (triangle_at e f c ∷ R) x w y) (eqb-true v c q) h.0)
            (subst (λ (w : ℕ). Used B x w y) (eqb-true v c q) h.1))
          where
            go : Filled M R x c y ⊎ ((x ≡ xP) ⊎ (y ≡ yP)) → Kept (Filled M R) (vertex e) (vertex f) c xP yP x v y
            go (inl w) = inl (subst (λ (u : ℕ). Filled M R x u y) (sym (eqb-true v c q)) w)
            go (inr (inl w)) = inr (inr (inr (inl (eqb-true v c q, w))))
            go (inr (inr w)) = inr (inr (inr (inr (eqb-true v c q, w))))
        is_c na nb false q = inl (turn_drop none h.0)
          where
            none : (u w : ℕ) → Rot (triangle_at e f c) v u w → ⊥
            none u w (at_p i j k) = nb (sym i)
            none u w (at_q i j k) = na (sym i)
            none u w (at_r i j k) = eqb-false v c q (sym i)

        is_b : (v ≡ vertex e → ⊥) → (t : Bool) → eqb v (vertex f) ≡ t → Kept (Filled M R) (vertex e) (vertex f) c xP yP x v y
        is_b na true q = go (kept_b x y (subst (λ (w : ℕ). Filled M (triangle_at e f c ∷ R) x w y) (eqb-true v (vertex f) q) h.0))
          where
            go : Filled M R x (vertex f) y ⊎ (x ≡ vertex e) → Kept (Filled M R) (vertex e) (vertex f) c xP yP x v y
            go (inl w) = inl (subst (λ (u : ℕ). Filled M R x u y) (sym (eqb-true v (vertex f) q)) w)
            go (inr w) = inr (inr (inl (eqb-true v (vertex f) q, w)))
        is_b na false q = is_c na (eqb-false v (vertex f) q) (eqb v c) refl

        is_a : (t : Bool) → eqb v (vertex e) ≡ t → Kept (Filled M R) (vertex e) (vertex f) c xP yP x v y
        is_a true q = go (kept_a x y (subst (λ (w : ℕ). Filled M (triangle_at e f c ∷ R) x w y) (eqb-true v (vertex e) q) h.0))
          where
            go : Filled M R x (vertex e) y ⊎ (y ≡ vertex f) → Kept (Filled M R) (vertex e) (vertex f) c xP yP x v y
            go (inl w) = inl (subst (λ (u : ℕ). Filled M R x u y) (sym (eqb-true v (vertex e) q)) w)
            go (inr w) = inr (inl (eqb-true v (vertex e) q, w))
        is_a false q = is_b (eqb-false v (vertex e) q) (eqb v (vertex f)) refl

  -- the place of c where c has a built triangle
  pub at_place : (xP yP : ℕ) → Holds xP yP → (x y : ℕ) → Filled M (triangle_at e f c ∷ R) x c y → Used B x c y
      → Filled M R x c y ⊎ ((x ≡ xP) ⊎ (y ≡ yP))
  unfolding st
  at_place xP yP n x y h u = go (turn_cut (triangle_at e f c) R (vertex e) (vertex f) c st.once.1 tri h)
    where
      go : Turn M c R x y ⊎ (Turn M c R x (vertex f) × Turn M c R (vertex e) y) → Filled M R x c y ⊎ ((x ≡ xP) ⊎ (y ≡ yP))
      go (inl w) = inl w
      go (inr w) = inr (same_place_lem x y xP yP (record { used = u; back = w.0; on = w.1 }) n)

  -- c without a built triangle: its new place's gap
  pub new_gap : ((m n : ℕ) → In c m n B → ⊥) → Filled M R (vertex e) c (vertex f)
  unfolding st
  new_gap none = go (turn_cut (triangle_at e f c) R (vertex e) (vertex f) c st.once.1 tri
      (turn_map left (turn_round M c (vertex f) (vertex e) fan (st.sub_r _ _ _ cb))))
    where
      left : (v w : ℕ) → In c v w M → In c v w (triangle_at e f c ∷ R)
      left v w i = pick (pk.part c v w i)
        where
          pick : In c v w (triangle_at e f c ∷ R) ⊎ In c v w B → In c v w (triangle_at e f c ∷ R)
          pick (inl j) = j
          pick (inr j) = absurd (none v w j)

      go : Turn M c R (vertex e) (vertex f) ⊎ (Turn M c R (vertex e) (vertex f) × Turn M c R (vertex e) (vertex f))
          → Filled M R (vertex e) c (vertex f)
      go (inl w) = w
      go (inr w) = w.0
