-- Paths cut at one triangle, and the run of built triangles next to it.
-- Assumes nothing.
use Prim.Native.Nat.{ℕ}
use mathlib.Core.List.{List, ◌∷◌}
use mathlib.Core.Path.{◌≡◌, sym, ◌∙◌, subst}
use mathlib.Core.Logic.{◌⊎◌, inl, inr}
use Rattle.rules.specs.declared.Triangle.{Triangle}
use Rattle.rules.specs.Fan.{Linked, Pair, Neighbours}
use Rattle.rules.specs.Right.{Links, stop, link}
use Rattle.rules.specs.Triangle.{Rot, In, here, there}
use Rattle.choice_theory.proofs.Turning.Turn.{Turn, rest, turn, jump}
use Rattle.mesh_theory.proofs.Fans.Corners.{rot_next, rot_third}
use Rattle.choice_theory.proofs.Turning.Ways.{rot_mid}

abbrev Corners : Triangle → Type 0
Corners t = ((t.p ≡ t.q) → ⊥) × ((t.q ≡ t.r) → ⊥) × ((t.r ≡ t.p) → ⊥)

-- the link of t at c is from b to a
rot_link : {t : Triangle} {a b c x z : ℕ} → Corners t → Rot t b a c → Rot t c x z → (x ≡ b) × (z ≡ a)
rot_link {t} {a} {b} {c} {x} {z} d r s =
    let m : x ≡ b = rot_mid d (rot_next (rot_next r)) s in
    (m, rot_third (subst (λ (v : ℕ). Rot t c v z) m s) (rot_next (rot_next r)))

module _ (t : Triangle) (R : List Triangle) (a b c : ℕ) (d : Corners t) (tri : Rot t b a c) where
  -- after the last use of t
  pub links_behind : {u y : ℕ} → Links c (t ∷ R) u y → Links c R u y ⊎ Links c R a y
  links_behind stop = inl stop
  links_behind {u} {y} (link {z = z} i l) = go i (links_behind l)
    where
      go : In c u z (t ∷ R) → Links c R z y ⊎ Links c R a y → Links c R u y ⊎ Links c R a y
      go j (inr r) = inr r
      go (here s) (inl w) = inr (subst (λ (v : ℕ). Links c R v y) (rot_link d tri s).1 w)
      go (there j) (inl w) = inl (link j w)

  -- before the first use of t
  pub links_front : {u y : ℕ} → Links c (t ∷ R) u y → Links c R u y ⊎ Links c R u b
  links_front stop = inl stop
  links_front {u} {y} (link {z = z} i l) = go i (links_front l)
    where
      go : In c u z (t ∷ R) → Links c R z y ⊎ Links c R z b → Links c R u y ⊎ Links c R u b
      go (here s) w = inr (subst (λ (v : ℕ). Links c R v b) (sym (rot_link d tri s).0) stop)
      go (there j) (inl w) = inl (link j w)
      go (there j) (inr w) = inr (link j w)

  -- a path with jumps does without t, or leads to b and on from a
  pub turn_cut : {M : List Triangle} {u y : ℕ} → Turn M c (t ∷ R) u y → Turn M c R u y ⊎ (Turn M c R u b × Turn M c R a y)
  turn_cut rest = inl rest
  turn_cut {M} {u} {y} (turn {z = z} i l) = go i (turn_cut l)
    where
      go : In c u z (t ∷ R) → Turn M c R z y ⊎ (Turn M c R z b × Turn M c R a y) → Turn M c R u y ⊎ (Turn M c R u b × Turn M c R a y)
      go (here s) (inl w) =
          inr (
            subst (λ (v : ℕ). Turn M c R v b) (sym (rot_link d tri s).0) rest,
            subst (λ (v : ℕ). Turn M c R v y) (rot_link d tri s).1
                w,
          )
      go (here s) (inr w) = inr (subst (λ (v : ℕ). Turn M c R v b) (sym (rot_link d tri s).0) rest, w.1)
      go (there j) (inl w) = inl (turn j w)
      go (there j) (inr w) = inr (turn j w.0, w.1)
  turn_cut {M} {u} {y} (jump {w = w} f g l) = go (turn_cut l)
    where
      go : Turn M c R w y ⊎ (Turn M c R w b × Turn M c R a y) → Turn M c R u y ⊎ (Turn M c R u b × Turn M c R a y)
      go (inl v) = inl (jump f g v)
      go (inr v) = inr (jump f g v.0, v.1)

-- where a path through all triangles first meets a built one, and where it last does
module _ (M R B : List Triangle) (c : ℕ) (part : (x y z : ℕ) → In x y z M → In x y z R ⊎ In x y z B) where
  pub first_built : {u m n : ℕ} → Links c M u m → In c m n B → (y : ℕ) × (k : ℕ) × Links c R u y × In c y k B
  first_built {u} {m} {n} stop j = (u, n, stop, j)
  first_built {u} {m} {n} (link {z = z} i l) j = go (part c u z i) (first_built l j)
    where
      go : In c u z R ⊎ In c u z B → (y : ℕ) × (k : ℕ) × Links c R z y × In c y k B → (y : ℕ) × (k : ℕ) × Links c R u y × In c y k B
      go (inl h) r = (r.0, r.1, link h r.2, r.3)
      go (inr h) r = (u, z, stop, h)

  pub last_built : {u b : ℕ} → Links c M u b → Links c R u b ⊎ ((x : ℕ) × (k : ℕ) × Links c R x b × In c k x B)
  last_built stop = inl stop
  last_built {u} {b} (link {z = z} i l) = go (part c u z i) (last_built l)
    where
      go : In c u z R ⊎ In c u z B → Links c R z b ⊎ ((x : ℕ) × (k : ℕ) × Links c R x b × In c k x B)
          → Links c R u b ⊎ ((x : ℕ) × (k : ℕ) × Links c R x b × In c k x B)
      go h (inr r) = inr r
      go (inl h) (inl w) = inl (link h w)
      go (inr h) (inl w) = inr (z, u, w, h)

-- two triangles of one fan: turning on from one leads to the other
run_reach : (c : ℕ) (M : List Triangle) (m : ℕ) (ns : List ℕ) (x z : ℕ) → Linked c M (m ∷ ns) → Pair x z (m ∷ ns) → Links c M m x
run_reach c M m (n ∷ ns) x z r (inl e) = subst (λ (v : ℕ). Links c M m v) e.0 stop
run_reach c M m (n ∷ ns) x z r (inr p) = link r.0 (run_reach c M n ns x z r.1 p)
run_reach c M m mathlib.Core.List.[] x z r x4 = elim x4 [ ]

run_order : (c : ℕ) (M : List Triangle) (ns : List ℕ) (b a m n : ℕ) → Linked c M ns → Pair b a ns → Pair m n ns
    → Links c M a m ⊎ (Links c M n b ⊎ (b ≡ m))
run_order c M (k ∷ (l ∷ ns)) b a m n r (inl e) (inl g) = inr (inr (sym e.0 ∙ g.0))
run_order c M (k ∷ (l ∷ ns)) b a m n r (inl e) (inr q) =
    inl (subst (λ (v : ℕ). Links c M v m) e.1 (run_reach c M l ns m n r.1 q))
run_order c M (k ∷ (l ∷ ns)) b a m n r (inr p) (inl g) =
    inr (inl (subst (λ (v : ℕ). Links c M v b) g.1 (run_reach c M l ns b a r.1 p)))
run_order c M (k ∷ (l ∷ ns)) b a m n r (inr p) (inr q) = run_order c M (l ∷ ns) b a m n r.1 p q
run_order c M mathlib.Core.List.[] b a m n r x3 _ = elim x3 [ ]
run_order c M (k ∷ mathlib.Core.List.[]) b a m n r x8 _ = elim x8 [ ]

pub fan_order : (M : List Triangle) (c b a m n : ℕ) → Neighbours M c → In c b a M → In c m n M → Links c M a m ⊎ (Links c M n b ⊎ (b ≡ m))
fan_order M c b a m n f i j = run_order c M f.fan b a m n f.run (f.whole b a i) (f.whole m n j)
