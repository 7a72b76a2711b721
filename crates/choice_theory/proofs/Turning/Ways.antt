-- The packer's turning follows the links: the look-up, the fuel, the two ways of turning.
-- Assumes nothing.
use Prim.Native.Nat.{ℕ, zero, suc, ◌≤◌}
use native.Mathlib.Omega.{arith}
use mathlib.Core.Bool.{Bool, true, false, ◌&&◌, false≢true}
use mathlib.Core.List.{List, [], ◌∷◌}
use mathlib.Core.Path.{◌≡◌, refl, sym, ap, ◌∙◌, subst}
use mathlib.Core.Logic.{◌⊎◌, inl, inr}
use lib.ListN.{length}
use lib.Dec.{eqb}
use borrow.Author.Tests.{eqb-true, eq-eqb}
use Rattle.rules.specs.declared.Triangle.{Triangle}
use Rattle.rules.specs.Across.{Across}
use Rattle.rules.specs.Across.{Found, Nothing}
use Rattle.rules.specs.Across.{in_triangle, across}
use Rattle.rules.specs.Choice.{turn_in, turn_out}
use Rattle.rules.specs.Right.{Links, stop, link}
use Rattle.rules.specs.Triangle.{Rot, at_p, at_q, at_r, In, here, there}
use Rattle.mesh_theory.specs.Fans.Corner.{Once}
use Rattle.choice_theory.specs.Spots.{Unused}
use Rattle.mesh_theory.proofs.Fans.Corners.{rot_next}
use Rattle.choice_theory.proofs.Turning.Links.{in_last, once_func, free_rot}
use Rattle.counting.proofs.Bools.{and_both, and_true}

-- what a look at one triangle tells of its having x→y
unfoldable pub Told : ℕ → ℕ → Triangle → Across → Type 0
Told x y t (Found n k z) = Rot t x y z
Told x y t Nothing = (z : ℕ) → Rot t x y z → ⊥

told_by : (x y : ℕ) (t : Triangle) (u v w : Bool) → (eqb t.p x && eqb t.q y) ≡ u → (eqb t.q x && eqb t.r y) ≡ v
    → (eqb t.r x && eqb t.p y) ≡ w
    → Told x y t (elim u [
      | true ↦ Found 0 2 t.r
      | false ↦
          elim v [ true ↦ Found 0 0 t.p | false ↦ elim w [ true ↦ Found 0 1 t.q | false ↦ Nothing ] ]
    ])
unfolding Told
told_by x y t true v w f g h = let r = and_true _ _ f in at_p (eqb-true _ _ r.0) (eqb-true _ _ r.1) refl
told_by x y t false true w f g h = let r = and_true _ _ g in at_q (eqb-true _ _ r.0) (eqb-true _ _ r.1) refl
told_by x y t false false true f g h = let r = and_true _ _ h in at_r (eqb-true _ _ r.0) (eqb-true _ _ r.1) refl
told_by x y t false false false f g h = no
  where
    no : (z : ℕ) → Rot t x y z → ⊥
    no z (at_p a b c) = false≢true (sym f ∙ and_both (eqb t.p x) (eqb t.q y) (eq-eqb _ _ a) (eq-eqb _ _ b))
    no z (at_q a b c) = false≢true (sym g ∙ and_both (eqb t.q x) (eqb t.r y) (eq-eqb _ _ a) (eq-eqb _ _ b))
    no z (at_r a b c) = false≢true (sym h ∙ and_both (eqb t.r x) (eqb t.p y) (eq-eqb _ _ a) (eq-eqb _ _ b))

pub told : (x y : ℕ) (t : Triangle) → Told x y t (in_triangle x y t)
unfolding in_triangle
told x y t = told_by x y t _ _ _ refl refl refl

-- what the look-up answers
pub Looked : ℕ → ℕ → List Triangle → Across → Type 0
Looked x y ts Nothing = Unused x y ts
Looked x y ts (Found n k z) = In x y z ts

looked_here : (x y : ℕ) (t : Triangle) (ts : List Triangle) (m : Across) → Told x y t m → Unused x y ts → Looked x y (t ∷ ts) m
unfolding Looked Told
looked_here x y t ts Nothing h k = no
  where
    no : Unused x y (t ∷ ts)
    no z (here r) = h z r
    no z (there i) = k z i
looked_here x y t ts (Found n k z) h u = here h

looked_by : (x y : ℕ) (t : Triangle) (ts : List Triangle) (m : Across) → Looked x y ts m
    → Looked x y (t ∷ ts) (elim m [ Found n k z ↦ Found (suc n) k z | Nothing ↦ in_triangle x y t ])
unfolding Looked
looked_by x y t ts (Found n k z) h = there h
looked_by x y t ts Nothing h = looked_here x y t ts (in_triangle x y t) (told x y t) h

pub looked : (x y : ℕ) (ts : List Triangle) → Looked x y ts (across x y ts)
unfolding Looked across
looked x y [] = λ z i. elim i [ ]
looked x y (t ∷ ts) = looked_by x y t ts (across x y ts) (looked x y ts)

looked_none : (x y z : ℕ) (ts : List Triangle) → Looked x y ts Nothing → In x y z ts → ⊥
unfolding Looked
looked_none x y z ts h i = h z i

looked_has : (x y w n k : ℕ) (ts : List Triangle) → Looked x y ts (Found n k w) → In x y w ts
unfolding Looked
looked_has x y w n k ts h = h

-- the look-up finds the triangle x y z
pub record Finds (x y z : ℕ) (ts : List Triangle) : Type 0 where
  pub number : ℕ
  pub corner : ℕ
  pub found : across x y ts ≡ Found number corner z

pub across_some : (x y z : ℕ) (ts : List Triangle) → Once ts → In x y z ts → Finds x y z ts
across_some x y z ts o i = go (across x y ts) refl (looked x y ts)
  where
    go : (m : Across) → across x y ts ≡ m → Looked x y ts m → Finds x y z ts
    go Nothing e h = absurd (looked_none x y z ts h i)
    go (Found n k w) e h = record { number = n; corner = k; found = e ∙ ap (Found n k) (once_func ts o (looked_has x y w n k ts h) i) }

pub across_none : (x y : ℕ) (ts : List Triangle) → Unused x y ts → across x y ts ≡ Nothing
across_none x y ts f = go (across x y ts) (looked x y ts)
  where
    go : (m : Across) → Looked x y ts m → m ≡ Nothing
    go Nothing h = refl
    go (Found n k w) h = absurd (f w (looked_has x y w n k ts h))

-- paths by their length
pub data Steps (c : ℕ) (ts : List Triangle) : ℕ → ℕ → ℕ → Type 0 where
  s_stop : {x : ℕ} → Steps c ts zero x x
  s_link : {n x z y : ℕ} → In c x z ts → Steps c ts n z y → Steps c ts (suc n) x y

-- the same from the end back
pub data Backs (c : ℕ) (ts : List Triangle) : ℕ → ℕ → ℕ → Type 0 where
  b_stop : {x : ℕ} → Backs c ts zero x x
  b_link : {n x z y : ℕ} → In x c z ts → Backs c ts n z y → Backs c ts (suc n) x y

backs_snoc : {c : ℕ} {ts : List Triangle} {n x y z : ℕ} → Backs c ts n x y → In y c z ts → Backs c ts (suc n) x z
backs_snoc b_stop i = b_link i b_stop
backs_snoc (b_link j b) i = b_link j (backs_snoc b i)

pub steps_back : {c : ℕ} {ts : List Triangle} {n x y : ℕ} → Steps c ts n x y → Backs c ts n y x
steps_back s_stop = b_stop
steps_back (s_link i s) = backs_snoc (steps_back s) (in_last i)

-- the triangle of a membership taken out
unfoldable pub others : {x y z : ℕ} {ts : List Triangle} → In x y z ts → List Triangle
others (here {ts = ts} r) = ts
others (there {t = t} i) = t ∷ others i

pub others_length : {x y z : ℕ} {ts : List Triangle} (i : In x y z ts) → length ts ≡ suc (length (others i))
unfolding others
others_length (here r) = refl
others_length (there i) = ap suc (others_length i)

pub others_sub : {x y z u v w : ℕ} {ts : List Triangle} (i : In x y z ts) → In u v w (others i) → In u v w ts
unfolding others
others_sub (here r) j = there j
others_sub (there i) (here r) = here r
others_sub (there i) (there j) = there (others_sub i j)

pub others_once : {x y z : ℕ} (ts : List Triangle) (i : In x y z ts) → Once ts → Once (others i)
unfolding others
others_once (t ∷ ts) (here r) o = o.2
others_once (t ∷ ts) (there i) o = (
  (λ z j. o.0.0 z (others_sub i j), λ z j. o.0.1 z (others_sub i j), λ z j. o.0.2 z (others_sub i j)),
  o.1,
  others_once ts i
      o.2,
)
others_once {y = y} {z = z} [] i o = elim i [ ]

pub others_free : {x y z : ℕ} (ts : List Triangle) (i : In x y z ts) → Once ts → Unused z x (others i)
unfolding others
others_free (t ∷ ts) (here r) o w j = free_rot ts o.0 (rot_next (rot_next r)) w j
others_free (t ∷ ts) (there i) o w (here r) = free_rot ts o.0 r _ (in_last i)
others_free (t ∷ ts) (there i) o w (there j) = others_free ts i o.2 w j
others_free {y = y} {z = z} [] i o w j = elim i [ ]

pub rot_mid : {t : Triangle} {c x z m n : ℕ} → (((t.p ≡ t.q) → ⊥) × ((t.q ≡ t.r) → ⊥) × ((t.r ≡ t.p) → ⊥))
    → Rot t c x z → Rot t c m n → m ≡ x
rot_mid d (at_p a b c) (at_p a' b' c') = sym b' ∙ b
rot_mid d (at_p a b c) (at_q a' b' c') = absurd (d.0 (a ∙ sym a'))
rot_mid d (at_p a b c) (at_r a' b' c') = absurd (d.2 (a' ∙ sym a))
rot_mid d (at_q a b c) (at_p a' b' c') = absurd (d.0 (a' ∙ sym a))
rot_mid d (at_q a b c) (at_q a' b' c') = sym b' ∙ b
rot_mid d (at_q a b c) (at_r a' b' c') = absurd (d.1 (a ∙ sym a'))
rot_mid d (at_r a b c) (at_p a' b' c') = absurd (d.2 (a ∙ sym a'))
rot_mid d (at_r a b c) (at_q a' b' c') = absurd (d.1 (a' ∙ sym a))
rot_mid d (at_r a b c) (at_r a' b' c') = sym b' ∙ b

pub others_in : {c x z m n : ℕ} (ts : List Triangle) (i : In c x z ts) → Once ts → In c m n ts → In c m n (others i) ⊎ (m ≡ x)
unfolding others
others_in (t ∷ ts) (here r) o (here s) = inr (rot_mid o.1 r s)
others_in (t ∷ ts) (here r) o (there j) = inl j
others_in (t ∷ ts) (there i) o (here s) = inl (here s)
others_in {c} {x} {z} {m} {n} (t ∷ ts) (there i) o (there j) = go (others_in ts i o.2 j)
  where
    go : In c m n (others i) ⊎ (m ≡ x) → In c m n (t ∷ others i) ⊎ (m ≡ x)
    go (inl k) = inl (there k)
    go (inr e) = inr e
others_in {c = c} {x = x} {z = z} {m = m} {n = n} [] i o _ = elim i [ ]

-- a path that starts where no triangle enters never comes back
avoid : {c x z : ℕ} (ts : List Triangle) {m w y : ℕ} (i : In c x z ts) → Once ts → Unused x c ts → In m c w ts → Links c ts m y
    → Links c (others i) m y
avoid ts i o f e stop = stop
avoid {c = c} {x = x} {z = z} ts {m = m} {w = w} {y = y} i o f e (link {z = n} j l) = go (avoid ts i o f (in_last j) l) (others_in ts i o j)
  where
    go : Links c (others i) n y → In c m n (others i) ⊎ (m ≡ x) → Links c (others i) m y
    go r (inl k) = link k r
    go r (inr q) = absurd (f w (subst (λ (v : ℕ). In v c w ts) q e))

steps_sub : {c x z : ℕ} {ts : List Triangle} (i : In c x z ts) {n u y : ℕ} → Steps c (others i) n u y → Steps c ts n u y
steps_sub i s_stop = s_stop
steps_sub i (s_link j s) = s_link (others_sub i j) (steps_sub i s)

pub record Bounded (c : ℕ) (ts : List Triangle) (x y : ℕ) (n : ℕ) : Type 0 where
  pub count : ℕ
  pub way : Steps c ts count x y
  pub few : count ≤ n

bounded_by : {c x y : ℕ} (n : ℕ) (ts : List Triangle) → length ts ≡ n → Once ts → Unused x c ts → Links c ts x y → Bounded c ts x y n
bounded_by zero ts e o f stop = record { count = 0; way = s_stop; few = omega arith }
bounded_by (suc n) ts e o f stop = record { count = 0; way = s_stop; few = omega arith }
bounded_by zero ts e o f (link i l) = let d = others_length i in absurd (omega arith)
bounded_by (suc n) ts e o f (link i l) =
    let d = others_length i in
    let r = bounded_by n (others i) (omega arith) (others_once ts i o) (others_free ts i o) (avoid ts i o f (in_last i) l) in
    record { count = suc r.count; way = s_link i (steps_sub i r.way); few = omega (arith, r.few) }

-- so a path from such a start has no more links than there are triangles
pub bounded : {c x y : ℕ} (ts : List Triangle) → Once ts → Unused x c ts → Links c ts x y → Bounded c ts x y (length ts)
bounded ts o f l = bounded_by (length ts) ts refl o f l

-- turning on
turn_out_by : {c x y k : ℕ} (n : ℕ) (ts : List Triangle) → Once ts → Unused c y ts → Steps c ts k x y → k ≤ n → turn_out n c x ts ≡ y
unfolding turn_out
turn_out_by zero ts o f s_stop h = refl
turn_out_by {c} {x} {y} (suc n) ts o f s_stop h = rw (turn_out, across_none c y ts f) refl
turn_out_by zero ts o f (s_link i s) h = absurd (omega arith)
turn_out_by {c} {x} {y} (suc n) ts o f (s_link {z = z} i s) h =
    rw (turn_out, (across_some c x z ts o i).found) (turn_out_by n ts o f s (omega arith))

turn_in_by : {c x y k : ℕ} (n : ℕ) (ts : List Triangle) → Once ts → Unused y c ts → Backs c ts k x y → k ≤ n → turn_in n c x ts ≡ y
unfolding turn_in
turn_in_by zero ts o f b_stop h = refl
turn_in_by {c} {x} {y} (suc n) ts o f b_stop h = rw (turn_in, across_none y c ts f) refl
turn_in_by zero ts o f (b_link i s) h = absurd (omega arith)
turn_in_by {c} {x} {y} (suc n) ts o f (b_link {z = z} i s) h =
    rw (turn_in, (across_some x c z ts o i).found) (turn_in_by n ts o f s (omega arith))

-- the packer's turning about c from a on ends at y
pub turn_out_lem : {c x y : ℕ} (ts : List Triangle) → Once ts → Unused x c ts → Unused c y ts → Links c ts x y
    → turn_out (length ts) c x ts ≡ y
turn_out_lem ts o f g l = let b = bounded ts o f l in turn_out_by (length ts) ts o g b.way b.few

-- and from y back ends at x
pub turn_in_lem : {c x y : ℕ} (ts : List Triangle) → Once ts → Unused x c ts → Links c ts x y → turn_in (length ts) c y ts ≡ x
turn_in_lem ts o f l = let b = bounded ts o f l in turn_in_by (length ts) ts o f (steps_back b.way) b.few

-- the look-up decides whether an edge is used
pub look : (x y : ℕ) (ts : List Triangle) → ((z : ℕ) × In x y z ts) ⊎ Unused x y ts
look x y ts = go (across x y ts) (looked x y ts)
  where
    go : (m : Across) → Looked x y ts m → ((z : ℕ) × In x y z ts) ⊎ Unused x y ts
    go Nothing h = inr (λ z i. looked_none x y z ts h i)
    go (Found n k w) h = inl (w, looked_has x y w n k ts h)
