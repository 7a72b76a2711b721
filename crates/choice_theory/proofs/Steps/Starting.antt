-- Start: when no loop is live, a triangle that is left has only vertices without a built triangle, and what packing keeps holds after it is
-- built.
-- Assumes nothing.
use Prim.Native.Nat.{ℕ, ◌+◌, ◌≤◌}
use native.Mathlib.Omega.{arith}
use mathlib.Core.Bool.{true, false, false≢true}
use mathlib.Core.List.{List, [], ◌∷◌}
use mathlib.Core.Path.{◌≡◌, refl, sym, ap₂, ◌∙◌, subst}
use mathlib.Core.Logic.{◌⊎◌, inl, inr}
use Rattle.rules.specs.declared.Triangle.{Triangle}
use Rattle.rules.specs.Count.{hit}
use Rattle.rules.specs.Ring.{opened, Ring}
use Rattle.rules.specs.Fan.{Neighbours}
use Rattle.rules.specs.Right.{Links}
use Rattle.rules.specs.Triangle.{Rot, at_p, at_q, at_r, In, here, there}
use Rattle.choice_theory.specs.Spots.{Unused}
use Rattle.choice_theory.proofs.Turning.Turn.{Turn}
use Rattle.choice_theory.proofs.Places.Corners.{Filled}
use Rattle.choice_theory.proofs.Steps.Tally.{total}
use Rattle.mesh_theory.proofs.Fans.Corners.{rot_next}
use Rattle.choice_theory.proofs.Turning.Links.{in_last, free_rot, Last, last_link, first_link, turn_round, turn_map}
use Rattle.choice_theory.proofs.Turning.Cuts.{first_built, last_built, fan_order, turn_cut}
use Rattle.choice_theory.proofs.Steps.Legal.{Lawful, counted, hit_zero}
use Rattle.choice_theory.proofs.Steps.Triangle.{Keeps}
use Rattle.counting.proofs.Counts.{hit_yes}

module _ (M R B : List Triangle) (rims : List Ring) (k : Keeps M R B [] rims) (fan : (c : ℕ) → Neighbours M c) where
  -- with no live loop, a vertex with a built triangle has no triangle left
  pub all_built : (c b a m n : ℕ) → In c b a R → In c m n B → ⊥
  all_built c b a m n i j = go (fan_order M c b a m n (fan c) (k.sub_r c b a i) (k.sub_b c m n j))
    where
      on : (y : ℕ) × (l : ℕ) × Links c R a y × In c y l B → ⊥
      on r = end (last_link r.2)
        where
          end : (a ≡ r.0) ⊎ Last c R a r.0 → ⊥
          end (inl e) = let h = k.waits c r.0 r.1 b r.3 (subst (λ (v : ℕ). In v c b R) e (in_last i)) in omega arith
          end (inr s) = let h = k.waits c r.0 r.1 s.mid r.3 (in_last s.final) in omega arith

      start : (x l : ℕ) → Links c R x b → In c l x B → ⊥
      start x l w h = end (first_link w)
        where
          end : (x ≡ b) ⊎ ((z : ℕ) × In c x z R × Links c R z b) → ⊥
          end (inl e) = let q = k.waits x c l a (in_last h) (subst (λ (v : ℕ). In c v a R) (sym e) i) in omega arith
          end (inr s) = let q = k.waits x c l s.0 (in_last h) s.1 in omega arith

      back : Links c R n b ⊎ ((x : ℕ) × (l : ℕ) × Links c R x b × In c l x B) → ⊥
      back (inl w) = start n m w j
      back (inr r) = start r.0 r.1 r.2 r.3

      go : Links c M a m ⊎ (Links c M n b ⊎ (b ≡ m)) → ⊥
      go (inl l) = on (first_built M R B c k.part l j)
      go (inr (inl l)) = back (last_built M R B c k.part l)
      go (inr (inr e)) = k.apart c b a n i (subst (λ (v : ℕ). In c v n B) (sym e) j)

module _ (M R B : List Triangle) (rims : List Ring) (p q r : ℕ)
    (k : Keeps M (record { p = p; q = q; r = r } ∷ R) B [] rims) (fan : (c : ℕ) → Neighbours M c) where
  tri : Rot (record { p = p; q = q; r = r }) p q r
  tri = at_p refl refl refl

  -- the three vertices have no built triangle
  none_p : (m n : ℕ) → In p m n B → ⊥
  none_p m n i = all_built M (record { p = p; q = q; r = r } ∷ R) B rims k fan p q r m n (here tri) i

  none_q : (m n : ℕ) → In q m n B → ⊥
  none_q m n i = all_built M (record { p = p; q = q; r = r } ∷ R) B rims k fan q r p m n (here (rot_next tri)) i

  none_r : (m n : ℕ) → In r m n B → ⊥
  none_r m n i = all_built M (record { p = p; q = q; r = r } ∷ R) B rims k fan r p q m n (here (rot_next (rot_next tri))) i

  -- a vertex of t has no built triangle
  none : (x y z : ℕ) → Rot (record { p = p; q = q; r = r }) x y z → (m n : ℕ) → In x m n B → ⊥
  none x y z (at_p a b c) m n i = none_p m n (subst (λ (v : ℕ). In v m n B) (sym a) i)
  none x y z (at_q a b c) m n i = none_q m n (subst (λ (v : ℕ). In v m n B) (sym a) i)
  none x y z (at_r a b c) m n i = none_r m n (subst (λ (v : ℕ). In v m n B) (sym a) i)

  -- the gap of a corner: t leads from b to a about c
  gap : (a b c : ℕ) → Rot (record { p = p; q = q; r = r }) b a c → Filled M R a c b
  gap a b c s = go (turn_cut (record { p = p; q = q; r = r }) R a b c k.once.1 s
      (turn_map left (turn_round M c b a (fan c) (k.sub_r c b a (here (rot_next (rot_next s)))))))
    where
      left : (v w : ℕ) → In c v w M → In c v w (record { p = p; q = q; r = r } ∷ R)
      left v w i = pick (k.part c v w i)
        where
          pick : In c v w (record { p = p; q = q; r = r } ∷ R) ⊎ In c v w B → In c v w (record { p = p; q = q; r = r } ∷ R)
          pick (inl j) = j
          pick (inr j) = absurd (none c b a (rot_next (rot_next s)) v w j)

      go : Turn M c R a b ⊎ (Turn M c R a b × Turn M c R a b) → Filled M R a c b
      go (inl w) = w
      go (inr w) = w.0

  no_rim : (x y : ℕ) → ((m n : ℕ) → In x m n B → ⊥) → Lawful B (total x y [] + total x y rims) x y → total x y rims ≡ 0
  no_rim x y n (inl e) = omega arith
  no_rim x y n (inr e) = absurd (n y e.1.0 e.1.1)

  abbrev ring : List Ring
  ring = (opened p ∷ (opened q ∷ (opened r ∷ []))) ∷ []

  -- the opposite of an edge of t is not used
  free_back : (x y z : ℕ) → Rot (record { p = p; q = q; r = r }) x y z → Unused y x (record { p = p; q = q; r = r } ∷ B)
  free_back x y z s w (there i) = none y z x (rot_next s) x w i
  free_back x y z s w (here u) = twice s u
    where
      d : ((p ≡ q) → ⊥) × ((q ≡ r) → ⊥) × ((r ≡ p) → ⊥)
      d = k.once.1

      twice : Rot (record { p = p; q = q; r = r }) x y z → Rot (record { p = p; q = q; r = r }) y x w → ⊥
      twice (at_p a b c) (at_p a' b' c') = d.0 (a' ∙ sym b)
      twice (at_p a b c) (at_q a' b' c') = d.2 (b' ∙ sym a)
      twice (at_p a b c) (at_r a' b' c') = d.1 (b ∙ sym a')
      twice (at_q a b c) (at_p a' b' c') = d.2 (b ∙ sym a')
      twice (at_q a b c) (at_q a' b' c') = d.1 (a' ∙ sym b)
      twice (at_q a b c) (at_r a' b' c') = d.0 (b' ∙ sym a)
      twice (at_r a b c) (at_p a' b' c') = d.1 (b' ∙ sym a)
      twice (at_r a b c) (at_q a' b' c') = d.0 (b ∙ sym a')
      twice (at_r a b c) (at_r a' b' c') = d.2 (a' ∙ sym b)

  abbrev Count : ℕ → ℕ → ℕ → ℕ → Type 0
  Count x y u v = ((hit x y u v ≡ 0) × (u ≡ x → v ≡ y → ⊥)) ⊎ ((hit x y u v ≡ 1) × (u ≡ x) × (v ≡ y))

  legal_start : (x y : ℕ) → Lawful (record { p = p; q = q; r = r } ∷ B)
      (total x y ((opened p ∷ (opened q ∷ (opened r ∷ []))) ∷ []) + total x y rims) x y
  legal_start x y = go (counted x y p q) (counted x y q r) (counted x y r p)
    where
      d : ((p ≡ q) → ⊥) × ((q ≡ r) → ⊥) × ((r ≡ p) → ⊥)
      d = k.once.1

      yes : {z : ℕ} → Rot (record { p = p; q = q; r = r }) x y z → total x y ((opened p ∷ (opened q ∷ (opened r ∷ []))) ∷ []) ≡ 1
          → Lawful (record { p = p; q = q; r = r } ∷ B) (total x y ((opened p ∷ (opened q ∷ (opened r ∷ []))) ∷ []) + total x y rims) x y
      yes {z} s h =
          let e = no_rim x y (none x y z s) (k.legal x y) in
          inr (omega arith, (z, here s), free_back x y z s)

      go : Count x y p q → Count x y q r → Count x y r p
          → Lawful (record { p = p; q = q; r = r } ∷ B) (total x y ((opened p ∷ (opened q ∷ (opened r ∷ []))) ∷ []) + total x y rims) x y
      go (inr a) b c =
          let i = a.0 in
          let j = hit_zero x y q r (λ u v. d.0 (a.1 ∙ sym u)) in
          let l = hit_zero x y r p (λ u v. d.2 (u ∙ sym a.1)) in
          yes (at_p a.1 a.2 refl) (omega arith)
      go (inl a) (inr b) c =
          let i = a.0 in
          let j = b.0 in
          let l = hit_zero x y r p (λ u v. d.1 (b.1 ∙ sym u)) in
          yes (at_q b.1 b.2 refl) (omega arith)
      go (inl a) (inl b) (inr c) =
          let i = a.0 in
          let j = b.0 in
          let l = c.0 in
          yes (at_r c.1 c.2 refl) (omega arith)
      go (inl a) (inl b) (inl c) = other (k.legal x y)
        where
          other : Lawful B (total x y [] + total x y rims) x y
              → Lawful (record { p = p; q = q; r = r } ∷ B) (total x y ((opened p ∷ (opened q ∷ (opened r ∷ []))) ∷ []) + total x y rims) x
              y
          other (inl h) = let i = a.0 in let j = b.0 in let l = c.0 in inl (omega arith)
          other (inr h) =
              let i = a.0 in
              let j = b.0 in
              let l = c.0 in
              let n = h.0 in
              inr (omega arith, (h.1.0, there h.1.1), free)
            where
              free : Unused y x (record { p = p; q = q; r = r } ∷ B)
              free w (here s) = none x w y (rot_next s) y h.1.0 h.1.1
              free w (there g) = h.2 w g

  pub keeps_start : Keeps M R (record { p = p; q = q; r = r } ∷ B) ((opened p ∷ (opened q ∷ (opened r ∷ []))) ∷ []) rims
  keeps_start = record {
    once_m = k.once_m;
    once = k.once.2;
    sub_r = λ x y z i. k.sub_r x y z (there i);
    sub_b = built;
    apart = both;
    part = λ x y z i. parts x y z (k.part x y z i);
    marks = ((unmarked, (unmarked, (unmarked, tt))), tt);
    gaps = ((gap r q p (rot_next tri), (gap p r q (rot_next (rot_next tri)), (gap q p r tri, tt))), tt);
    legal = legal_start;
    waits = stands;
  }
    where
      unmarked : {A : Type 0} → true ≡ false → A
      unmarked h = absurd (false≢true (sym h))

      built : (x y z : ℕ) → In x y z (record { p = p; q = q; r = r } ∷ B) → In x y z M
      built x y z (here s) = k.sub_r x y z (here s)
      built x y z (there i) = k.sub_b x y z i

      both : (x y z w : ℕ) → In x y z R → In x y w (record { p = p; q = q; r = r } ∷ B) → ⊥
      both x y z w i (here s) = free_rot R k.once.0 s z i
      both x y z w i (there j) = k.apart x y z w (there i) j

      parts : (x y z : ℕ) → In x y z (record { p = p; q = q; r = r } ∷ R) ⊎ In x y z B
          → In x y z R ⊎ In x y z (record { p = p; q = q; r = r } ∷ B)
      parts x y z (inl (here s)) = inr (here s)
      parts x y z (inl (there i)) = inl i
      parts x y z (inr i) = inr (there i)

      stands : (x y z w : ℕ) → In x y z (record { p = p; q = q; r = r } ∷ B) → In y x w R
          → 1 ≤ total x y ((opened p ∷ (opened q ∷ (opened r ∷ []))) ∷ [])
      stands x y z w (here (at_p a b c)) j = let i = ap₂ (hit x y) a b ∙ hit_yes x y in omega arith
      stands x y z w (here (at_q a b c)) j = let i = ap₂ (hit x y) a b ∙ hit_yes x y in omega arith
      stands x y z w (here (at_r a b c)) j = let i = ap₂ (hit x y) a b ∙ hit_yes x y in omega arith
      stands x y z w (there i) j = let h = k.waits x y z w i (there j) in absurd (omega arith)
