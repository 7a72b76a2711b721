-- The first triangle of a piece: the edges of its ring stand once, are used, and their opposites are not.
-- Assumes nothing.
use Prim.Native.Nat.{ℕ, ◌+◌}
use native.Mathlib.Omega.{arith}
use mathlib.Core.List.{List, [], ◌∷◌}
use mathlib.Core.Path.{◌≡◌, refl, sym, ◌∙◌, subst}
use mathlib.Core.Logic.{◌⊎◌, inl, inr}
use Rattle.rules.specs.declared.Triangle.{Triangle}
use Rattle.rules.specs.Count.{hit}
use Rattle.rules.specs.Ring.{opened, Ring}
use Rattle.rules.specs.Triangle.{Rot, at_p, at_q, at_r, In, here, there}
use Rattle.choice_theory.specs.Spots.{Unused}
use Rattle.choice_theory.proofs.Steps.Tally.{total}
use Rattle.mesh_theory.proofs.Fans.Corners.{rot_next}
use Rattle.choice_theory.proofs.Steps.Legal.{Lawful, counted, hit_zero}

-- the first triangle of a piece, on three vertices that have no triangle yet
module _ (B : List Triangle) (rims : List Ring) (p q r : ℕ) (d0 : ((p ≡ q) → ⊥) × ((q ≡ r) → ⊥) × ((r ≡ p) → ⊥))
    (none_p : (m n : ℕ) → In p m n B → ⊥) (none_q : (m n : ℕ) → In q m n B → ⊥) (none_r : (m n : ℕ) → In r m n B → ⊥)
    (legal : (x y : ℕ) → Lawful B (total x y [] + total x y rims) x y) where
  -- a vertex of t has no built triangle
  none : (x y z : ℕ) → Rot (record { p = p; q = q; r = r }) x y z → (m n : ℕ) → In x m n B → ⊥
  none x y z (at_p a b c) m n i = none_p m n (subst (λ (v : ℕ). In v m n B) (sym a) i)
  none x y z (at_q a b c) m n i = none_q m n (subst (λ (v : ℕ). In v m n B) (sym a) i)
  none x y z (at_r a b c) m n i = none_r m n (subst (λ (v : ℕ). In v m n B) (sym a) i)

  no_rim : (x y : ℕ) → ((m n : ℕ) → In x m n B → ⊥) → Lawful B (total x y [] + total x y rims) x y → total x y rims ≡ 0
  no_rim x y n (inl e) = omega arith
  no_rim x y n (inr e) = absurd (n y e.1.0 e.1.1)

  abbrev ring : List Ring
  ring = (opened p ∷ (opened q ∷ (opened r ∷ []))) ∷ []

  -- the opposite of an edge of t is not used
  free_back : (x y z : ℕ) → Rot (record { p = p; q = q; r = r }) x y z → Unused y x (record { p = p; q = q; r = r } ∷ B)
  free_back x y z s w (there i) = none y z x (rot_next s) x w i
  free_back x y z s w (here u) = twice s u
    where
      d : ((p ≡ q) → ⊥) × ((q ≡ r) → ⊥) × ((r ≡ p) → ⊥)
      d = d0

      twice : Rot (record { p = p; q = q; r = r }) x y z → Rot (record { p = p; q = q; r = r }) y x w → ⊥
      twice (at_p a b c) (at_p a' b' c') = d.0 (a' ∙ sym b)
      twice (at_p a b c) (at_q a' b' c') = d.2 (b' ∙ sym a)
      twice (at_p a b c) (at_r a' b' c') = d.1 (b ∙ sym a')
      twice (at_q a b c) (at_p a' b' c') = d.2 (b ∙ sym a')
      twice (at_q a b c) (at_q a' b' c') = d.1 (a' ∙ sym b)
      twice (at_q a b c) (at_r a' b' c') = d.0 (b' ∙ sym a)
      twice (at_r a b c) (at_p a' b' c') = d.1 (b' ∙ sym a)
      twice (at_r a b c) (at_q a' b' c') = d.0 (b ∙ sym a')
      twice (at_r a b c) (at_r a' b' c') = d.2 (a' ∙ sym b)

  abbrev Count : ℕ → ℕ → ℕ → ℕ → Type 0
  Count x y u v = ((hit x y u v ≡ 0) × (u ≡ x → v ≡ y → ⊥)) ⊎ ((hit x y u v ≡ 1) × (u ≡ x) × (v ≡ y))

  pub legal_first : (x y : ℕ)
      → Lawful (record { p = p; q = q; r = r } ∷ B) (total x y ((opened p ∷ (opened q ∷ (opened r ∷ []))) ∷ []) + total x y rims) x y
  legal_first x y = go (counted x y p q) (counted x y q r) (counted x y r p)
    where
      d : ((p ≡ q) → ⊥) × ((q ≡ r) → ⊥) × ((r ≡ p) → ⊥)
      d = d0

      yes : {z : ℕ} → Rot (record { p = p; q = q; r = r }) x y z → total x y ((opened p ∷ (opened q ∷ (opened r ∷ []))) ∷ []) ≡ 1
          → Lawful (record { p = p; q = q; r = r } ∷ B) (total x y ((opened p ∷ (opened q ∷ (opened r ∷ []))) ∷ []) + total x y rims) x y
      yes {z} s h =
          let e = no_rim x y (none x y z s) (legal x y) in
          inr (omega arith, (z, here s), free_back x y z s)

      go : Count x y p q → Count x y q r → Count x y r p
          → Lawful (record { p = p; q = q; r = r } ∷ B) (total x y ((opened p ∷ (opened q ∷ (opened r ∷ []))) ∷ []) + total x y rims) x y
      go (inr a) b c =
          let i = a.0 in
          let j = hit_zero x y q r (λ u v. d.0 (a.1 ∙ sym u)) in
          let l = hit_zero x y r p (λ u v. d.2 (u ∙ sym a.1)) in
          yes (at_p a.1 a.2 refl) (omega arith)
      go (inl a) (inr b) c =
          let i = a.0 in
          let j = b.0 in
          let l = hit_zero x y r p (λ u v. d.1 (b.1 ∙ sym u)) in
          yes (at_q b.1 b.2 refl) (omega arith)
      go (inl a) (inl b) (inr c) =
          let i = a.0 in
          let j = b.0 in
          let l = c.0 in
          yes (at_r c.1 c.2 refl) (omega arith)
      go (inl a) (inl b) (inl c) = other (legal x y)
        where
          other : Lawful B (total x y [] + total x y rims) x y
              → Lawful (record { p = p; q = q; r = r } ∷ B) (total x y ((opened p ∷ (opened q ∷ (opened r ∷ []))) ∷ []) + total x y rims) x
              y
          other (inl h) = let i = a.0 in let j = b.0 in let l = c.0 in inl (omega arith)
          other (inr h) =
              let i = a.0 in
              let j = b.0 in
              let l = c.0 in
              let n = h.0 in
              inr (omega arith, (h.1.0, there h.1.1), free)
            where
              free : Unused y x (record { p = p; q = q; r = r } ∷ B)
              free w (here s) = none x w y (rot_next s) y h.1.0 h.1.1
              free w (there g) = h.2 w g
