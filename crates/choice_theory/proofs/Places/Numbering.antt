-- The vertices that have a number are those that have a built triangle.
-- Assumes nothing.
use Prim.Native.Nat.{ℕ, suc, ◌+◌, ◌<◌}
use native.Mathlib.Omega.{arith}
use mathlib.Core.Bool.{Bool, true, false, false≢true}
use mathlib.Core.List.{List, [], ◌∷◌, ◌++◌, append_assoc}
use mathlib.Core.Path.{◌≡◌, refl, sym, ap, ◌∙◌, subst}
use mathlib.Core.Logic.{◌⊎◌, inl, inr}
use lib.ListN.{length, length-append}
use lib.Dec.{eqb}
use borrow.Author.Tests.{eqb-true, eq-eqb}
use Rattle.rules.specs.declared.Triangle.{Triangle}
use Rattle.rules.specs.Choice.{has}
use Rattle.rules.specs.Pack.{index_of}
use Rattle.rules.specs.Triangle.{at_p, at_q, at_r, In, here, there}

-- c has a triangle in the list
abbrev pub Met : ℕ → List Triangle → Type 0
Met c ts = (m : ℕ) × (n : ℕ) × In c m n ts

pub record Numbered (vs : List ℕ) (B : List Triangle) : Type 0 where
  pub met : (c : ℕ) → has c vs ≡ true → Met c B
  pub numbered : (c : ℕ) → Met c B → has c vs ≡ true

pub not_met : (vs : List ℕ) (B : List Triangle) → Numbered vs B → (c : ℕ) → ((m n : ℕ) → In c m n B → ⊥) → has c vs ≡ false
not_met vs B n c h = go (has c vs) refl
  where
    go : (t : Bool) → has c vs ≡ t → t ≡ false
    go true e = let r = n.met c e in absurd (h r.0 r.1 r.2)
    go false e = refl

pub has_left : (x : ℕ) (vs ws : List ℕ) → has x vs ≡ true → has x (vs ++ ws) ≡ true
unfolding has
has_left x [] ws h = absurd (false≢true h)
has_left x (v ∷ vs) ws h = go (eqb x v) (has_left x vs ws) h
  where
    go : (t : Bool) → (has x vs ≡ true → has x (vs ++ ws) ≡ true) → ◌≡◌ {A = Bool} (elim t [ true ↦ true | false ↦ has x vs ]) true
        → ◌≡◌ {A = Bool} (elim t [ true ↦ true | false ↦ has x (vs ++ ws) ]) true
    go true ih g = refl
    go false ih g = ih g

has_right : (x : ℕ) (vs ws : List ℕ) → has x ws ≡ true → has x (vs ++ ws) ≡ true
unfolding has
has_right x [] ws h = h
has_right x (v ∷ vs) ws h = go (eqb x v) (has_right x vs ws h)
  where
    go : (t : Bool) → has x (vs ++ ws) ≡ true → ◌≡◌ {A = Bool} (elim t [ true ↦ true | false ↦ has x (vs ++ ws) ]) true
    go true g = refl
    go false g = g

has_split : (x : ℕ) (vs ws : List ℕ) → has x (vs ++ ws) ≡ true → (has x vs ≡ true) ⊎ (has x ws ≡ true)
unfolding has
has_split x [] ws h = inr h
has_split x (v ∷ vs) ws h = go (eqb x v) (has_split x vs ws) h
  where
    go : (t : Bool) → (has x (vs ++ ws) ≡ true → (has x vs ≡ true) ⊎ (has x ws ≡ true))
        → ◌≡◌ {A = Bool} (elim t [ true ↦ true | false ↦ has x (vs ++ ws) ]) true
        → (◌≡◌ {A = Bool} (elim t [ true ↦ true | false ↦ has x vs ]) true) ⊎ (has x ws ≡ true)
    go true ih g = inl refl
    go false ih g = ih g

has_one : (x v : ℕ) (vs : List ℕ) → has x (v ∷ vs) ≡ true → (x ≡ v) ⊎ (has x vs ≡ true)
unfolding has
has_one x v vs h = go (eqb x v) refl h
  where
    go : (t : Bool) → eqb x v ≡ t → ◌≡◌ {A = Bool} (elim t [ true ↦ true | false ↦ has x vs ]) true → (x ≡ v) ⊎ (has x vs ≡ true)
    go true e g = inl (eqb-true x v e)
    go false e g = inr g

has_first : (x v : ℕ) (vs : List ℕ) → v ≡ x → has x (v ∷ vs) ≡ true
unfolding has
has_first x v vs e = rw (has, eq-eqb x v (sym e)) refl

has_none : (x : ℕ) → has x [] ≡ true → ⊥
unfolding has
has_none x h = false≢true h

has_more : (x v : ℕ) (vs : List ℕ) → has x vs ≡ true → has x (v ∷ vs) ≡ true
has_more x v vs h = has_right x (v ∷ []) vs h

met_there : {c : ℕ} {t : Triangle} {B : List Triangle} → Met c B → Met c (t ∷ B)
met_there r = (r.0, r.1, there r.2)

-- a triangle all of whose vertices have numbers
pub numbered_old : (vs : List ℕ) (B : List Triangle) (t : Triangle) → Numbered vs B → Met t.p B → Met t.q B → Met t.r B
    → Numbered vs (t ∷ B)
numbered_old vs B t n mp mq mr = record { met = λ c h. met_there (n.met c h); numbered = to }
  where
    move : (x c : ℕ) → x ≡ c → Met x B → has c vs ≡ true
    move x c e m = n.numbered c (subst (λ (v : ℕ). Met v B) e m)

    to : (c : ℕ) → Met c (t ∷ B) → has c vs ≡ true
    to c (m, k, here (at_p x y z)) = move t.p c x mp
    to c (m, k, here (at_q x y z)) = move t.q c x mq
    to c (m, k, here (at_r x y z)) = move t.r c x mr
    to c (m, k, there i) = n.numbered c (m, k, i)

-- one whose third vertex gets the next number
pub numbered_new : (vs : List ℕ) (B : List Triangle) (t : Triangle) → Numbered vs B → Met t.p B → Met t.q B
    → Numbered (vs ++ (t.r ∷ [])) (t ∷ B)
numbered_new vs B t n mp mq = record { met = from; numbered = to }
  where
    move : (x c : ℕ) → x ≡ c → Met x B → has c (vs ++ (t.r ∷ [])) ≡ true
    move x c e m = has_left c vs (t.r ∷ []) (n.numbered c (subst (λ (v : ℕ). Met v B) e m))

    to : (c : ℕ) → Met c (t ∷ B) → has c (vs ++ (t.r ∷ [])) ≡ true
    to c (m, k, here (at_p x y z)) = move t.p c x mp
    to c (m, k, here (at_q x y z)) = move t.q c x mq
    to c (m, k, here (at_r x y z)) = has_right c vs (t.r ∷ []) (has_first c t.r [] x)
    to c (m, k, there i) = has_left c vs (t.r ∷ []) (n.numbered c (m, k, i))

    last : (c : ℕ) → (c ≡ t.r) ⊎ (has c [] ≡ true) → Met c (t ∷ B)
    last c (inl e) = (t.p, t.q, here (at_r (sym e) refl refl))
    last c (inr h) = absurd (has_none c h)

    from : (c : ℕ) → has c (vs ++ (t.r ∷ [])) ≡ true → Met c (t ∷ B)
    from c h = go (has_split c vs (t.r ∷ []) h)
      where
        go : (has c vs ≡ true) ⊎ (has c (t.r ∷ []) ≡ true) → Met c (t ∷ B)
        go (inl g) = met_there (n.met c g)
        go (inr g) = last c (has_one c t.r [] g)

-- the first triangle of a piece
pub numbered_start : (vs : List ℕ) (B : List Triangle) (t : Triangle) → Numbered vs B
    → Numbered (vs ++ (t.p ∷ (t.q ∷ (t.r ∷ [])))) (t ∷ B)
numbered_start vs B t n = record { met = from; numbered = to }
  where
    three : List ℕ
    three = t.p ∷ (t.q ∷ (t.r ∷ []))

    to : (c : ℕ) → Met c (t ∷ B) → has c (vs ++ (t.p ∷ (t.q ∷ (t.r ∷ [])))) ≡ true
    to c (m, k, here (at_p x y z)) = has_right c vs three (has_first c t.p (t.q ∷ (t.r ∷ [])) x)
    to c (m, k, here (at_q x y z)) = has_right c vs three (has_more c t.p (t.q ∷ (t.r ∷ [])) (has_first c t.q (t.r ∷ []) x))
    to c (m, k, here (at_r x y z)) =
        has_right c vs three (has_more c t.p (t.q ∷ (t.r ∷ [])) (has_more c t.q (t.r ∷ []) (has_first c t.r [] x)))
    to c (m, k, there i) = has_left c vs three (n.numbered c (m, k, i))

    at_3 : (c : ℕ) → (c ≡ t.r) ⊎ (has c [] ≡ true) → Met c (t ∷ B)
    at_3 c (inl e) = (t.p, t.q, here (at_r (sym e) refl refl))
    at_3 c (inr h) = absurd (has_none c h)

    at_2 : (c : ℕ) → (c ≡ t.q) ⊎ (has c (t.r ∷ []) ≡ true) → Met c (t ∷ B)
    at_2 c (inl e) = (t.r, t.p, here (at_q (sym e) refl refl))
    at_2 c (inr h) = at_3 c (has_one c t.r [] h)

    at_1 : (c : ℕ) → (c ≡ t.p) ⊎ (has c (t.q ∷ (t.r ∷ [])) ≡ true) → Met c (t ∷ B)
    at_1 c (inl e) = (t.q, t.r, here (at_p (sym e) refl refl))
    at_1 c (inr h) = at_2 c (has_one c t.q (t.r ∷ []) h)

    from : (c : ℕ) → has c (vs ++ (t.p ∷ (t.q ∷ (t.r ∷ [])))) ≡ true → Met c (t ∷ B)
    from c h = go (has_split c vs (t.p ∷ (t.q ∷ (t.r ∷ []))) h)
      where
        go : (has c vs ≡ true) ⊎ (has c (t.p ∷ (t.q ∷ (t.r ∷ []))) ≡ true) → Met c (t ∷ B)
        go (inl g) = met_there (n.met c g)
        go (inr g) = at_1 c (has_one c t.p (t.q ∷ (t.r ∷ [])) g)

-- the place of a vertex in the list of numbered ones tells it
pub index_tells : (x y : ℕ) (vs : List ℕ) → has x vs ≡ true → index_of x vs ≡ index_of y vs → x ≡ y
unfolding has index_of
index_tells x y [] h k = absurd (false≢true h)
index_tells x y (v ∷ vs) h k = go (eqb x v) (eqb y v) refl refl (index_tells x y vs) h k
  where
    go : (a b : Bool) → eqb x v ≡ a → eqb y v ≡ b → (has x vs ≡ true → index_of x vs ≡ index_of y vs → x ≡ y)
        → ◌≡◌ {A = Bool} (elim a [ true ↦ true | false ↦ has x vs ]) true
        → ◌≡◌ {A = ℕ} (elim a [ true ↦ 0 | false ↦ suc (index_of x vs) ]) (elim b [ true ↦ 0 | false ↦ suc (index_of y vs) ]) → x ≡ y
    go true true p q ih g l = eqb-true x v p ∙ sym (eqb-true y v q)
    go true false p q ih g l = absurd (omega arith)
    go false true p q ih g l = absurd (omega arith)
    go false false p q ih g l = ih g (omega arith)

-- a vertex that comes after all others has the next place
pub index_next : (x : ℕ) (vs ws : List ℕ) → has x vs ≡ false → index_of x (vs ++ (x ∷ ws)) ≡ length vs
unfolding has index_of
index_next x [] ws h = rw (index_of, eq-eqb x x refl) refl
index_next x (v ∷ vs) ws h = go (eqb x v) (index_next x vs ws) h
  where
    go : (a : Bool) → (has x vs ≡ false → index_of x (vs ++ (x ∷ ws)) ≡ length vs)
        → ◌≡◌ {A = Bool} (elim a [ true ↦ true | false ↦ has x vs ]) false
        → ◌≡◌ {A = ℕ} (elim a [ true ↦ 0 | false ↦ suc (index_of x (vs ++ (x ∷ ws))) ]) (suc (length vs))
    go true ih g = absurd (false≢true (sym g))
    go false ih g = ap suc (ih g)

-- a vertex that is neither among them nor the next
pub has_not : (x v : ℕ) (vs : List ℕ) → has x vs ≡ false → (x ≡ v → ⊥) → has x (vs ++ (v ∷ [])) ≡ false
has_not x v vs h n = go (has x (vs ++ (v ∷ []))) refl
  where
    no : (has x vs ≡ true) ⊎ (has x (v ∷ []) ≡ true) → ⊥
    no (inl e) = false≢true (sym h ∙ e)
    no (inr e) = last (has_one x v [] e)
      where
        last : (x ≡ v) ⊎ (has x [] ≡ true) → ⊥
        last (inl q) = n q
        last (inr q) = has_none x q

    go : (t : Bool) → has x (vs ++ (v ∷ [])) ≡ t → t ≡ false
    go true e = absurd (no (has_split x vs (v ∷ []) e))
    go false e = refl

-- the places that new and start give
pub index_new : (c : ℕ) (vs ws us : List ℕ) → ws ≡ (vs ++ (c ∷ [])) ++ us → has c vs ≡ false → index_of c ws ≡ length vs
index_new c vs ws us e h = ap (index_of c) (e ∙ append_assoc vs (c ∷ []) us) ∙ index_next c vs us h

pub index_start : (p q r : ℕ) (vs ws us : List ℕ) → ws ≡ (vs ++ (p ∷ (q ∷ (r ∷ [])))) ++ us → has p vs ≡ false → has q vs ≡ false
    → has r vs ≡ false
    → ((p ≡ q) → ⊥) × ((q ≡ r) → ⊥) × ((r ≡ p) → ⊥)
    → (index_of p ws ≡ length vs) × (index_of q ws ≡ suc (length vs)) × (index_of r ws ≡ suc (suc (length vs)))
index_start p q r vs ws us e hp hq hr d =
    let e1 : ws ≡ vs ++ (p ∷ (q ∷ (r ∷ us))) = e ∙ append_assoc vs (p ∷ (q ∷ (r ∷ []))) us in
    let e2 : ws ≡ (vs ++ (p ∷ [])) ++ (q ∷ (r ∷ us)) = e1 ∙ sym (append_assoc vs (p ∷ []) (q ∷ (r ∷ us))) in
    let e3 : ws ≡ ((vs ++ (p ∷ [])) ++ (q ∷ [])) ++ (r ∷ us) = e2 ∙ sym (append_assoc (vs ++ (p ∷ [])) (q ∷ []) (r ∷ us)) in
    let n1 = length-append vs (p ∷ []) in
    let n2 = length-append (vs ++ (p ∷ [])) (q ∷ []) in
    let h2 = has_not q p vs hq (λ g. d.0 (sym g)) in
    let h3 = has_not r q (vs ++ (p ∷ [])) (has_not r p vs hr d.2) (λ g. d.1 (sym g)) in
    let i2 : index_of q ws ≡ length (vs ++ (p ∷ [])) = ap (index_of q) e2 ∙ index_next q (vs ++ (p ∷ [])) (r ∷ us) h2 in
    let i3 : index_of r ws ≡ length ((vs ++ (p ∷ [])) ++ (q ∷ [])) =
    ap (index_of r) e3 ∙ index_next r ((vs ++ (p ∷ [])) ++ (q ∷ [])) us h3 in
    (ap (index_of p) e1 ∙ index_next p vs (q ∷ (r ∷ us)) hp, omega arith, omega arith)

pub has_last : (x v : ℕ) (vs : List ℕ) → x ≡ v → has x (vs ++ (v ∷ [])) ≡ true
has_last x v vs e = has_right x vs (v ∷ []) (has_first x v [] (sym e))

-- a vertex that has a number: it is below the count
pub index_below : (x : ℕ) (vs : List ℕ) → has x vs ≡ true → index_of x vs < length vs
unfolding has index_of
index_below x [] h = absurd (false≢true h)
index_below x (v ∷ vs) h = go (eqb x v) (index_below x vs) h
  where
    go : (t : Bool) → (has x vs ≡ true → index_of x vs < length vs) → ◌≡◌ {A = Bool} (elim t [ true ↦ true | false ↦ has x vs ]) true
        → elim t [ true ↦ 0 | false ↦ suc (index_of x vs) ] < suc (length vs)
    go true ih g = omega arith
    go false ih g = let k = ih g in omega arith
