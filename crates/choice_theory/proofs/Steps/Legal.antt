-- Legal states: an edge stands at most once in the rings, is then used, and its opposite is not. An operation that meets the edge rule
-- keeps that.
-- Assumes nothing.
use Prim.Native.Nat.{ℕ, ◌+◌, ◌≤◌}
use native.Mathlib.Omega.{arith}
use mathlib.Core.Bool.{Bool, true, false, ◌&&◌, false≢true}
use mathlib.Core.List.{List, ◌∷◌}
use mathlib.Core.Path.{◌≡◌, refl, sym, ap, ◌∙◌, subst}
use mathlib.Core.Logic.{◌⊎◌, inl, inr}
use lib.Dec.{eqb}
use borrow.Author.Tests.{eqb-true, eq-eqb}
use Rattle.rules.specs.declared.Triangle.{Triangle}
use Rattle.rules.specs.declared.Operation.{Operation}
use Rattle.rules.specs.Count.{num, hit}
use Rattle.rules.specs.Ring.{Node, Ring, vertex}
use Rattle.rules.specs.Triangle.{at_p, at_q, at_r, In, here, there}
use Rattle.mesh_theory.specs.Fans.Corner.{Once}
use Rattle.choice_theory.specs.Spots.{Unused}
use Rattle.choice_theory.proofs.Steps.Surgery.{triangle_at, Surgery}
use Rattle.choice_theory.proofs.Steps.Tally.{total, glues_a, glues_b, when, unless}
use Rattle.choice_theory.proofs.Steps.Tallies.{total_step}
use Rattle.counting.proofs.Bools.{and_both, and_true}
use Rattle.counting.proofs.Counts.{hit_yes}

-- an edge that stands n times in the rings
abbrev pub Lawful : List Triangle → ℕ → ℕ → ℕ → Type 0
Lawful B n x y = (n ≡ 0) ⊎ ((n ≡ 1) × ((z : ℕ) × In x y z B) × Unused y x B)

abbrev pub Legal : List Triangle → List Ring → Type 0
Legal B ls = (x y : ℕ) → Lawful B (total x y ls) x y

abbrev pub Counted : ℕ → ℕ → ℕ → ℕ → Type 0
Counted x y u v = ((hit x y u v ≡ 0) × (u ≡ x → v ≡ y → ⊥)) ⊎ ((hit x y u v ≡ 1) × (u ≡ x) × (v ≡ y))

pub counted : (x y u v : ℕ) → Counted x y u v
unfolding hit
counted x y u v = go (eqb x u && eqb y v) refl
  where
    go : (t : Bool) → eqb x u && eqb y v ≡ t → ((num t ≡ 0) × (u ≡ x → v ≡ y → ⊥)) ⊎ ((num t ≡ 1) × (u ≡ x) × (v ≡ y))
    go true e = let r = and_true (eqb x u) (eqb y v) e in inr (refl, sym (eqb-true x u r.0), sym (eqb-true y v r.1))
    go false e = inl (refl, λ p q. false≢true (sym e ∙ and_both (eqb x u) (eqb y v) (eq-eqb x u (sym p)) (eq-eqb y v (sym q))))

pub hit_zero : (x y u v : ℕ) → (u ≡ x → v ≡ y → ⊥) → hit x y u v ≡ 0
hit_zero x y u v h = go (counted x y u v)
  where
    go : Counted x y u v → hit x y u v ≡ 0
    go (inl r) = r.0
    go (inr r) = absurd (h r.1 r.2)

when_zero : (g : Bool) (n : ℕ) → n ≡ 0 → when g n ≡ 0
when_zero true n h = h
when_zero false n h = refl

unless_zero : (g : Bool) (n : ℕ) → n ≡ 0 → unless g n ≡ 0
unless_zero true n h = refl
unless_zero false n h = h

module _ (B : List Triangle) (a b c : ℕ) (T T' : ℕ → ℕ → ℕ) (gA gB : Bool)
    (eq : (x y : ℕ) → T' x y + hit x y a b + when gB (hit x y b c) + when gA (hit x y c a)
    ≡ T x y + unless gB (hit x y c b) + unless gA (hit x y a c))
    (rule_a : gA ≡ false → Unused a c B × Unused c a B) (rule_b : gB ≡ false → Unused c b B × Unused b c B)
    (ab : a ≡ b → ⊥) (bc : b ≡ c → ⊥) (ca : c ≡ a → ⊥) (legal : (x y : ℕ) → Lawful B (T x y) x y) where
  -- what an edge in the rings is
  standing : (x y : ℕ) → 1 ≤ T x y → (T x y ≡ 1) × ((z : ℕ) × In x y z B) × Unused y x B
  standing x y h = go (legal x y)
    where
      go : Lawful B (T x y) x y → (T x y ≡ 1) × ((z : ℕ) × In x y z B) × Unused y x B
      go (inl e) = absurd (omega arith)
      go (inr r) = r

  at_ab : T a b ≡ T' a b + 1
  at_ab =
      let h = eq a b in
      let i1 = hit_yes a b in
      let i2 = when_zero gB (hit a b b c) (hit_zero a b b c (λ p q. ab (sym p))) in
      let i3 = when_zero gA (hit a b c a) (hit_zero a b c a (λ p q. ca p)) in
      let i4 = unless_zero gB (hit a b c b) (hit_zero a b c b (λ p q. ca p)) in
      let i5 = unless_zero gA (hit a b a c) (hit_zero a b a c (λ p q. bc (sym q))) in
      omega arith

  at_ca : T' c a + when gA 1 ≡ T c a
  at_ca =
      let h = eq c a in
      let i1 = hit_zero c a a b (λ p q. ca (sym p)) in
      let i2 = when_zero gB (hit c a b c) (hit_zero c a b c (λ p q. bc p)) in
      let i3 : when gA (hit c a c a) ≡ when gA 1 = ap (when gA) (hit_yes c a) in
      let i4 = unless_zero gB (hit c a c b) (hit_zero c a c b (λ p q. ab (sym q))) in
      let i5 = unless_zero gA (hit c a a c) (hit_zero c a a c (λ p q. ca (sym p))) in
      omega arith

  at_bc : T' b c + when gB 1 ≡ T b c
  at_bc =
      let h = eq b c in
      let i1 = hit_zero b c a b (λ p q. ab p) in
      let i2 : when gB (hit b c b c) ≡ when gB 1 = ap (when gB) (hit_yes b c) in
      let i3 = when_zero gA (hit b c c a) (hit_zero b c c a (λ p q. bc (sym p))) in
      let i4 = unless_zero gB (hit b c c b) (hit_zero b c c b (λ p q. bc (sym p))) in
      let i5 = unless_zero gA (hit b c a c) (hit_zero b c a c (λ p q. ab p)) in
      omega arith

  pub at_ac : T' a c ≡ T a c + unless gA 1
  at_ac =
      let h = eq a c in
      let i1 = hit_zero a c a b (λ p q. bc q) in
      let i2 = when_zero gB (hit a c b c) (hit_zero a c b c (λ p q. ab (sym p))) in
      let i3 = when_zero gA (hit a c c a) (hit_zero a c c a (λ p q. ca p)) in
      let i4 = unless_zero gB (hit a c c b) (hit_zero a c c b (λ p q. ca p)) in
      let i5 : unless gA (hit a c a c) ≡ unless gA 1 = ap (unless gA) (hit_yes a c) in
      omega arith

  pub at_cb : T' c b ≡ T c b + unless gB 1
  at_cb =
      let h = eq c b in
      let i1 = hit_zero c b a b (λ p q. ca (sym p)) in
      let i2 = when_zero gB (hit c b b c) (hit_zero c b b c (λ p q. bc p)) in
      let i3 = when_zero gA (hit c b c a) (hit_zero c b c a (λ p q. ab q)) in
      let i4 : unless gB (hit c b c b) ≡ unless gB 1 = ap (unless gB) (hit_yes c b) in
      let i5 = unless_zero gA (hit c b a c) (hit_zero c b a c (λ p q. ca (sym p))) in
      omega arith

  cur : (T a b ≡ 1) × ((z : ℕ) × In a b z B) × Unused b a B
  cur = standing a b (omega (arith, at_ab))

  -- a glued edge's partner stands in the rings
  pub glued_ca : gA ≡ true → (T c a ≡ 1) × ((z : ℕ) × In c a z B) × Unused a c B
  glued_ca h = standing c a (omega (arith, at_ca, ap (λ (g : Bool). when g 1) h))

  pub glued_bc : gB ≡ true → (T b c ≡ 1) × ((z : ℕ) × In b c z B) × Unused c b B
  glued_bc h = standing b c (omega (arith, at_bc, ap (λ (g : Bool). when g 1) h))

  free_ac : (g : Bool) → gA ≡ g → Unused a c B
  free_ac true h = (glued_ca h).2
  free_ac false h = (rule_a h).0

  free_cb : (g : Bool) → gB ≡ g → Unused c b B
  free_cb true h = (glued_bc h).2
  free_cb false h = (rule_b h).0

  -- the new triangle's edges are new
  pub new_edges_lem : Unused b a B × Unused a c B × Unused c b B
  new_edges_lem = (cur.2, free_ac gA refl, free_cb gB refl)

  abbrev t : Triangle
  t = record { p = b; q = a; r = c }

  no_ca : Unused c a B → Unused c a (record { p = b; q = a; r = c } ∷ B)
  no_ca f z (here (at_p p q r)) = bc p
  no_ca f z (here (at_q p q r)) = ca (sym p)
  no_ca f z (here (at_r p q r)) = ab (sym q)
  no_ca f z (there i) = f z i

  no_bc : Unused b c B → Unused b c (record { p = b; q = a; r = c } ∷ B)
  no_bc f z (here (at_p p q r)) = ca (sym q)
  no_bc f z (here (at_q p q r)) = ab p
  no_bc f z (here (at_r p q r)) = bc (sym p)
  no_bc f z (there i) = f z i

  none_ac : Lawful B (T a c) a c → T a c ≡ 0
  none_ac (inl e) = e
  none_ac (inr r) = absurd (new_edges_lem.1 r.1.0 r.1.1)

  none_cb : Lawful B (T c b) c b → T c b ≡ 0
  none_cb (inl e) = e
  none_cb (inr r) = absurd (new_edges_lem.2 r.1.0 r.1.1)

  legal_ac : (g : Bool) → gA ≡ g → Lawful (record { p = b; q = a; r = c } ∷ B) (T' a c) a c
  legal_ac true h = inl (omega (arith, at_ac, none_ac (legal a c), ap (λ (g : Bool). unless g 1) h))
  legal_ac false h =
      inr (omega (arith, at_ac, none_ac (legal a c), ap (λ (g : Bool). unless g 1) h), (b, here (at_q refl refl refl)), no_ca (rule_a h).1)

  legal_cb : (g : Bool) → gB ≡ g → Lawful (record { p = b; q = a; r = c } ∷ B) (T' c b) c b
  legal_cb true h = inl (omega (arith, at_cb, none_cb (legal c b), ap (λ (g : Bool). unless g 1) h))
  legal_cb false h =
      inr (omega (arith, at_cb, none_cb (legal c b), ap (λ (g : Bool). unless g 1) h), (a, here (at_r refl refl refl)), no_bc (rule_b h).1)

  legal_ca : (g : Bool) → gA ≡ g → Lawful B (T c a) c a → T' c a ≡ 0
  legal_ca true h e = let k = (glued_ca h).0 in omega (arith, at_ca, ap (λ (g : Bool). when g 1) h)
  legal_ca false h (inl e) = omega (arith, at_ca)
  legal_ca false h (inr r) = absurd ((rule_a h).1 r.1.0 r.1.1)

  legal_bc : (g : Bool) → gB ≡ g → Lawful B (T b c) b c → T' b c ≡ 0
  legal_bc true h e = let k = (glued_bc h).0 in omega (arith, at_bc, ap (λ (g : Bool). when g 1) h)
  legal_bc false h (inl e) = omega (arith, at_bc)
  legal_bc false h (inr r) = absurd ((rule_b h).1 r.1.0 r.1.1)

  move : (x y u v : ℕ) → u ≡ x → v ≡ y → Lawful (record { p = b; q = a; r = c } ∷ B) (T' u v) u v
      → Lawful (record { p = b; q = a; r = c } ∷ B) (T' x y) x y
  move x y u v p q h =
      subst (λ (w : ℕ). Lawful (record { p = b; q = a; r = c } ∷ B) (T' x w) x w) q
      (subst (λ (w : ℕ). Lawful (record { p = b; q = a; r = c } ∷ B) (T' w v) w v) p h)

  -- and the state after it is legal
  pub legal_next : (x y : ℕ) → Lawful (record { p = b; q = a; r = c } ∷ B) (T' x y) x y
  legal_next x y = s1 (counted x y a b)
    where
      other : hit x y a b ≡ 0 → hit x y a c ≡ 0 → hit x y c b ≡ 0 → (a ≡ x → b ≡ y → ⊥) → Counted x y c a → Counted x y b c
          → Lawful B (T x y) x y → Lawful (record { p = b; q = a; r = c } ∷ B) (T' x y) x y
      other i1 i2 i3 n1 (inr r) k3 e = move x y c a r.1 r.2 (inl (legal_ca gA refl (legal c a)))
      other i1 i2 i3 n1 (inl r) (inr s) e = move x y b c s.1 s.2 (inl (legal_bc gB refl (legal b c)))
      other i1 i2 i3 n1 (inl r) (inl s) (inl e) =
          inl (omega (arith, eq x y, when_zero gA _ r.0, when_zero gB _ s.0, unless_zero gB _ i3, unless_zero gA _ i2))
      other i1 i2 i3 n1 (inl r) (inl s) (inr e) =
          inr (
            omega (arith, eq x y, when_zero gA _ r.0, when_zero gB _ s.0, unless_zero gB _ i3, unless_zero gA _ i2),
            (e.1.0, there e.1.1),
            free,
          )
        where
          free : Unused y x (record { p = b; q = a; r = c } ∷ B)
          free z (here (at_p p q w)) = n1 q p
          free z (here (at_q p q w)) = r.1 q p
          free z (here (at_r p q w)) = s.1 q p
          free z (there i) = e.2 z i

      s3 : hit x y a b ≡ 0 → (a ≡ x → b ≡ y → ⊥) → hit x y a c ≡ 0 → Counted x y c b
          → Lawful (record { p = b; q = a; r = c } ∷ B) (T' x y) x y
      s3 i1 n1 i2 (inr r) = move x y c b r.1 r.2 (legal_cb gB refl)
      s3 i1 n1 i2 (inl r) = other i1 i2 r.0 n1 (counted x y c a) (counted x y b c) (legal x y)

      s2 : hit x y a b ≡ 0 → (a ≡ x → b ≡ y → ⊥) → Counted x y a c → Lawful (record { p = b; q = a; r = c } ∷ B) (T' x y) x y
      s2 i1 n1 (inr r) = move x y a c r.1 r.2 (legal_ac gA refl)
      s2 i1 n1 (inl r) = s3 i1 n1 r.0 (counted x y c b)

      s1 : Counted x y a b → Lawful (record { p = b; q = a; r = c } ∷ B) (T' x y) x y
      s1 (inr r) = move x y a b r.1 r.2 (inl (omega (arith, at_ab, cur.0)))
      s1 (inl r) = s2 r.0 r.1 (counted x y a c)

-- an operation on the rings, with rims that have ended besides
pub legal_step : (B : List Triangle) (e f : Node) (ps : List Node) (ws ls rims : List Ring) (c : ℕ) (o : Operation)
    → Surgery e f ps ws ls c o
    → (glues_a o ≡ false → Unused (vertex e) c B × Unused c (vertex e) B)
    → (glues_b o ≡ false → Unused c (vertex f) B × Unused (vertex f) c B)
    → (vertex e ≡ vertex f → ⊥) → (vertex f ≡ c → ⊥) → (c ≡ vertex e → ⊥)
    → ((x y : ℕ) → Lawful B (total x y ((e ∷ (f ∷ ps)) ∷ ws) + total x y rims) x y) → (x y : ℕ)
    → Lawful (triangle_at e f c ∷ B) (total x y ls + total x y rims) x y
legal_step B e f ps ws ls rims c o s ra rb ab bc ca l =
    legal_next B (vertex e) (vertex f) c (λ x y. total x y ((e ∷ (f ∷ ps)) ∷ ws) + total x y rims) (λ x y. total x y ls + total x y rims)
    (glues_a o) (glues_b o)
    (λ x y. let h = total_step x y e f ps ws ls c o s in omega arith) ra rb ab bc ca l

pub once_step : (B : List Triangle) (e f : Node) (ps : List Node) (ws ls rims : List Ring) (c : ℕ) (o : Operation)
    → Surgery e f ps ws ls c o
    → (glues_a o ≡ false → Unused (vertex e) c B × Unused c (vertex e) B)
    → (glues_b o ≡ false → Unused c (vertex f) B × Unused (vertex f) c B)
    → (vertex e ≡ vertex f → ⊥) → (vertex f ≡ c → ⊥) → (c ≡ vertex e → ⊥)
    → ((x y : ℕ) → Lawful B (total x y ((e ∷ (f ∷ ps)) ∷ ws) + total x y rims) x y) → Once B → Once (triangle_at e f c ∷ B)
once_step B e f ps ws ls rims c o s ra rb ab bc ca l h =
    let r =
    new_edges_lem B (vertex e) (vertex f) c (λ x y. total x y ((e ∷ (f ∷ ps)) ∷ ws) + total x y rims) (λ x y. total x y ls + total x y rims)
    (glues_a o) (glues_b o)
    (λ x y. let h = total_step x y e f ps ws ls c o s in omega arith) ra rb ab bc ca l in
    (r, ((λ q. ab (sym q)), (λ q. ca (sym q)), (λ q. bc (sym q))), h)
