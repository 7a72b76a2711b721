-- Under other numbers the triangles keep one fan at each vertex, so the machine's finish is not refused.
-- Assumes nothing.
use Prim.Native.Nat.{ℕ}
use mathlib.Core.Bool.{true, ◌&&◌}
use mathlib.Core.List.{List, [], ◌∷◌}
use mathlib.Core.Path.{◌≡◌, refl, sym, ap, ◌∙◌, subst}
use mathlib.Core.Logic.{◌⊎◌, inl, inr}
use lib.ListN.{length}
use lib.Dec.{eqb}
use borrow.Author.Tests.{eq-eqb}
use Rattle.rules.specs.declared.Triangle.{Triangle}
use Rattle.rules.specs.Fan.{one_fan_each}
use Rattle.rules.specs.Machine.{Machine, finished, complete, as_stated, totals, finishing}
use Rattle.mesh_theory.specs.Fans.Corner.{Once}
use Rattle.rules.specs.Fan.{Linked, Pair, end_of, Round, Neighbours}
use Rattle.rules.specs.Triangle.{at_p, at_q, at_r, In, here, there}
use Rattle.choice_theory.specs.Spots.{Unused}
use Rattle.choice_theory.proofs.Steps.Progress.{has_triangle}
use Rattle.choice_theory.proofs.Places.Numbering.{Met}
use Rattle.choice_theory.proofs.Turning.Fans.{fans_test}
use Rattle.choice_theory.proofs.Places.Renaming.{triangles}
use Rattle.choice_theory.proofs.Runs.Unpacking.{in_named, unused_named}
use Rattle.counting.proofs.Bools.{and_both}
use Rattle.book.proofs.EdgeRule.{test_passed}

module _ (name : ℕ → ℕ) (M : List Triangle) (tells : (x y : ℕ) → Met x M → name x ≡ name y → x ≡ y) where
  name_in : (B : List Triangle) (x y z : ℕ) → In x y z B → In (name x) (name y) (name z) (triangles name B)
  name_in (t ∷ B) x y z (here (at_p a b c)) = here (at_p (ap name a) (ap name b) (ap name c))
  name_in (t ∷ B) x y z (here (at_q a b c)) = here (at_q (ap name a) (ap name b) (ap name c))
  name_in (t ∷ B) x y z (here (at_r a b c)) = here (at_r (ap name a) (ap name b) (ap name c))
  name_in (t ∷ B) x y z (there i) = there (name_in B x y z i)
  name_in [] x y z x3 = elim x3 [ ]

  once_named : (B : List Triangle) → ((x y z : ℕ) → In x y z B → In x y z M) → Once B → Once (triangles name B)
  once_named [] sub o = tt
  once_named (t ∷ B) sub o =
      let below : (x y z : ℕ) → In x y z B → In x y z M = λ x y z i. sub x y z (there i) in
      let p : Met t.p M = (t.q, t.r, sub _ _ _ (here (at_p refl refl refl))) in
      let q : Met t.q M = (t.r, t.p, sub _ _ _ (here (at_q refl refl refl))) in
      let r : Met t.r M = (t.p, t.q, sub _ _ _ (here (at_r refl refl refl))) in (
        (
          unused_named name M tells B below t.p t.q o.0.0,
          unused_named name M tells B below t.q t.r o.0.1,
          unused_named name M tells B below t.r t.p o.0.2,
        ),
        (λ h. o.1.0 (tells t.p t.q p h), λ h. o.1.1 (tells t.q t.r q h), λ h. o.1.2 (tells t.r t.p r h)),
        once_named B below o.2,
      )

  abbrev names : List ℕ → List ℕ
  names [] = []
  names (n ∷ ns) = name n ∷ names ns

  end_named : (m : ℕ) (ns : List ℕ) → end_of (name m) (names ns) ≡ name (end_of m ns)
  end_named m [] = refl
  end_named m (n ∷ ns) = end_named n ns

  chain_named : (c : ℕ) (ns : List ℕ) → Linked c M ns → Linked (name c) (triangles name M) (names ns)
  chain_named c [] r = tt
  chain_named c (m ∷ []) r = tt
  chain_named c (m ∷ (n ∷ ns)) r = (name_in M c m n r.0, chain_named c (n ∷ ns) r.1)

  round_named : (c : ℕ) (ns : List ℕ) → Round c M ns → Round (name c) (triangles name M) (names ns)
  round_named c [] r = tt
  round_named c (m ∷ ns) (inl e) = inl (ap name e ∙ sym (end_named m ns))
  round_named c (m ∷ ns) (inr e) =
      inr (
        unused_named name M tells M (λ x y z i. i) m c e.0,
        subst (λ (v : ℕ). Unused (name c) v (triangles name M)) (sym (end_named m ns))
            (unused_named name M tells M (λ x y z i. i) c (end_of m ns) e.1),
      )

  consecutive_named : (x z : ℕ) (ns : List ℕ) → Pair x z ns → Pair (name x) (name z) (names ns)
  consecutive_named x z (m ∷ (n ∷ ns)) (inl e) = inl (ap name e.0, ap name e.1)
  consecutive_named x z (m ∷ (n ∷ ns)) (inr p) = inr (consecutive_named x z (n ∷ ns) p)
  consecutive_named x z [] x'' = elim x'' [ ]
  consecutive_named x z (m ∷ []) x5 = elim x5 [ ]

  fan_named : (c : ℕ) → Met c M → Neighbours M c → Neighbours (triangles name M) (name c)
  fan_named c m f = record {
    fan = names f.fan;
    run = chain_named c f.fan f.run;
    round = round_named c f.fan f.round;
    whole = λ x z i. at x z (in_named name M tells M (name c) x z i);
  }
    where
      at : (x z : ℕ) → (u : ℕ) × (v : ℕ) × (w : ℕ) × In u v w M × (name u ≡ name c) × (name v ≡ x) × (name w ≡ z)
          → Pair x z (names f.fan)
      at x z (u, v, w, i, a, b, d) =
          let e : u ≡ c = tells u c (v, w, i) a in
          subst (λ (k : ℕ). Pair x k (names f.fan)) d
          (subst (λ (k : ℕ). Pair k (name w) (names f.fan)) b
          (consecutive_named v w f.fan (f.whole v w (subst (λ (k : ℕ). In k v w M) e i))))

  -- each vertex has one fan under its new number
  fans_named : ((c : ℕ) → Neighbours M c) → (k : ℕ) → Neighbours (triangles name M) k
  fans_named fan k = go (has_triangle k (triangles name M))
    where
      at : (u : ℕ) × (v : ℕ) × (w : ℕ) × In u v w M × (name u ≡ k) × ℕ → Neighbours (triangles name M) k
      at (u, v, w, i, a, _) = subst (Neighbours (triangles name M)) a (fan_named u (v, w, i) (fan u))

      go : ((m : ℕ) × (n : ℕ) × In k m n (triangles name M)) ⊎ ((m n : ℕ) → In k m n (triangles name M) → ⊥)
          → Neighbours (triangles name M) k
      go (inl r) = let t = in_named name M tells M k r.0 r.1 r.2 in at (t.0, t.1, t.2, t.3, t.4, 0)
      go (inr n) = record { fan = []; run = tt; round = tt; whole = λ x z i. absurd (n x z i) }

  pub fans_hold : (n : ℕ) → Once M → ((c : ℕ) → Neighbours M c) → one_fan_each n (triangles name M) ≡ true
  fans_hold n o fan = fans_test n (triangles name M) (once_named M (λ x y z i. i) o) (fans_named fan)

-- 15, 19 and 20 do not refuse
pub finishes : (m : Machine) → length m.triangles ≡ m.stated.triangles → m.loops ≡ [] → m.used ≡ m.stated.vertices
    → m.most_places ≡ m.stated.places
    → m.most_loops ≡ m.stated.loops → one_fan_each m.used m.triangles ≡ true → finishing m ≡ finished (totals m)
unfolding finishing
finishes m a b c d e f =
    test_passed (complete m) 15 _
    (and_both (eqb (length m.triangles) m.stated.triangles) (eqb (length m.loops) 0) (eq-eqb _ _ a)
    (eq-eqb (length m.loops) 0 (ap length b)))
    ∙ (test_passed (as_stated m) 19 _
    (and_both (eqb m.used m.stated.vertices && eqb m.most_places m.stated.places) (eqb m.most_loops m.stated.loops)
    (and_both (eqb m.used m.stated.vertices) (eqb m.most_places m.stated.places) (eq-eqb _ _ c) (eq-eqb _ _ d)) (eq-eqb _ _ e))
    ∙ test_passed (one_fan_each m.used m.triangles) 20 _ f)
