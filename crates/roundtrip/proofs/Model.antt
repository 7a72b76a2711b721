-- Claim 4: lists with the same triangles unpack to the same model, up to the numbers of its vertices.
-- Assumes nothing.
use Prim.Native.Nat.{ℕ, zero, suc, ◌≤◌, ◌<◌}
use native.Mathlib.Omega.{arith}
use mathlib.Core.Bool.{Bool, true, false}
use mathlib.Core.List.{List}
use mathlib.Core.Path.{◌≡◌, refl, sym, ap, ◌∙◌, subst}
use lib.ListN.{length}
use lib.Dec.{eqb}
use borrow.Author.Tests.{eqb-true, eqb-false}
use Rattle.rules.specs.declared.Triangle.{Triangle}
use Rattle.rules.specs.Triangle.{triangles_of, In}
use Rattle.rules.specs.Pack.{most, PackResult}
use Rattle.rules.specs.Unpack.{UnpackResult}
use Rattle.choice_theory.proofs.Runs.Accepted.{accepted_packable}
use Rattle.roundtrip.specs.Run.{build_order}
use Rattle.roundtrip.specs.Claims.{renumbered, Rearranged, OneToOne, written, new_number, EachOnce, SameTriangles}
use Rattle.roundtrip.specs.Claims.{SameTrianglesSameModel}
use Rattle.roundtrip.proofs.Renumber.{renumbered_agree, renumbered_twice, length_renumbered, renumbered_in, Had, in_renumbered}
use Rattle.roundtrip.proofs.Results.{packed_by}
use Rattle.roundtrip.proofs.Starts.{same_all}
use Rattle.roundtrip.proofs.Each.{each_once}

-- the highest number below n that g numbers k, or else 0
abbrev inverse : (ℕ → ℕ) → ℕ → ℕ → ℕ
inverse g zero k = 0
inverse g (suc n) k = elim (eqb (g n) k) [ true ↦ n | false ↦ inverse g n k ]

inverse_at : (v : ℕ) (g : ℕ → ℕ) → OneToOne v g → (n x : ℕ) → n ≤ v → x < n → inverse g n (g x) ≡ x
inverse_at v g o zero x h l = absurd (omega arith)
inverse_at v g o (suc n) x h l = go (eqb (g n) (g x)) refl (inverse_at v g o n x (omega arith))
  where
    go : (t : Bool) → eqb (g n) (g x) ≡ t → (x < n → inverse g n (g x) ≡ x)
        → ◌≡◌ {A = ℕ} (elim t [ true ↦ n | false ↦ inverse g n (g x) ]) x
    go true e ih = o.tells n x (omega arith) (omega arith) (eqb-true (g n) (g x) e)
    go false e ih = ih (let k = apart in omega arith)
      where
        apart : n ≡ x → ⊥
        apart q = eqb-false (g n) (g x) e (ap g q)

-- from one numbering to another
module _ (v : ℕ) (g h : ℕ → ℕ) (one : OneToOne v g) (two : OneToOne v h) where
  abbrev pub between : ℕ → ℕ
  between n = h (inverse g v n)

  pub between_at : (x : ℕ) → x < v → between (g x) ≡ h x
  between_at x l = ap h (inverse_at v g one v x (omega arith) l)

  pub between_one : OneToOne v between
  between_one = record { below = low; tells = tell; onto = at }
    where
      low : (n : ℕ) → n < v → between n < v
      low n l = let o = one.onto n l in
          subst (λ (k : ℕ). between k < v) o.2 (subst (λ (k : ℕ). k < v) (sym (between_at o.0 o.1)) (two.below o.0 o.1))

      tell : (m n : ℕ) → m < v → n < v → between m ≡ between n → m ≡ n
      tell m n k l e =
          let a = one.onto m k in
          let b = one.onto n l in
          let p : between m ≡ h a.0 = ap between (sym a.2) ∙ between_at a.0 a.1 in
          let q : between n ≡ h b.0 = ap between (sym b.2) ∙ between_at b.0 b.1 in
          sym a.2 ∙ (ap g (two.tells a.0 b.0 a.1 b.1 (sym p ∙ (e ∙ q))) ∙ b.2)

      at : (n : ℕ) → n < v → (x : ℕ) × (x < v) × (between x ≡ n)
      at n l = let o = two.onto n l in (g o.0, one.below o.0 o.1, between_at o.0 o.1 ∙ o.2)

-- the same triangles under one numbering
renumbered_same : (f : ℕ → ℕ) (ts us : List Triangle) → ((x y z : ℕ) → In x y z ts → In x y z us) → (x y z : ℕ) → In x y z (renumbered f ts)
    → In x y z (renumbered f us)
renumbered_same f ts us h x y z i = go (in_renumbered f ts x y z i)
  where
    go : Had f ts x y z → In x y z (renumbered f us)
    go r = rw (← r.x_is, ← r.y_is, ← r.z_is) (renumbered_in f us r.u r.v r.w (h r.u r.v r.w r.had))

module _ (v : ℕ) (xs ys : List ℕ) (p q : PackResult) (a b : UnpackResult) (one : EachOnce v (triangles_of xs) p a)
    (two : EachOnce v (triangles_of ys) q b)
    (same : SameTriangles xs ys) (count : length (triangles_of xs) ≡ length (triangles_of ys))
    (below : (x y z : ℕ) → In x y z (triangles_of xs) → x < v) where
  abbrev change : ℕ → ℕ
  change = between v (new_number p) (new_number q) one.numbering two.numbering

  changed : renumbered change (written (length (triangles_of xs)) a) ≡ renumbered (new_number q) (build_order (triangles_of xs))
  changed =
      ap (renumbered change) one.unpacked
      ∙ (renumbered_twice change (new_number p) (build_order (triangles_of xs))
      ∙ renumbered_agree (λ x. change (new_number p x)) (new_number q) (build_order (triangles_of xs))
      (λ x y z i. between_at v (new_number p) (new_number q) one.numbering two.numbering x
      (below x y z ((one.rearranged.all x y z).1 i))))

  there : (x y z : ℕ) → In x y z (build_order (triangles_of xs)) → In x y z (build_order (triangles_of ys))
  there x y z i = (two.rearranged.all x y z).0 ((same x y z).0 ((one.rearranged.all x y z).1 i))

  back : (x y z : ℕ) → In x y z (build_order (triangles_of ys)) → In x y z (build_order (triangles_of xs))
  back x y z i = (one.rearranged.all x y z).0 ((same x y z).1 ((two.rearranged.all x y z).1 i))

  same_model : Rearranged (renumbered change (written (length (triangles_of xs)) a)) (written (length (triangles_of ys)) b)
  same_model =
      subst (λ (l : List Triangle). Rearranged l (written (length (triangles_of ys)) b)) (sym changed)
      (record {
        count =
            ap length two.unpacked
            ∙ omega (
              arith,
              length_renumbered (new_number q) (build_order (triangles_of xs)),
              length_renumbered (new_number q) (build_order (triangles_of ys)),
              one.rearranged.count,
              two.rearranged.count,
              count,
            );
        all = λ x y z. (
          λ i. subst (In x y z) (sym two.unpacked)
              (renumbered_same (new_number q) (build_order (triangles_of xs)) (build_order (triangles_of ys)) there x y z i),
          λ i. renumbered_same (new_number q) (build_order (triangles_of ys)) (build_order (triangles_of xs)) back x y z
              (subst (In x y z) two.unpacked i),
        );
        once = two.once;
      })

pub same_triangles_same_model : SameTrianglesSameModel
same_triangles_same_model v xs ys r q n m e f same r' q' a b =
    let p = packed_by most v xs r n e in
    let p' = packed_by most v ys q m f in
    let one = each_once v xs r n p r' a in
    let two = each_once v ys q m p' q' b in
    let ok = accepted_packable v xs p.accepted in
    let ok' = accepted_packable v ys p'.accepted in
    let k = (same_all (triangles_of xs) (triangles_of ys) ok.once ok'.once same).count in (
      change v xs ys _ _ _ _ one two same k ok.below,
      between_one v _ _ one.numbering two.numbering,
      same_model v xs ys _ _ _ _ one two same k ok.below,
    )
