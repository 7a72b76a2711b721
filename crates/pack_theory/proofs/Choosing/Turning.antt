-- Turning about a vertex, one look-up after the other: laws for the loops that do it.
-- Assumes nothing.
use Prim.Native.Nat.{ℕ, zero, suc, ◌-◌, ◌/◌, ◌≤◌, ◌<◌}
use native.Mathlib.Omega.{arith}
use mathlib.Core.Bool.{Bool, true, false, not}
use mathlib.Core.List.{List}
use mathlib.Core.Path.{◌≡◌, sym, ap, ◌∙◌, subst}
use Rattle.std.specs.Prelude.{Some, None}
use lib.ListN.{length}
use lib.Dec.{eqb}
use borrow.Author.Tests.{eqb-true, eqb-false, not-true, not-false}
use Rattle.rules.specs.declared.Triangle.{Triangle}
use Rattle.rules.specs.Across.{Across}
use Rattle.rules.specs.Across.{Found, Nothing}
use Rattle.rules.specs.Limits.{max_triangles}
use Rattle.rules.specs.Triangle.{triangles_of, In}
use Rattle.rules.specs.Across.{across}
use Rattle.rules.specs.Choice.{turn_in, turn_out}
use Rattle.mesh_theory.specs.Fans.Corner.{Different, Once}
use Rattle.mesh_theory.proofs.Fans.Corners.{free_unused}
use Rattle.mesh_theory.proofs.Fans.Tests.{all_distinct_lem}
use Rattle.mesh_theory.proofs.Fans.Once.{once_tests}
use Rattle.mesh_theory.proofs.Fans.Finding.{across_found, across_nothing, found_in_lem, found_below}
use Rattle.choice_theory.specs.Spots.{Unused}
use Rattle.mesh_theory.specs.Chains.Linked.{Finds, Linked}
use Rattle.mesh_theory.proofs.Chains.Prefix.{triangles_length}
use Rattle.mesh_theory.proofs.Chains.Finding.{linked_found}
use Rattle.pack_theory.specs.Choosing.Choosable.{flag_of, unbuilt_of}
use Rattle.pack_theory.specs.Choosing.Turning.{EndsIn, EndsOut}
use Rattle.pack_theory.proofs.Choosing.Unbuilt.{Stand, stand_found, stand_next, stand_last, unbuilt_in, unbuilt_once, unbuilt_has}
use Rattle.pack_theory.proofs.Choosing.Unbuilt.{unbuilt_gone, unbuilt_length}
use Rattle.pack_theory.proofs.Choosing.Fuel.{in_ends, out_ends, in_goes, out_goes, in_enough, out_enough}

pub once_of : (xs cs : List ℕ) → Linked xs cs → Once (triangles_of xs)
once_of xs cs k = (once_tests (triangles_of xs)).1 (k.sound.distinct, k.once)

-- a triangle that is found has a flag
pub number_below : (xs cs : List ℕ) → Linked xs cs → (x y : ℕ) (r : Across) (n k z : ℕ) → (x ≡ y → ⊥) → Finds xs cs x y r → r ≡ Found n k z
    → n < max_triangles
number_below xs cs linked x y r n k z d f e =
    let ts : List Triangle = triangles_of xs in
    let q : across x y ts ≡ Found n k z = sym (linked_found xs cs linked x y r f d) ∙ e in
    let b = found_below ts (across_found x y ts n k z q) in
    omega (arith, b, triangles_length xs, linked.sound.most)

module _ (xs cs flags : List ℕ) (linked : Linked xs cs) where
  abbrev M : List Triangle
  M = triangles_of xs

  abbrev ts : List Triangle
  ts = unbuilt_of flags xs

  once : Once M
  once = once_of xs cs linked

  different : (x y n k z : ℕ) → across x y M ≡ Found n k z → Different x y z
  different x y n k z e = (all_distinct_lem M).0 linked.sound.distinct x y z (found_in_lem M (across_found x y M n k z e))

  -- the triangle of x→y, if it is not built; no triangle, if it is
  has : (x y n k z : ℕ) → across x y M ≡ Found n k z → eqb (flag_of flags n) 0 ≡ true → In x y z ts
  has x y n k z e h = unbuilt_has flags 0 n M (stand_found x y M n k z e) (ap (flag_of flags) (omega arith) ∙ eqb-true _ _ h)

  gone : (x y n k z : ℕ) → across x y M ≡ Found n k z → eqb (flag_of flags n) 0 ≡ false → Unused x y ts
  gone x y n k z e h =
      unbuilt_gone flags 0 n M once (stand_found x y M n k z e) (λ q. eqb-false _ _ h (ap (flag_of flags) (omega arith) ∙ q))

  none_of : (x y : ℕ) → across x y M ≡ Nothing → Unused x y M
  none_of x y e = (free_unused x y M).1 ((across_nothing x y M).0 e)

  -- back from a triangle that has c→x: the turn is at x, with j steps left
  pub in_none : (c s x j : ℕ) (r : Across) → turn_in j c x ts ≡ turn_in (length xs / 3) c s ts → (x ≡ c → ⊥) → Finds xs cs x c r
      → r ≡ Nothing
      → EndsIn xs flags c s None
  in_none c s x j r i d f e =
      let q : Unused x c M = none_of x c (sym (linked_found xs cs linked x c r f d) ∙ e) in
      subst (λ (w : ℕ). Unused w c M) (sym (in_ends j c x ts (λ z k. q z (unbuilt_in flags 0 M k))) ∙ i) q

  pub in_built : (c s x j : ℕ) (r : Across) (n k z : ℕ) (b : Bool) → turn_in j c x ts ≡ turn_in (length xs / 3) c s ts → (x ≡ c → ⊥)
      → Finds xs cs x c r → r ≡ Found n k z → b ≡ not (eqb (flag_of flags n) 0) → b ≡ true → EndsIn xs flags c s (Some x)
  in_built c s x j r n k z b i d f e g h =
      let q = sym (linked_found xs cs linked x c r f d) ∙ e in
      sym (in_ends j c x ts (gone x c n k z q (not-true _ (sym g ∙ h)))) ∙ i

  pub in_more : (c s x j : ℕ) (r : Across) (n k z : ℕ) (b : Bool) → turn_in j c x ts ≡ turn_in (length xs / 3) c s ts → (x ≡ c → ⊥)
      → 0 < j → Finds xs cs x c r → r ≡ Found n k z → b ≡ not (eqb (flag_of flags n) 0) → b ≡ false
      → (turn_in (j - 1) c z ts ≡ turn_in (length xs / 3) c s ts) × (z ≡ c → ⊥)
  in_more c s x zero r n k z b i d l f e g h = absurd (omega arith)
  in_more c s x (suc j) r n k z b i d l f e g h =
      let q = sym (linked_found xs cs linked x c r f d) ∙ e in
      let p : suc j - 1 ≡ j = omega arith in (
        ap (λ (w : ℕ). turn_in w c z ts) p
            ∙ (sym (in_goes j c x z ts (unbuilt_once flags 0 M once) (has x c n k z q (not-false _ (sym g ∙ h)))) ∙ i),
        λ w. (different x c n k z q).y_z (sym w),
      )

  pub in_done : (c s x j : ℕ) → turn_in j c x ts ≡ turn_in (length xs / 3) c s ts → j ≤ 0 → EndsIn xs flags c s (Some x)
  unfolding turn_in
  in_done c s x zero i l = i
  in_done c s x (suc j) i l = absurd (omega arith)

  -- on from a triangle that has x→c
  pub out_none : (c s x j : ℕ) (r : Across) → turn_out j c x ts ≡ turn_out (length xs / 3) c s ts → (x ≡ c → ⊥) → Finds xs cs c x r
      → r ≡ Nothing
      → EndsOut xs flags c s None
  out_none c s x j r i d f e =
      let q : Unused c x M = none_of c x (sym (linked_found xs cs linked c x r f (λ p. d (sym p))) ∙ e) in
      subst (λ (w : ℕ). Unused c w M) (sym (out_ends j c x ts (λ z k. q z (unbuilt_in flags 0 M k))) ∙ i) q

  pub out_built : (c s x j : ℕ) (r : Across) (n k z : ℕ) (b : Bool) → turn_out j c x ts ≡ turn_out (length xs / 3) c s ts → (x ≡ c → ⊥)
      → Finds xs cs c x r → r ≡ Found n k z → b ≡ not (eqb (flag_of flags n) 0) → b ≡ true → EndsOut xs flags c s (Some x)
  out_built c s x j r n k z b i d f e g h =
      let q = sym (linked_found xs cs linked c x r f (λ p. d (sym p))) ∙ e in
      sym (out_ends j c x ts (gone c x n k z q (not-true _ (sym g ∙ h)))) ∙ i

  pub out_more : (c s x j : ℕ) (r : Across) (n k z : ℕ) (b : Bool) → turn_out j c x ts ≡ turn_out (length xs / 3) c s ts → (x ≡ c → ⊥)
      → 0 < j → Finds xs cs c x r → r ≡ Found n k z → b ≡ not (eqb (flag_of flags n) 0) → b ≡ false
      → (turn_out (j - 1) c z ts ≡ turn_out (length xs / 3) c s ts) × (z ≡ c → ⊥)
  out_more c s x zero r n k z b i d l f e g h = absurd (omega arith)
  out_more c s x (suc j) r n k z b i d l f e g h =
      let q = sym (linked_found xs cs linked c x r f (λ p. d (sym p))) ∙ e in
      let p : suc j - 1 ≡ j = omega arith in (
        ap (λ (w : ℕ). turn_out w c z ts) p
            ∙ (sym (out_goes j c x z ts (unbuilt_once flags 0 M once) (has c x n k z q (not-false _ (sym g ∙ h)))) ∙ i),
        (different c x n k z q).z_x,
      )

  pub out_done : (c s x j : ℕ) → turn_out j c x ts ≡ turn_out (length xs / 3) c s ts → j ≤ 0 → EndsOut xs flags c s (Some x)
  unfolding turn_out
  out_done c s x zero i l = i
  out_done c s x (suc j) i l = absurd (omega arith)

  -- the triangle b a c is found and built: where the two turns of the choice end
  module _ (a b c n k : ℕ) (found : across b a (triangles_of xs) ≡ Found n k c) (flag : flag_of flags n ≡ 0 → ⊥) where
    stand : Stand b a c n M
    stand = stand_found b a M n k c found

    few : length ts ≤ length xs / 3
    few = omega (arith, unbuilt_length flags 0 M, triangles_length xs)

    pub in_turned : turn_in (length xs / 3) c b ts ≡ turn_in (length ts) c b ts
    in_turned =
        in_enough (length xs / 3) c b ts few (unbuilt_once flags 0 M once)
        (unbuilt_gone flags 0 n M once (stand_last stand) (λ q. flag (ap (flag_of flags) (omega arith) ∙ q)))

    pub out_turned : turn_out (length xs / 3) c a ts ≡ turn_out (length ts) c a ts
    out_turned =
        out_enough (length xs / 3) c a ts few (unbuilt_once flags 0 M once)
        (unbuilt_gone flags 0 n M once (stand_next stand) (λ q. flag (ap (flag_of flags) (omega arith) ∙ q)))

    pub differ : (a ≡ c → ⊥) × (b ≡ c → ⊥)
    differ = let d = different b a n k c found in (d.y_z, λ q. d.z_x (sym q))
