-- Vertices are noted as met: what is not noted after an operation was not noted before it, and the operation does not meet it.
-- Assumes nothing.
use Prim.Native.Nat.{ℕ, ◌<◌}
use native.Mathlib.Omega.{arith}
use mathlib.Core.Bool.{Bool, true, false, not}
use mathlib.Core.List.{List}
use mathlib.Core.Path.{◌≡◌, refl, sym, ap, ◌∙◌, subst}
use lib.ListN.{length, get_or, set, length-set}
use lib.Seq.{get_or-set_same, get_or-set_other}
use lib.Dec.{eqb}
use borrow.Author.Tests.{eqb-true, eq-eqb, ne_eqb, not-false}
use Rattle.rules.specs.declared.Triangle.{Triangle}
use Rattle.rules.specs.declared.Operation.{Operation}
use Rattle.rules.specs.declared.Operation.TheVariants.{New, Forward, Backward, Border, Split, Close, Union, Start}
use Rattle.choice_theory.specs.Met.{met_by}
use Rattle.unpack_theory.specs.Met.{is_meeting, is_met_in, met_after}

pub zero_unmet : (ks : List ℕ) (v : ℕ) → get_or ks v 0 ≡ 0 → is_met_in ks v ≡ false
zero_unmet ks v e = ap not (eq-eqb (get_or ks v 0) 0 e)

unmet_zero : (ks : List ℕ) (v : ℕ) → is_met_in ks v ≡ false → get_or ks v 0 ≡ 0
unmet_zero ks v h = eqb-true (get_or ks v 0) 0 (not-false (eqb (get_or ks v 0) 0) h)

pub met_long : (ks : List ℕ) (o : Operation) (v : ℕ) → length (met_after ks o v) ≡ length ks
unfolding met_after
met_long ks o v = go (is_meeting o)
  where
    go : (b : Bool) → length {A = ℕ} (elim b [ true ↦ set ks v 1 | false ↦ ks ]) ≡ length ks
    go true = length-set ks v 1
    go false = refl

module _ (ks : List ℕ) (t : Triangle) (long : t.r < length ks) (v : ℕ) where
  noted_unmet : is_met_in (set ks t.r 1) v ≡ false → (is_met_in ks v ≡ false) × (eqb v t.r ≡ false)
  noted_unmet h = (zero_unmet ks v (sym (get_or-set_other ks t.r v 1 0 other) ∙ zero), ne_eqb v t.r other)
    where
      zero : get_or (set ks t.r 1) v 0 ≡ 0
      zero = unmet_zero (set ks t.r 1) v h

      other : v ≡ t.r → ⊥
      other e = omega (arith, get_or-set_same ks t.r 1 0 long, subst (λ (u : ℕ). get_or (set ks t.r 1) u 0 ≡ 0) e zero)

  pub unmet_before : (o : Operation) → is_met_in (met_after ks o t.r) v ≡ false → (is_met_in ks v ≡ false) × (met_by o t v ≡ false)
  unfolding met_after
  unmet_before New h = (h, refl)
  unmet_before Forward h = (h, refl)
  unmet_before Backward h = (h, refl)
  unmet_before Border h = (h, refl)
  unmet_before (Split i) h = noted_unmet h
  unmet_before Close h = (h, refl)
  unmet_before (Union k j) h = noted_unmet h
  unmet_before Start h = (h, refl)
