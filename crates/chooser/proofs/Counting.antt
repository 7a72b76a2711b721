-- Laws over plain lists and numbers that the functions' proofs cite: the search for an open edge along a loop.
-- Assumes nothing.
use Prim.Native.Nat.{ℕ, suc, ◌+◌, ◌-◌, ◌≤◌, ◌<◌}
use native.Mathlib.Omega.{arith}
use native.Mathlib.Numerals.{add-one}
use mathlib.Core.Bool.{Bool, true, false}
use mathlib.Core.List.{List}
use mathlib.Core.Path.{◌≡◌, sym, ap, ap₂, ◌∙◌, subst}
use Rattle.border_theory.specs.Memory.Layout.{after_of, walked}
use Rattle.pack_theory.specs.Choosing.Seeking.{starts_at, gone_by, Inside}

-- a search of k places from p on: at place z, i are gone by
pub record Counting (m : List ℕ) (k p x y i z : ℕ) : Type 0 where
  pub within : i ≤ k
  pub ends : gone_by m (k - i) i z x y ≡ gone_by m k 0 p x y
  pub near : (j : ℕ) → j < k - i → Inside m (walked m j z)

pub counting_start : (m : List ℕ) (k p x y : ℕ) → ((j : ℕ) → j < k → Inside m (walked m j p)) → Counting m k p x y 0 p
counting_start m k p x y h = let e : k - 0 ≡ k = omega arith in record {
  within = omega arith;
  ends = ap (λ (d : ℕ). gone_by m d 0 p x y) e;
  near = λ j l. h j (omega (arith, l));
}

gone_step : (m : List ℕ) (d i z x y : ℕ) (b : Bool) → starts_at m z x y ≡ b
    → gone_by m (suc d) i z x y ≡ elim b [ true ↦ i | false ↦ gone_by m d (suc i) (after_of m z) x y ]
unfolding gone_by
gone_step m d i z x y b e = ap (λ (t : Bool). elim t [ true ↦ i | false ↦ gone_by m d (suc i) (after_of m z) x y ]) e

module _ (m : List ℕ) (k p x y i z : ℕ) (h : Counting m k p x y i z) where
  pub counting_here : i < k → Inside m z
  unfolding walked
  counting_here l = h.near 0 (omega (arith, l))

  pub counting_found : (b : Bool) → i < k → b ≡ starts_at m z x y → b ≡ true → i ≡ gone_by m k 0 p x y
  counting_found b l e q =
      let d : suc (k - i - 1) ≡ k - i = omega (arith, l) in
      sym (gone_step m (k - i - 1) i z x y true (sym e ∙ q)) ∙ (ap (λ (j : ℕ). gone_by m j i z x y) d ∙ h.ends)

  pub counting_more : (b : Bool) (w : ℕ) → i < k → b ≡ starts_at m z x y → b ≡ false → w ≡ after_of m z → Counting m k p x y (i + 1) w
  unfolding walked
  counting_more b w l e q f =
      let d : suc (k - i - 1) ≡ k - i = omega (arith, l) in
      let c : k - (i + 1) ≡ k - i - 1 = omega (arith, l) in
      let s : i + 1 ≡ suc i = add-one i in
      record {
        within = omega (arith, l);
        ends =
            ap₂ (λ (a j : ℕ). gone_by m a j w x y) c s
            ∙ (ap (λ (a : ℕ). gone_by m (k - i - 1) (suc i) a x y) f
            ∙ (sym (gone_step m (k - i - 1) i z x y false (sym e ∙ q)) ∙ (ap (λ (j : ℕ). gone_by m j i z x y) d ∙ h.ends)));
        near = λ j r. subst (λ (a : ℕ). Inside m (walked m j a)) (sym f) (h.near (suc j) (omega (arith, r)));
      }

  pub counting_done : k ≤ i → i ≡ gone_by m k 0 p x y
  unfolding gone_by
  counting_done l =
      let c : 0 ≡ k - i = omega (arith, l) in
      ap (λ (d : ℕ). gone_by m d i z x y) c ∙ h.ends
