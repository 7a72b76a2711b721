-- The determinant of points as the code computes it, and the sum over a list's triangles, the last one first.
-- Assumes nothing.
use Prim.Native.Nat.{ℕ, suc, ◌+◌, ◌-◌, ◌*◌, ◌≤◌, ◌<◌}
use native.Mathlib.Omega.{arith}
use mathlib.Core.List.{List, ◌∷◌}
use mathlib.Core.Path.{◌≡◌, sym, ap, ap₂, ◌∙◌}
use lib.IntN.{ℤ, pos, nat_abs, ◌+ℤ◌, ◌-ℤ◌, ◌*ℤ◌}
use lib.ListN.{length, take, drop, get_or}
use lib.Seq.{drop-cons}
use mir.Syntax.{w64}
use mir.Val.{SFits}
use mir.Facts.{to_z-of_z}
use Rattle.rules.specs.declared.Point.{Point}
use Rattle.rules.specs.declared.Triangle.{Triangle}
use Rattle.rules.specs.Triangle.{tri, triangles_of}
use Rattle.rules.specs.Volume.{determinant, six_volumes}
use Rattle.volume_theory.specs.Near.{Near, largest, corners_at, determinant_of}
use Rattle.volume_theory.proofs.Fitting.{held, answered, near}
use Rattle.volume_theory.proofs.Triple.{triple}

same : (z : ℤ) → nat_abs z ≤ 32768 → held z ≡ z
same z l = (answered (near z l)).0

-- what a determinant of two by two numbers answers
abbrev Minor : ℤ → ℤ → ℤ → ℤ → ℤ → Type 0
Minor m a b c d = SFits w64 m × (m ≡ held a *ℤ held d -ℤ held b *ℤ held c)

minor_is : (m a b c d : ℤ) → nat_abs a ≤ 32768 → nat_abs b ≤ 32768 → nat_abs c ≤ 32768 → nat_abs d ≤ 32768 → Minor m a b c d
    → held m ≡ a *ℤ d -ℤ b *ℤ c
minor_is m a b c d ha hb hc hd t =
    to_z-of_z t.0 ∙ t.1 ∙ ap₂ ◌-ℤ◌ (ap₂ ◌*ℤ◌ (same a ha) (same d hd)) (ap₂ ◌*ℤ◌ (same b hb) (same c hc))

pub determinant_told : (p q r : Point) (a b c d : ℤ) → Near q → Near r → Minor a q.y q.z r.y r.z
    → Minor b q.z q.x r.z r.x → Minor c q.x q.y r.x r.y → SFits w64 d
    → (d ≡ p.x *ℤ held a +ℤ p.y *ℤ held b +ℤ p.z *ℤ held c) × (nat_abs d ≤ largest)
    → (held d ≡ determinant p q r) × (nat_abs (held d) ≤ largest)
determinant_told p q r a b c d hq hr ta tb tc f e =
    answered
    (record {
      fits = f;
      is =
          e.0
          ∙ ap₂ ◌+ℤ◌
          (ap₂ ◌+ℤ◌
          (ap₂ ◌*ℤ◌ (λ i. p.x) (minor_is a q.y q.z r.y r.z hq.y hq.z hr.y hr.z ta))
          (ap₂ ◌*ℤ◌ (λ i. p.y) (minor_is b q.z q.x r.z r.x hq.z hq.x hr.z hr.x tb)))
          (ap₂ ◌*ℤ◌ (λ i. p.z) (minor_is c q.x q.y r.x r.y hq.x hq.y hr.x hr.y tc))
          ∙ triple p q r;
      small = e.1;
    })

-- the list from its j-th number on
one_on : (xs : List ℕ) (j k : ℕ) → k ≡ suc j → j < length xs → drop j xs ≡ get_or xs j 0 ∷ drop k xs
one_on xs j k e h = drop-cons xs j 0 h ∙ ap (λ (i : ℕ). get_or xs j 0 ∷ drop i xs) (sym e)

three_on : (xs : List ℕ) (t : ℕ) → 3 * t + 3 ≤ length xs
    → drop (3 * t) xs ≡ get_or xs (3 * t) 0 ∷ (get_or xs (3 * t + 1) 0 ∷ (get_or xs (3 * t + 2) 0 ∷ drop (3 * (t + 1)) xs))
three_on xs t l =
    one_on xs (3 * t) (3 * t + 1) (omega arith) (omega arith)
    ∙ ap (λ (us : List ℕ). get_or xs (3 * t) 0 ∷ us)
    (one_on xs (3 * t + 1) (3 * t + 2) (omega arith) (omega arith)
    ∙ ap (λ (us : List ℕ). get_or xs (3 * t + 1) 0 ∷ us) (one_on xs (3 * t + 2) (3 * (t + 1)) (omega arith) (omega arith)))

-- k triangles from triangle t on
abbrev from : List ℕ → ℕ → ℕ → List Triangle
from xs t k = triangles_of (take (3 * k) (drop (3 * t) xs))

one_more : (xs : List ℕ) (t k : ℕ) → 3 * t + 3 ≤ length xs
    → from xs t (suc k) ≡ tri (get_or xs (3 * t) 0) (get_or xs (3 * t + 1) 0) (get_or xs (3 * t + 2) 0) ∷ from xs (t + 1) k
unfolding triangles_of
one_more xs t k l =
    let e : 3 * suc k ≡ suc (suc (suc (3 * k))) = omega arith in
    ap₂ (λ (n : ℕ) (us : List ℕ). triangles_of (take n us)) e (three_on xs t l)

-- z is the sum over the last of n triangles, those from triangle t on
pub record Summed (n : ℕ) (zs : List ℤ) (xs : List ℕ) (t : ℕ) (z : ℤ) : Type 0 where
  pub within : t ≤ n
  pub is : z ≡ six_volumes zs (from xs t (n - t))
  pub small : nat_abs z ≤ largest * (n - t)

pub none_summed : (n : ℕ) (zs : List ℤ) (xs : List ℕ) → Summed n zs xs n (pos 0)
unfolding six_volumes triangles_of
none_summed n zs xs =
    let e : 0 ≡ n - n = omega arith in
    record {
      within = omega arith;
      is = ap (λ (k : ℕ). six_volumes zs (from xs n k)) e;
      small = omega arith;
    }

module _ (n : ℕ) (zs : List ℤ) (xs : List ℕ) (t : ℕ) (z : ℤ) (more : 0 < t) (s : Summed n zs xs t z) where
  pub more_summed : (k : Triangle) (w : ℤ) → k ≡ corners_at xs (t - 1) → 3 * (t - 1) + 3 ≤ length xs → SFits w64 w
      → (w ≡ determinant_of zs k +ℤ z) × (nat_abs w ≤ largest + nat_abs z) → Summed n zs xs (t - 1) (held w)
  unfolding six_volumes
  more_summed k w g l f e =
      let i : suc (n - t) ≡ n - (t - 1) = omega (arith, s.within) in
      let j : t - 1 + 1 ≡ t = omega arith in
      record {
        within = omega (arith, s.within);
        is =
            to_z-of_z f ∙ e.0 ∙ ap₂ (λ (x : Triangle) (y : ℤ). determinant_of zs x +ℤ y) g s.is
            ∙ ap (λ (m : ℕ). determinant_of zs (corners_at xs (t - 1)) +ℤ six_volumes zs (from xs m (n - t))) (sym j)
            ∙ sym (ap (six_volumes zs) (one_more xs (t - 1) (n - t) l)) ∙ ap (λ (m : ℕ). six_volumes zs (from xs (t - 1) m)) i;
        small = omega (arith, e.1, s.small, s.within, ap nat_abs (to_z-of_z f));
      }
