-- A triangle written into the triangle buffer.
-- Assumes nothing.
use Prim.Native.Nat.{ℕ, suc, ◌+◌, ◌*◌, ◌≤◌, ◌<◌}
use native.Mathlib.Omega.{arith}
use mathlib.Core.List.{List, [], ◌∷◌, ◌++◌, append_assoc}
use mathlib.Core.Path.{◌≡◌, sym, ap, ap₂, ◌∙◌}
use lib.ListN.{length, get_or, take, drop, set, length-set}
use lib.Seq.{length-take-le, take-append-add, drop-set-lt, get_or-set_same, get_or-set_other, sets-eq}
use Rattle.rules.specs.declared.Triangle.{Triangle}
use Rattle.rules.specs.Build.{with_triangle}

module _ (xs : List ℕ) (n : ℕ) (t : Triangle) where
  abbrev one : List ℕ
  one = set xs (3 * n) t.p

  abbrev two : List ℕ
  two = set one (3 * n + 1) t.q

  abbrev three : List ℕ
  three = set two (3 * n + 2) t.r

  module _ (h : 3 * n + 3 ≤ length xs) where
    -- as the code writes it
    pub three_stores : set (set (set xs (3 * n) t.p) (3 * n + 1) t.q) (3 * n + 2) t.r ≡ with_triangle n t xs
    three_stores =
        let k : ℕ = 3 * n in
        let e : k + 1 ≡ suc k = omega arith in
        let f : k + 2 ≡ suc (suc k) = omega arith in
        let ts : List ℕ = t.p ∷ (t.q ∷ (t.r ∷ [])) in
        ap₂ (λ (i j : ℕ). set (set (set xs k t.p) i t.q) j t.r) e f ∙ sets-eq ts xs k h
        ∙ append_assoc (take k xs) ts (drop (k + 3) xs)

    pub written_long : length (with_triangle n t xs) ≡ length xs
    written_long =
        ap length (sym three_stores) ∙ length-set two (3 * n + 2) t.r ∙ length-set one (3 * n + 1) t.q ∙ length-set xs (3 * n) t.p

    at : (i : ℕ) → get_or (with_triangle n t xs) i 0 ≡ get_or three i 0
    at i = ap (λ (ys : List ℕ). get_or ys i 0) (sym three_stores)

    pub written_before : (i : ℕ) → i < 3 * n → get_or (with_triangle n t xs) i 0 ≡ get_or xs i 0
    written_before i l =
        at i ∙ get_or-set_other two (3 * n + 2) i t.r 0 (λ e. absurd (omega (arith, e, l)))
        ∙ get_or-set_other one (3 * n + 1) i t.q 0 (λ e. absurd (omega (arith, e, l)))
        ∙ get_or-set_other xs (3 * n) i t.p 0 (λ e. absurd (omega (arith, e, l)))

    pub written_p : get_or (with_triangle n t xs) (3 * n) 0 ≡ t.p
    written_p =
        at (3 * n) ∙ get_or-set_other two (3 * n + 2) (3 * n) t.r 0 (λ e. absurd (omega (arith, e)))
        ∙ get_or-set_other one (3 * n + 1) (3 * n) t.q 0 (λ e. absurd (omega (arith, e)))
        ∙ get_or-set_same xs (3 * n) t.p 0 (omega (arith, h))

    pub written_q : get_or (with_triangle n t xs) (3 * n + 1) 0 ≡ t.q
    written_q =
        at (3 * n + 1) ∙ get_or-set_other two (3 * n + 2) (3 * n + 1) t.r 0 (λ e. absurd (omega (arith, e)))
        ∙ get_or-set_same one (3 * n + 1) t.q 0 (omega (arith, h, length-set xs (3 * n) t.p))

    pub written_r : get_or (with_triangle n t xs) (3 * n + 2) 0 ≡ t.r
    written_r =
        at (3 * n + 2)
        ∙ get_or-set_same two (3 * n + 2) t.r 0 (omega (arith, h, length-set xs (3 * n) t.p, length-set one (3 * n + 1) t.q))

    -- the numbers up to its end, and those past it
    pub written_front : take (3 * n + 3) (with_triangle n t xs) ≡ take (3 * n) xs ++ (t.p ∷ (t.q ∷ (t.r ∷ [])))
    written_front =
        let ys : List ℕ = take (3 * n) xs in
        let zs : List ℕ = (t.p ∷ (t.q ∷ (t.r ∷ []))) ++ drop (3 * n + 3) xs in
        let e : 3 * n + 3 ≡ length ys + 3 = omega (arith, length-take-le (3 * n) xs (omega (arith, h))) in
        ap (λ (k : ℕ). take k (ys ++ zs)) e ∙ take-append-add ys zs 3

    pub written_past : (k : ℕ) → 3 * n + 3 ≤ k → drop k (with_triangle n t xs) ≡ drop k xs
    written_past k l =
        ap (drop k) (sym three_stores) ∙ drop-set-lt k two (3 * n + 2) t.r (omega (arith, l))
        ∙ drop-set-lt k one (3 * n + 1) t.q (omega (arith, l)) ∙ drop-set-lt k xs (3 * n) t.p (omega (arith, l))
