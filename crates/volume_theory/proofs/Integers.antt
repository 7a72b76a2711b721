-- Sums and products of integers, and their amounts.
-- Assumes nothing.
use Prim.Native.Nat.{ℕ, zero, suc, ◌+◌, ◌*◌, ◌≤◌}
use native.Mathlib.Omega.{arith}
use mathlib.Core.Bool.{Bool, true, false}
use mathlib.Core.Path.{◌≡◌, refl, sym, ap, ◌∙◌, subst}
use lib.Dec.{ltb}
use borrow.Author.Tests.{ltb-true, ltb-false}
use lib.IntN.{ℤ, pos, negsuc, neg_ℤ, nat_abs, sub_ℕ, suc_ℤ, pred_ℤ, ◌+ℤ◌, ◌-ℤ◌, ◌*ℤ◌, +ℤ_assoc, +ℤ_comm, +ℤ_idl, +ℤ_one, -ℤ_one}
use lib.IntN.{+ℤ-neg_ℤ_cancel, -ℤ-+ℤ_cancel, suc_ℤ-+ℤ, pred_ℤ-+ℤ, suc_ℤ-*ℤ, pred_ℤ-*ℤ, zero-*ℤ, neg_ℤ-+ℤ, neg_ℤ-neg_ℤ, *ℤ_comm, ℤ_ind}

-- sums
pub swap_sums : (a b c d : ℤ) → (a +ℤ b) +ℤ (c +ℤ d) ≡ (a +ℤ c) +ℤ (b +ℤ d)
swap_sums a b c d =
    +ℤ_assoc a b (c +ℤ d)
    ∙ ap (λ (x : ℤ). a +ℤ x) (sym (+ℤ_assoc b c d) ∙ (ap (λ (x : ℤ). x +ℤ d) (+ℤ_comm b c) ∙ +ℤ_assoc c b d))
    ∙ sym (+ℤ_assoc a c (b +ℤ d))

pub three : (a b c : ℤ) → a +ℤ b +ℤ c ≡ b +ℤ c +ℤ a
three a b c = +ℤ_assoc a b c ∙ +ℤ_comm a (b +ℤ c)

pub swap_first : (a b c : ℤ) → a +ℤ (b +ℤ c) ≡ b +ℤ (a +ℤ c)
swap_first a b c = sym (+ℤ_assoc a b c) ∙ ap (λ (x : ℤ). x +ℤ c) (+ℤ_comm a b) ∙ +ℤ_assoc b a c

-- differences
pub turned_difference : (a b : ℤ) → b -ℤ a ≡ neg_ℤ (a -ℤ b)
turned_difference a b =
    +ℤ_comm b (neg_ℤ a) ∙ ap (λ (x : ℤ). neg_ℤ a +ℤ x) (sym (neg_ℤ-neg_ℤ b)) ∙ sym (neg_ℤ-+ℤ a (neg_ℤ b))

pub difference_sums : (a b c d : ℤ) → (a +ℤ b) -ℤ (c +ℤ d) ≡ (a -ℤ c) +ℤ (b -ℤ d)
difference_sums a b c d = ap (λ (x : ℤ). (a +ℤ b) +ℤ x) (neg_ℤ-+ℤ c d) ∙ swap_sums a b (neg_ℤ c) (neg_ℤ d)

pub add_difference : (a b : ℤ) → a +ℤ (b -ℤ a) ≡ b
add_difference a b = +ℤ_comm a (b -ℤ a) ∙ -ℤ-+ℤ_cancel b a

pub less_itself : (a b : ℤ) → a +ℤ b -ℤ a ≡ b
less_itself a b = ap (λ (x : ℤ). x -ℤ a) (+ℤ_comm a b) ∙ +ℤ-neg_ℤ_cancel b a

-- products of sums
abbrev Spreads : ℤ → Type 0
Spreads a = (b c : ℤ) → (a +ℤ b) *ℤ c ≡ a *ℤ c +ℤ b *ℤ c

-- a law holds of every integer if it holds of 0 and passes from each to the next and to the one before
step_by_step : (P : ℤ → Type 0) → P (pos zero) → ((a : ℤ) → P a → P (suc_ℤ a)) → ((a : ℤ) → P a → P (pred_ℤ a)) → (a : ℤ) → P a
step_by_step P none up down =
    ℤ_ind P none (λ n h. subst P (sym (+ℤ_one (pos n))) (up (pos n) h))
    (λ n h. subst P (sym (-ℤ_one (neg_ℤ (pos n)))) (down (neg_ℤ (pos n)) h))

pub spreads : (a b c : ℤ) → (a +ℤ b) *ℤ c ≡ a *ℤ c +ℤ b *ℤ c
spreads = step_by_step Spreads none up down
  where
    none : Spreads (pos zero)
    none b c = ap (λ (x : ℤ). x *ℤ c) (+ℤ_idl b) ∙ sym (ap (λ (x : ℤ). x +ℤ b *ℤ c) (zero-*ℤ c) ∙ +ℤ_idl (b *ℤ c))

    shift : (x y z : ℤ) → (x +ℤ y) +ℤ z ≡ (x +ℤ z) +ℤ y
    shift x y z = +ℤ_assoc x y z ∙ (ap (λ (w : ℤ). x +ℤ w) (+ℤ_comm y z) ∙ sym (+ℤ_assoc x z y))

    up : (a : ℤ) → Spreads a → Spreads (suc_ℤ a)
    up a h b c =
        ap (λ (x : ℤ). x *ℤ c) (suc_ℤ-+ℤ a b)
        ∙ (suc_ℤ-*ℤ (a +ℤ b) c ∙ (ap (λ (x : ℤ). x +ℤ c) (h b c) ∙ (shift (a *ℤ c) (b *ℤ c) c
        ∙ ap (λ (x : ℤ). x +ℤ b *ℤ c) (sym (suc_ℤ-*ℤ a c)))))

    down : (a : ℤ) → Spreads a → Spreads (pred_ℤ a)
    down a h b c =
        ap (λ (x : ℤ). x *ℤ c) (pred_ℤ-+ℤ a b)
        ∙ (pred_ℤ-*ℤ (a +ℤ b) c ∙ (ap (λ (x : ℤ). x -ℤ c) (h b c) ∙ (shift (a *ℤ c) (b *ℤ c) (neg_ℤ c)
        ∙ ap (λ (x : ℤ). x +ℤ b *ℤ c) (sym (pred_ℤ-*ℤ a c)))))

-- products of products
abbrev Groups : ℤ → Type 0
Groups a = (b c : ℤ) → (a *ℤ b) *ℤ c ≡ a *ℤ (b *ℤ c)

pub *ℤ-assoc : (a b c : ℤ) → (a *ℤ b) *ℤ c ≡ a *ℤ (b *ℤ c)
*ℤ-assoc = step_by_step Groups none up down
  where
    none : Groups (pos zero)
    none b c = ap (λ (x : ℤ). x *ℤ c) (zero-*ℤ b) ∙ zero-*ℤ c ∙ sym (zero-*ℤ (b *ℤ c))

    up : (a : ℤ) → Groups a → Groups (suc_ℤ a)
    up a h b c =
        ap (λ (x : ℤ). x *ℤ c) (suc_ℤ-*ℤ a b) ∙ spreads (a *ℤ b) b c ∙ ap (λ (x : ℤ). x +ℤ b *ℤ c) (h b c) ∙ sym (suc_ℤ-*ℤ a (b *ℤ c))

    taken : (x y c : ℤ) → (x -ℤ y) *ℤ c ≡ x *ℤ c -ℤ y *ℤ c
    taken x y c =
        sym (+ℤ-neg_ℤ_cancel ((x -ℤ y) *ℤ c) (y *ℤ c))
        ∙ ap (λ (w : ℤ). w -ℤ y *ℤ c) (sym (spreads (x -ℤ y) y c) ∙ ap (λ (w : ℤ). w *ℤ c) (-ℤ-+ℤ_cancel x y))

    down : (a : ℤ) → Groups a → Groups (pred_ℤ a)
    down a h b c =
        ap (λ (x : ℤ). x *ℤ c) (pred_ℤ-*ℤ a b) ∙ taken (a *ℤ b) b c ∙ ap (λ (x : ℤ). x -ℤ b *ℤ c) (h b c) ∙ sym (pred_ℤ-*ℤ a (b *ℤ c))

-- three factors, turned
pub three_factors : (a b c : ℤ) → a *ℤ b *ℤ c ≡ c *ℤ a *ℤ b
three_factors a b c = *ℤ_comm (a *ℤ b) c ∙ sym (*ℤ-assoc c a b)

-- amounts
pub amount_neg : (a : ℤ) → nat_abs (neg_ℤ a) ≡ nat_abs a
amount_neg (pos zero) = refl
amount_neg (pos (suc n)) = refl
amount_neg (negsuc n) = refl

amount_sub : (a b : ℕ) → nat_abs (sub_ℕ a b) ≤ a + b
amount_sub a b = go (ltb a b) refl
  where
    go : (t : Bool) → ltb a b ≡ t → nat_abs (sub_ℕ a b) ≤ a + b
    go true e = rw (sub_ℕ, e) (let h = ltb-true a b e in omega arith)
    go false e = rw (sub_ℕ, e) (let h = ltb-false a b e in omega arith)

pub amount_sum : (a b : ℤ) → nat_abs (a +ℤ b) ≤ nat_abs a + nat_abs b
amount_sum (pos a) (pos b) = omega arith
amount_sum (pos a) (negsuc b) = amount_sub a (suc b)
amount_sum (negsuc a) (pos b) = let h = amount_sub b (suc a) in omega arith
amount_sum (negsuc a) (negsuc b) = omega arith

pub amount_difference : (a b : ℤ) → nat_abs (a -ℤ b) ≤ nat_abs a + nat_abs b
amount_difference a b = let h = amount_sum a (neg_ℤ b) in omega (arith, amount_neg b)

pub amount_product : (a b : ℤ) → nat_abs (a *ℤ b) ≡ nat_abs a * nat_abs b
amount_product (pos a) (pos b) = refl
amount_product (pos a) (negsuc b) = amount_neg (pos (a * suc b))
amount_product (negsuc a) (pos b) = amount_neg (pos (suc a * b))
amount_product (negsuc a) (negsuc b) = refl
