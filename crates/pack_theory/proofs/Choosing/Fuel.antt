-- Turning about a vertex ends before it has used as many steps as there are triangles, so that more steps change nothing.
-- Assumes nothing.
use Prim.Native.Nat.{ℕ, zero, suc, ◌≤◌}
use native.Mathlib.Omega.{arith}
use mathlib.Core.List.{List}
use mathlib.Core.Path.{◌≡◌, refl, sym, ◌∙◌, subst}
use mathlib.Core.Logic.{◌⊎◌, inl, inr}
use lib.ListN.{length}
use Rattle.rules.specs.declared.Triangle.{Triangle}
use Rattle.rules.specs.Choice.{turn_in, turn_out}
use Rattle.rules.specs.Triangle.{In}
use Rattle.mesh_theory.specs.Fans.Corner.{Once}
use Rattle.mesh_theory.proofs.Fans.Corners.{in_next}
use Rattle.choice_theory.specs.Spots.{Unused}
use Rattle.choice_theory.proofs.Turning.Links.{in_last, once_func}
use Rattle.choice_theory.proofs.Turning.Ways.{across_some, across_none, others, others_length, others_sub, others_once, others_free}
use Rattle.choice_theory.proofs.Turning.Ways.{look, others_in}
use Rattle.choice_theory.proofs.Turning.Taking.{free_1}

-- a turn that ends at once
pub in_ends : (n c x : ℕ) (ts : List Triangle) → Unused x c ts → turn_in n c x ts ≡ x
unfolding turn_in
in_ends zero c x ts f = refl
in_ends (suc n) c x ts f = rw (turn_in, across_none x c ts f) refl

pub out_ends : (n c y : ℕ) (ts : List Triangle) → Unused c y ts → turn_out n c y ts ≡ y
unfolding turn_out
out_ends zero c y ts f = refl
out_ends (suc n) c y ts f = rw (turn_out, across_none c y ts f) refl

-- one that goes on
pub in_goes : (n c x z : ℕ) (ts : List Triangle) → Once ts → In x c z ts → turn_in (suc n) c x ts ≡ turn_in n c z ts
unfolding turn_in
in_goes n c x z ts o i = rw (turn_in, (across_some x c z ts o i).found) refl

pub out_goes : (n c y z : ℕ) (ts : List Triangle) → Once ts → In c y z ts → turn_out (suc n) c y ts ≡ turn_out n c z ts
unfolding turn_out
out_goes n c y z ts o i = rw (turn_out, (across_some c y z ts o i).found) refl

-- turning does not come back to where it began
in_away : (c x z : ℕ) (ts : List Triangle) (i : In c z x ts) → Once ts → Unused c x ts → (n w : ℕ) → (w ≡ x → ⊥)
    → turn_in n c w ts ≡ turn_in n c w (others i)
unfolding turn_in
in_away c x z ts i o f zero w d = refl
in_away c x z ts i o f (suc n) w d = go (look w c ts) (λ u e. in_away c x z ts i o f n u e)
  where
    kept : (u : ℕ) → In w c u ts → In c u w (others i) ⊎ (u ≡ z) → In w c u (others i)
    kept u j (inl k) = in_last k
    kept u j (inr e) = absurd (d (once_func ts o (subst (λ (v : ℕ). In c v w ts) e (in_next j)) i))

    go : ((u : ℕ) × In w c u ts) ⊎ Unused w c ts → ((u : ℕ) → (u ≡ x → ⊥) → turn_in n c u ts ≡ turn_in n c u (others i))
        → turn_in (suc n) c w ts ≡ turn_in (suc n) c w (others i)
    go (inr g) h = in_ends (suc n) c w ts g ∙ sym (in_ends (suc n) c w (others i) (λ u j. g u (others_sub i j)))
    go (inl (u, j)) h =
        in_goes n c w u ts o j ∙ (h u (λ e. f w (subst (λ (v : ℕ). In c v w ts) e (in_next j)))
        ∙ sym (in_goes n c w u (others i) (others_once ts i o) (kept u j (others_in ts i o (in_next j)))))

out_away : (c x z : ℕ) (ts : List Triangle) (i : In c x z ts) → Once ts → Unused x c ts → (n w : ℕ) → (w ≡ x → ⊥)
    → turn_out n c w ts ≡ turn_out n c w (others i)
unfolding turn_out
out_away c x z ts i o f zero w d = refl
out_away c x z ts i o f (suc n) w d = go (look c w ts) (λ u e. out_away c x z ts i o f n u e)
  where
    kept : (u : ℕ) → In c w u (others i) ⊎ (w ≡ x) → In c w u (others i)
    kept u (inl k) = k
    kept u (inr e) = absurd (d e)

    go : ((u : ℕ) × In c w u ts) ⊎ Unused c w ts → ((u : ℕ) → (u ≡ x → ⊥) → turn_out n c u ts ≡ turn_out n c u (others i))
        → turn_out (suc n) c w ts ≡ turn_out (suc n) c w (others i)
    go (inr g) h = out_ends (suc n) c w ts g ∙ sym (out_ends (suc n) c w (others i) (λ u j. g u (others_sub i j)))
    go (inl (u, j)) h =
        out_goes n c w u ts o j ∙ (h u (λ e. f w (subst (λ (v : ℕ). In v c w ts) e (in_last j)))
        ∙ sym (out_goes n c w u (others i) (others_once ts i o) (kept u (others_in ts i o j))))

-- as many steps as triangles are enough: from a triangle that has c→x and is not among ts
in_fuel : (s c x : ℕ) (ts : List Triangle) → length ts ≤ s → Once ts → Unused c x ts → (m n : ℕ) → s ≤ m → s ≤ n
    → turn_in m c x ts ≡ turn_in n c x ts
in_fuel zero c x ts e o f m n a b = go (look x c ts)
  where
    go : ((z : ℕ) × In x c z ts) ⊎ Unused x c ts → turn_in m c x ts ≡ turn_in n c x ts
    go (inr g) = in_ends m c x ts g ∙ sym (in_ends n c x ts g)
    go (inl (z, j)) = absurd (omega (arith, e, others_length j))
in_fuel (suc s) c x ts e o f zero n a b = absurd (omega (arith, a))
in_fuel (suc s) c x ts e o f (suc m) zero a b = absurd (omega (arith, b))
in_fuel (suc s) c x ts e o f (suc m) (suc n) a b =
    go (look x c ts) (λ z i k. in_fuel s c z (others i) k (others_once ts i o) (free_1 ts i o) m n (omega (arith, a)) (omega (arith, b)))
  where
    go : ((z : ℕ) × In x c z ts) ⊎ Unused x c ts
        → ((z : ℕ) (i : In c z x ts) → length (others i) ≤ s → turn_in m c z (others i) ≡ turn_in n c z (others i))
        → turn_in (suc m) c x ts ≡ turn_in (suc n) c x ts
    go (inr g) h = in_ends (suc m) c x ts g ∙ sym (in_ends (suc n) c x ts g)
    go (inl (z, j)) h =
        let i : In c z x ts = in_next j in
        let d : z ≡ x → ⊥ = λ q. f x (subst (λ (v : ℕ). In c v x ts) q i) in
        in_goes m c x z ts o j ∙ (in_away c x z ts i o f m z d
        ∙ (h z i (omega (arith, e, others_length i)) ∙ (sym (in_away c x z ts i o f n z d) ∙ sym (in_goes n c x z ts o j))))

out_fuel : (s c x : ℕ) (ts : List Triangle) → length ts ≤ s → Once ts → Unused x c ts → (m n : ℕ) → s ≤ m → s ≤ n
    → turn_out m c x ts ≡ turn_out n c x ts
out_fuel zero c x ts e o f m n a b = go (look c x ts)
  where
    go : ((z : ℕ) × In c x z ts) ⊎ Unused c x ts → turn_out m c x ts ≡ turn_out n c x ts
    go (inr g) = out_ends m c x ts g ∙ sym (out_ends n c x ts g)
    go (inl (z, j)) = absurd (omega (arith, e, others_length j))
out_fuel (suc s) c x ts e o f zero n a b = absurd (omega (arith, a))
out_fuel (suc s) c x ts e o f (suc m) zero a b = absurd (omega (arith, b))
out_fuel (suc s) c x ts e o f (suc m) (suc n) a b =
    go (look c x ts) (λ z i k.
    out_fuel s c z (others i) k (others_once ts i o) (others_free ts i o) m n (omega (arith, a)) (omega (arith, b)))
  where
    go : ((z : ℕ) × In c x z ts) ⊎ Unused c x ts
        → ((z : ℕ) (i : In c x z ts) → length (others i) ≤ s → turn_out m c z (others i) ≡ turn_out n c z (others i))
        → turn_out (suc m) c x ts ≡ turn_out (suc n) c x ts
    go (inr g) h = out_ends (suc m) c x ts g ∙ sym (out_ends (suc n) c x ts g)
    go (inl (z, i)) h =
        let d : z ≡ x → ⊥ = λ q. f x (subst (λ (v : ℕ). In v c x ts) q (in_last i)) in
        out_goes m c x z ts o i ∙ (out_away c x z ts i o f m z d
        ∙ (h z i (omega (arith, e, others_length i)) ∙ (sym (out_away c x z ts i o f n z d) ∙ sym (out_goes n c x z ts o i))))

pub in_enough : (n c x : ℕ) (ts : List Triangle) → length ts ≤ n → Once ts → Unused c x ts → turn_in n c x ts ≡ turn_in (length ts) c x ts
in_enough n c x ts e o f = in_fuel (length ts) c x ts (omega arith) o f n (length ts) e (omega arith)

pub out_enough : (n c y : ℕ) (ts : List Triangle) → length ts ≤ n → Once ts → Unused y c ts
    → turn_out n c y ts ≡ turn_out (length ts) c y ts
out_enough n c y ts e o f = out_fuel (length ts) c y ts (omega arith) o f n (length ts) e (omega arith)
