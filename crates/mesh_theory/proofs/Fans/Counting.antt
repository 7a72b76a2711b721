-- Laws of counting numbers and directed edges.
-- Assumes nothing.
use Prim.Native.Nat.{ℕ, zero, suc, ◌+◌, ◌≤◌, ◌<◌}
use native.Mathlib.Omega.{arith}
use mathlib.Core.Bool.{Bool, true, false}
use mathlib.Core.List.{List, [], ◌∷◌}
use mathlib.Core.Logic.{◌⊎◌, inl, inr}
use mathlib.Core.Path.{◌≡◌, refl, sym, subst}
use lib.ListN.{length}
use lib.Dec.{eqb}
use borrow.Author.Tests.{eqb-true, eqb-false}
use Rattle.rules.specs.Triangle.{Edge, edge}
use Rattle.rules.specs.Count.{same, hit, count}
use Rattle.mesh_theory.specs.Fans.Ways.{total}
use Rattle.counting.proofs.Counts.{hit_yes, hit_from, hit_to, hit_is}

-- how many of the edges start at x, and how many end there
abbrev pub starts : ℕ → List Edge → ℕ
starts x = total (λ d. same x d.from)

abbrev pub ends : ℕ → List Edge → ℕ
ends x = total (λ d. same x d.to)

-- no two of the edges start at the same vertex, and no two end at the same one
pub record Apart (ds : List Edge) : Type 0 where
  pub starts_once : (x : ℕ) → starts x ds ≤ 1
  pub ends_once : (x : ℕ) → ends x ds ≤ 1

-- what holds for the last number and for those below it
pub below_suc : (P : ℕ → Type 0) (n v : ℕ) → v < suc n → P n → (v < n → P v) → P v
below_suc P n v l h k = go (eqb v n) refl
  where
    go : (b : Bool) → eqb v n ≡ b → P v
    go true e = subst P (sym (eqb-true v n e)) h
    go false e = k (omega (arith, eqb-false v n e))

-- sums of weights
pub total_more : (v w : Edge → ℕ) → ((d : Edge) → v d ≤ w d) → (ds : List Edge) → total v ds ≤ total w ds
unfolding total
total_more v w h [] = omega arith
total_more v w h (d ∷ ds) = omega (arith, h d, total_more v w h ds)

pub length_total : (ds : List Edge) → length ds ≡ total (λ d. 1) ds
unfolding total
length_total [] = refl
length_total (d ∷ ds) = omega (arith, length_total ds)

-- a count of edges is such a sum
abbrev pub hits : ℕ → ℕ → Edge → ℕ
hits x y d = hit x y d.from d.to

pub count_total : (x y : ℕ) (ds : List Edge) → count x y ds ≡ total (hits x y) ds
unfolding total count
count_total x y [] = refl
count_total x y (d ∷ ds) = omega (arith, count_total x y ds)

pub count_starts : (x y : ℕ) (ds : List Edge) → count x y ds ≤ starts x ds
count_starts x y ds =
    omega (arith, count_total x y ds, total_more (hits x y) (λ d. same x d.from) (λ d. hit_from x y d.from d.to) ds)

pub count_ends : (x y : ℕ) (ds : List Edge) → count x y ds ≤ ends y ds
count_ends x y ds =
    omega (arith, count_total x y ds, total_more (hits x y) (λ d. same y d.to) (λ d. hit_to x y d.from d.to) ds)

-- an edge of a list is its first or one of the others
pub member : (x y : ℕ) (d : Edge) (ds : List Edge) → 1 ≤ count x y (d ∷ ds)
    → ((x ≡ d.from) × (y ≡ d.to)) ⊎ (1 ≤ count x y ds)
unfolding count
member x y d ds h = go (hit x y d.from d.to) refl
  where
    go : (n : ℕ) → hit x y d.from d.to ≡ n → ((x ≡ d.from) × (y ≡ d.to)) ⊎ (1 ≤ count x y ds)
    go zero e = inr (omega arith)
    go (suc n) e = inl (hit_is x y d.from d.to (omega arith))

-- an edge that is there can be taken out
abbrev Without : ℕ → ℕ → List Edge → Type 0
Without x y ds = (es : List Edge) × ((w : Edge → ℕ) → total w ds ≡ w (edge x y) + total w es)

taken_out : (x y : ℕ) (ds : List Edge) → 1 ≤ count x y ds → Without x y ds
unfolding total count
taken_out x y [] h = absurd (omega arith)
taken_out x y (d ∷ ds) h = go (hit x y d.from d.to) refl (taken_out x y ds)
  where
    go : (n : ℕ) → hit x y d.from d.to ≡ n → (1 ≤ count x y ds → Without x y ds) → Without x y (d ∷ ds)
    go zero e k = let t = k (omega arith) in (d ∷ t.0, λ w. omega (arith, t.1 w))
    go (suc n) e k = let q = hit_is x y d.from d.to (omega arith) in (ds, λ w. rw (q.0, q.1))

-- lists that have each edge equally often have equal sums
pub same_totals : (ds es : List Edge) → ((x y : ℕ) → count x y ds ≡ count x y es) → (w : Edge → ℕ) → total w ds ≡ total w es
unfolding total count
same_totals [] [] c w = refl
same_totals [] (e ∷ es) c w = absurd (omega (arith, c e.from e.to, hit_yes e.from e.to))
same_totals (d ∷ ds) es c w =
    let t = taken_out d.from d.to es (omega (arith, c d.from d.to, hit_yes d.from d.to)) in
    omega (
      arith,
      t.1 w,
      same_totals ds t.0 (λ x y. omega (arith, c x y, t.1 (hits x y), count_total x y es, count_total x y t.0)) w,
    )

pub apart_same : (ds es : List Edge) → ((x y : ℕ) → count x y es ≡ count x y ds) → Apart ds → Apart es
apart_same ds es c a = record {
  starts_once = λ x. omega (arith, a.starts_once x, same_totals es ds c (λ d. same x d.from));
  ends_once = λ x. omega (arith, a.ends_once x, same_totals es ds c (λ d. same x d.to));
}
