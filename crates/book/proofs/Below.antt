-- The counts of different numbers and of joined pairs are sums over all numbers, and over all pairs, below a bound.
-- Assumes nothing.
use Prim.Native.Nat.{ℕ, zero, suc, ◌+◌, ◌≤◌, ◌<◌}
use native.Mathlib.Omega.{arith}
use mathlib.Core.Bool.{Bool, true, false, not, and_comm}
use mathlib.Core.List.{List, [], ◌∷◌}
use mathlib.Core.Path.{◌≡◌, refl, sym, ap, ◌∙◌, subst}
use lib.Dec.{eqb, ltb}
use borrow.Author.Tests.{eqb-true, eqb-false, ltb-true, ltb-false, ne_eqb}
use Rattle.rules.specs.Triangle.{Edge, edge, corners, edges_of}
use Rattle.rules.specs.Count.{num, same, hit, occurs, count, uses, unjoined, different, pairs}
use Rattle.rules.specs.Book.{Book}
use Rattle.book.specs.Below.{sum_below, numbers_below, pairs_below}
use Rattle.book.specs.Consistent.{Consistent}
use Rattle.book.proofs.Counting.{uses_from, uses_to}
use Rattle.counting.proofs.Counts.{same_yes, same_no, same_is, hit_yes, hit_from, hit_to, no_from, no_to}

sum_same : (n : ℕ) (g h : ℕ → ℕ) → ((x : ℕ) → x < n → h x ≡ g x) → sum_below n h ≡ sum_below n g
unfolding sum_below
sum_same zero g h e = refl
sum_same (suc n) g h e = omega (arith, e n (omega arith), sum_same n g h (λ x l. e x (omega arith)))

-- one summand is greater by d
sum_one : (n p : ℕ) (g h : ℕ → ℕ) (d : ℕ) → p < n → ((x : ℕ) → x < n → (x ≡ p → ⊥) → h x ≡ g x) → h p ≡ g p + d
    → sum_below n h ≡ sum_below n g + d
unfolding sum_below
sum_one zero p g h d l e f = absurd (omega arith)
sum_one (suc n) p g h d l e f = go (eqb n p) refl (λ k. sum_one n p g h d k (λ x m. e x (omega arith)) f)
  where
    go : (t : Bool) → eqb n p ≡ t → (p < n → sum_below n h ≡ sum_below n g + d) → h n + sum_below n h ≡ g n + sum_below n g + d
    go true z more =
        let n-p : n ≡ p = eqb-true n p z in
        let here : h n ≡ g n + d = rw n-p f in
        omega (arith, here, sum_same n g h (λ x m. e x (omega arith) (λ q. omega arith)))
    go false z more =
        omega (arith, more (omega (arith, eqb-false n p z)), e n (omega arith) (eqb-false n p z))

zeros : (n : ℕ) (g : ℕ → ℕ) → ((x : ℕ) → g x ≡ 0) → sum_below n g ≡ 0
unfolding sum_below
zeros zero g h = refl
zeros (suc n) g h = omega (arith, h n, zeros n g h)

flip : (t : Bool) → num (not t) + num t ≡ 1
flip true = refl
flip false = refl

-- the different numbers
pub different_below : (n : ℕ) (xs : List ℕ) → ((x : ℕ) → 1 ≤ occurs x xs → x < n) → different xs ≡ numbers_below n xs
unfolding different occurs
different_below n [] h = sym (zeros n (λ x. 0) (λ x. refl))
different_below n (v ∷ xs) h =
    let more : different xs ≡ numbers_below n xs = different_below n xs (λ x k. h x (omega arith)) in
    let one : sum_below n (λ x. num (not (eqb (same x v + occurs x xs) 0))) ≡ numbers_below n xs + num (eqb (occurs v xs) 0) =
    sum_one n v (λ x. num (not (eqb (occurs x xs) 0))) (λ x. num (not (eqb (same x v + occurs x xs) 0))) (num (eqb (occurs v xs) 0))
    (h v (omega (arith, same_yes v)))
    (λ x l d.
    let e : same x v + occurs x xs ≡ occurs x xs = omega (arith, same_no x v d) in
    rw e)
    here in
    omega (arith, one, more)
  where
    here : num (not (eqb (same v v + occurs v xs) 0)) ≡ num (not (eqb (occurs v xs) 0)) + num (eqb (occurs v xs) 0)
    here =
        let e : eqb (same v v + occurs v xs) 0 ≡ false = ne_eqb (same v v + occurs v xs) 0 (λ z. omega (arith, same_yes v)) in
        rw e (sym (flip (eqb (occurs v xs) 0)))

-- whether x and y are joined
abbrev joined : List Edge → ℕ → ℕ → ℕ
joined ds x y = num (not (unjoined x y ds))

module _ (a b : ℕ) (ds : List Edge) where
  joined_same : (x y : ℕ) → hit x y a b ≡ 0 → hit y x a b ≡ 0 → joined (edge a b ∷ ds) x y ≡ joined ds x y
  unfolding count
  joined_same x y g h =
      let e : hit x y a b + count x y ds ≡ count x y ds = omega arith in
      let f : hit y x a b + count y x ds ≡ count y x ds = omega arith in
      rw (e, f)

  joined_here : joined (edge a b ∷ ds) a b ≡ joined ds a b + num (unjoined a b ds)
  unfolding count
  joined_here =
      let e : eqb (hit a b a b + count a b ds) 0 ≡ false = ne_eqb (hit a b a b + count a b ds) 0 (λ z. omega (arith, hit_yes a b)) in
      rw e (sym (flip (unjoined a b ds)))

  joined_turn : (x y : ℕ) (es : List Edge) → joined es x y ≡ joined es y x
  joined_turn x y es = ap (λ (t : Bool). num (not t)) (and_comm (eqb (count x y es) 0) (eqb (count y x es) 0))

  -- the point p, q of the grid is a, b or b, a
  grid : (n p q : ℕ) → q < p → p < n → ((x y : ℕ) → (x ≡ p → ⊥) → (x ≡ q → y ≡ p → ⊥) → hit x y a b + hit y x a b ≡ 0)
      → ((y : ℕ) → (y ≡ q → ⊥) → hit p y a b + hit y p a b ≡ 0) → joined (edge a b ∷ ds) p q ≡ joined ds p q + num (unjoined a b ds)
      → pairs_below n (edge a b ∷ ds) ≡ pairs_below n ds + num (unjoined a b ds)
  grid n p q l k far near here =
      sum_one n p (λ x. sum_below x (joined ds x)) (λ x. sum_below x (joined (edge a b ∷ ds) x)) (num (unjoined a b ds)) k
      (λ x m d. sum_same x (joined ds x) (joined (edge a b ∷ ds) x)
      (λ y o.
      let z = far x y d (λ e f. omega arith) in
      joined_same x y (omega (arith, z)) (omega (arith, z))))
      (sum_one p q (joined ds p) (joined (edge a b ∷ ds) p) (num (unjoined a b ds)) l
      (λ y o d. let z = near y d in joined_same p y (omega (arith, z)) (omega (arith, z))) here)

  not_both : (x y : ℕ) → (x ≡ a → y ≡ b → ⊥) → hit x y a b ≡ 0
  not_both x y h = go (hit x y a b) refl
    where
      go : (n : ℕ) → hit x y a b ≡ n → n ≡ 0
      go zero e = refl
      go (suc n) e =
          absurd (h (same_is x a (omega (arith, hit_from x y a b))) (same_is y b (omega (arith, hit_to x y a b))))

  more_pairs : (n : ℕ) → a < n → b < n → (a ≡ b → ⊥) → pairs_below n (edge a b ∷ ds) ≡ pairs_below n ds + num (unjoined a b ds)
  more_pairs n la lb d = go (ltb b a) refl
    where
      go : (t : Bool) → ltb b a ≡ t → pairs_below n (edge a b ∷ ds) ≡ pairs_below n ds + num (unjoined a b ds)
      go true e =
          grid n a b (ltb-true b a e) la
          (λ x y f g. omega (arith, no_from x y a b f, not_both y x (λ i j. g j i)))
          (λ y f. omega (arith, no_to a y a b f, no_to y a a b d)) joined_here
      go false e =
          let l : a < b = omega (arith, ltb-false b a e, d) in
          grid n b a l lb
          (λ x y f g. omega (arith, no_to y x a b f, not_both x y g))
          (λ y f. omega (arith, no_from b y a b (λ z. d (sym z)), no_from y b a b f))
          (omega (arith, joined_here, joined_turn a b ds, joined_turn a b (edge a b ∷ ds)))

-- the joined pairs
pub pairs_below_lem : (n : ℕ) (ds : List Edge) → ((x y : ℕ) → 1 ≤ count x y ds → (x < n) × (y < n) × (x ≡ y → ⊥))
    → pairs ds ≡ pairs_below n ds
unfolding pairs count
pairs_below_lem n [] h = sym (zeros n (λ x. sum_below x (λ y. 0)) (λ x. zeros x (λ y. 0) (λ y. refl)))
pairs_below_lem n (d ∷ ds) h =
    let e = h d.from d.to (omega (arith, hit_yes d.from d.to)) in
    let more : pairs ds ≡ pairs_below n ds = pairs_below_lem n ds (λ x y k. h x y (omega arith)) in
    let one = more_pairs d.from d.to ds n e.0 e.1 e.2 in
    omega (arith, one, more)

-- of the book: the edges are the pairs y < x of numbers that a triangle joins, the vertices the numbers in a triangle
pub edges_are_pairs : (b : Book) → Consistent b → b.machine.edges ≡ pairs_below b.machine.used (edges_of b.machine.triangles)
edges_are_pairs b k =
    k.edges
    ∙ pairs_below_lem b.machine.used (edges_of b.machine.triangles)
    (λ x y h. (
      k.below x (omega (arith, uses_from x y b.machine.triangles)),
      k.below y (omega (arith, uses_to x y b.machine.triangles)),
      (λ e.
          let z : 1 ≤ uses x x b.machine.triangles = subst (λ (v : ℕ). 1 ≤ uses x v b.machine.triangles) (sym e) h in
          omega (arith, z, k.proper x)),
    ))

pub vertices_are_numbers : (b : Book) → Consistent b → b.machine.used ≡ numbers_below b.machine.used (corners b.machine.triangles)
vertices_are_numbers b k = sym k.vertices ∙ different_below b.machine.used (corners b.machine.triangles) k.below
