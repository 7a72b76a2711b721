-- Lists whose numbers are all below a bound, and parts of a list.
-- Assumes nothing.
use Prim.Native.Nat.{ℕ, zero, suc, ◌+◌, ◌≤◌, ◌<◌}
use native.Mathlib.Omega.{arith}
use mathlib.Core.List.{List, [], ◌∷◌, ◌++◌}
use mathlib.Core.Path.{◌≡◌, ap, ◌∙◌}
use lib.ListN.{length, take, drop, get_or, replicate, length-drop}
use lib.Seq.{take-append-le, drop-append-le}
use Rattle.wire_theory.specs.Shape.{Below}

-- zeros and ones
abbrev pub Bits : List ℕ → Type 0
Bits xs = Below 2 xs

pub below_append : (n : ℕ) (xs ys : List ℕ) → Below n xs → Below n ys → Below n (xs ++ ys)
below_append n [] ys h k = k
below_append n (x ∷ xs) ys h k = (h.0, below_append n xs ys h.1 k)

pub below_front : (n : ℕ) (xs ys : List ℕ) → Below n (xs ++ ys) → Below n xs
below_front n [] ys h = tt
below_front n (x ∷ xs) ys h = (h.0, below_front n xs ys h.1)

pub below_rest : (n : ℕ) (xs ys : List ℕ) → Below n (xs ++ ys) → Below n ys
below_rest n [] ys h = h
below_rest n (x ∷ xs) ys h = below_rest n xs ys h.1

pub below_take : (n k : ℕ) (xs : List ℕ) → Below n xs → Below n (take k xs)
below_take n zero xs h = tt
below_take n (suc k) [] h = tt
below_take n (suc k) (x ∷ xs) h = (h.0, below_take n k xs h.1)

pub below_drop : (n k : ℕ) (xs : List ℕ) → Below n xs → Below n (drop k xs)
below_drop n zero xs h = h
below_drop n (suc k) [] h = tt
below_drop n (suc k) (x ∷ xs) h = below_drop n k xs h.1

pub below_replicate : (n k x : ℕ) → x < n → Below n (replicate k x)
below_replicate n zero x h = tt
below_replicate n (suc k) x h = (h, below_replicate n k x h)

pub below_get_d : (n : ℕ) (xs : List ℕ) (i : ℕ) → 0 < n → Below n xs → get_or xs i 0 < n
below_get_d n [] i p h = p
below_get_d n (x ∷ xs) zero p h = h.0
below_get_d n (x ∷ xs) (suc i) p h = below_get_d n xs i p h.1

-- as a slice's rule says it of each index
pub below_all : (n : ℕ) (xs : List ℕ) → ((i : ℕ) → get_or xs i 0 < n) → Below n xs
below_all n [] h = tt
below_all n (x ∷ xs) h = (h 0, below_all n xs (λ i. h (suc i)))

-- a part that lies in the front
pub part_front : (n r : ℕ) (xs ys : List ℕ) → r + n ≤ length xs → take n (drop r (xs ++ ys)) ≡ take n (drop r xs)
part_front n r xs ys h =
    let d : drop r (xs ++ ys) ≡ drop r xs ++ ys = drop-append-le r xs ys (omega arith) in
    ap (take n) d ∙ take-append-le n (drop r xs) ys (rw (length-drop r xs) (omega arith))
