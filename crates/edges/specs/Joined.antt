-- Whether triangles of a buffer join two vertices: each definition mirrors the function that computes it.
-- Assumes nothing.
use Rattle.std.specs.Prelude.{ℕ, zero, suc, ◌+◌, ◌*◌, Bool, true, false, ◌&&◌, ◌||◌, List, get_or, eqb}

-- x→y is the edge a→b
unfoldable pub is_edge : ℕ → ℕ → ℕ → ℕ → Bool
is_edge a b x y = eqb x a && eqb y b

-- x and y are a and b, either way round
unfoldable pub is_pair : ℕ → ℕ → ℕ → ℕ → Bool
is_pair a b x y = is_edge a b x y || is_edge a b y x

-- triangle j joins x and y
unfoldable pub joins_at : List ℕ → ℕ → ℕ → ℕ → Bool
joins_at xs j x y =
    let p = get_or xs (3 * j) 0 in
    let q = get_or xs (3 * j + 1) 0 in
    let r = get_or xs (3 * j + 2) 0 in
    is_pair r p x y || (is_pair q r x y || is_pair p q x y)

-- none of the first n triangles does
unfoldable pub none_joins : List ℕ → ℕ → ℕ → ℕ → Bool
none_joins xs zero x y = true
none_joins xs (suc n) x y = elim (joins_at xs n x y) [ true ↦ false | false ↦ none_joins xs n x y ]
