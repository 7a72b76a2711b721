-- The fields of the records as lists, and what a stored edge does to them.
-- Assumes nothing.
use Prim.Native.Nat.{ℕ, zero, suc, ◌+◌, ◌*◌, ◌≤◌, ◌<◌}
use native.Mathlib.Omega.{arith}
use mathlib.Core.Bool.{Bool, true, false}
use mathlib.Core.List.{List, [], ◌∷◌}
use mathlib.Core.Path.{◌≡◌, refl, sym, ap, ◌∙◌}
use lib.ListN.{length, get_or, set, length-set}
use lib.Seq.{get_or-set_same, get_or-set_other, ext_get_or}
use lib.Dec.{eqb}
use borrow.Author.Tests.{eqb-true, eqb-false}
use Rattle.rules.specs.Count.{num}
use Rattle.border_theory.specs.Links.Held.{Memory, Arc}
use Rattle.border_theory.proofs.Links.Relink.{Long, stored}
use Rattle.border_theory.specs.Memory.Layout.{at, column, vertices_of, links_of, edge_stored, edges_stored}

pub column_length : (m : List ℕ) (k n : ℕ) → length (column m k n) ≡ n
unfolding column
column_length m k zero = refl
column_length m k (suc n) = ap suc (column_length m (4 + k) n)

pub column_at : (m : List ℕ) (k n j : ℕ) → j < n → get_or (column m k n) j 0 ≡ at m (4 * j + k)
unfolding column
column_at m k zero j h = absurd (omega arith)
column_at m k (suc n) zero h = let e : k ≡ 4 * 0 + k = omega arith in ap (at m) e
column_at m k (suc n) (suc j) h =
    let e : 4 * j + (4 + k) ≡ 4 * suc j + k = omega arith in
    column_at m (4 + k) n j (omega arith) ∙ ap (at m) e

-- a memory with the same numbers there
pub column_same : (m m' : List ℕ) (k n : ℕ) → ((j : ℕ) → j < n → at m' (4 * j + k) ≡ at m (4 * j + k)) → column m' k n ≡ column m k n
column_same m m' k n h =
    ext_get_or 0 (column m' k n) (column m k n) (column_length m' k n ∙ sym (column_length m k n))
    (λ j l.
    let i : j < n = omega (arith, l, column_length m' k n) in
    column_at m' k n j i ∙ h j i ∙ sym (column_at m k n j i))

-- a memory with another number at one place
pub column_set : (m m' : List ℕ) (k n i v : ℕ) → i < n → at m' (4 * i + k) ≡ v
    → ((j : ℕ) → j < n → (j ≡ i → ⊥) → at m' (4 * j + k) ≡ at m (4 * j + k)) → column m' k n ≡ set (column m k n) i v
column_set m m' k n i v b e h =
    ext_get_or 0 (column m' k n) (set (column m k n) i v) (column_length m' k n ∙ sym (length-set (column m k n) i v ∙ column_length m k n))
    (λ j l. go j (omega (arith, l, column_length m' k n)) (eqb j i) refl)
  where
    go : (j : ℕ) → j < n → (t : Bool) → eqb j i ≡ t → get_or (column m' k n) j 0 ≡ get_or (set (column m k n) i v) j 0
    go j l true q =
        let z : j ≡ i = eqb-true j i q in
        rw z (column_at m' k n i b ∙ e ∙ sym (get_or-set_same (column m k n) i v 0 (omega (arith, column_length m k n))))
    go j l false q =
        let z : j ≡ i → ⊥ = eqb-false j i q in
        column_at m' k n j l ∙ h j l z ∙ sym (get_or-set_other (column m k n) i j v 0 z ∙ column_at m k n j l)

-- one edge stored
module _ (n : ℕ) (m : List ℕ) (x y o : ℕ) (long : 4 * n ≤ length m) (bx : x < n) (by : y < n) where
  pub stored_length : length (edge_stored m x y o) ≡ length m
  unfolding edge_stored
  stored_length = simp length-set

  stored_other : (i : ℕ) → (i ≡ 4 * x + 2 → ⊥) → (i ≡ 4 * y + 1 → ⊥) → (i ≡ 4 * x + 3 → ⊥) → at (edge_stored m x y o) i ≡ at m i
  unfolding edge_stored
  stored_other i a b c =
      get_or-set_other (set (set m (4 * x + 2) y) (4 * y + 1) x) (4 * x + 3) i o 0 c
      ∙ get_or-set_other (set m (4 * x + 2) y) (4 * y + 1) i x 0 b
      ∙ get_or-set_other m (4 * x + 2) i y 0 a

  pub stored_above : (i : ℕ) → 4 * n ≤ i → at (edge_stored m x y o) i ≡ at m i
  stored_above i h = stored_other i (λ e. omega (arith, e)) (λ e. omega (arith, e)) (λ e. omega (arith, e))

  stored_after : at (edge_stored m x y o) (4 * x + 2) ≡ y
  unfolding edge_stored
  stored_after =
      get_or-set_other (set (set m (4 * x + 2) y) (4 * y + 1) x) (4 * x + 3) (4 * x + 2) o 0 (λ e. omega (arith, e))
      ∙ get_or-set_other (set m (4 * x + 2) y) (4 * y + 1) (4 * x + 2) x 0 (λ e. omega (arith, e))
      ∙ get_or-set_same m (4 * x + 2) y 0 (omega arith)

  stored_before : at (edge_stored m x y o) (4 * y + 1) ≡ x
  unfolding edge_stored
  stored_before =
      get_or-set_other (set (set m (4 * x + 2) y) (4 * y + 1) x) (4 * x + 3) (4 * y + 1) o 0 (λ e. omega (arith, e))
      ∙ get_or-set_same (set m (4 * x + 2) y) (4 * y + 1) x 0 (simp length-set (omega arith))

  stored_open : at (edge_stored m x y o) (4 * x + 3) ≡ o
  unfolding edge_stored
  stored_open = get_or-set_same (set (set m (4 * x + 2) y) (4 * y + 1) x) (4 * x + 3) o 0 (simp length-set (omega arith))

  pub stored_afters : column (edge_stored m x y o) 2 n ≡ set (column m 2 n) x y
  stored_afters =
      column_set m (edge_stored m x y o) 2 n x y bx stored_after
      (λ j l d. stored_other (4 * j + 2) (λ e. d (omega (arith, e))) (λ e. omega (arith, e)) (λ e. omega (arith, e)))

  pub stored_befores : column (edge_stored m x y o) 1 n ≡ set (column m 1 n) y x
  stored_befores =
      column_set m (edge_stored m x y o) 1 n y x by stored_before
      (λ j l d. stored_other (4 * j + 1) (λ e. omega (arith, e)) (λ e. d (omega (arith, e))) (λ e. omega (arith, e)))

  pub stored_opens : column (edge_stored m x y o) 3 n ≡ set (column m 3 n) x o
  stored_opens =
      column_set m (edge_stored m x y o) 3 n x o bx stored_open
      (λ j l d. stored_other (4 * j + 3) (λ e. omega (arith, e)) (λ e. omega (arith, e)) (λ e. d (omega (arith, e))))

  pub stored_vertices : vertices_of n (edge_stored m x y o) ≡ vertices_of n m
  stored_vertices =
      column_same m (edge_stored m x y o) 0 n
      (λ j l. stored_other (4 * j + 0) (λ e. omega (arith, e)) (λ e. omega (arith, e)) (λ e. omega (arith, e)))

-- edges at places below n
abbrev pub Near : ℕ → List Arc → Type 0
Near n [] = Unit {0}
Near n (d ∷ ds) = (d.from < n) × (d.to < n) × Near n ds

-- edges stored: the links are those of the links' own stores, the vertices stay, and so does all from 4n on
pub record EdgesStored (n : ℕ) (m : List ℕ) (ds : List Arc) : Type 0 where
  pub lengths : length (edges_stored ds m) ≡ length m
  pub links : links_of n (edges_stored ds m) ≡ stored ds (links_of n m)
  pub vertices : vertices_of n (edges_stored ds m) ≡ vertices_of n m
  pub above : (i : ℕ) → 4 * n ≤ i → at (edges_stored ds m) i ≡ at m i

memory_of_lem : {a b c a' b' c' : List ℕ} → a ≡ a' → b ≡ b' → c ≡ c'
    → ◌≡◌ {A = Memory} (record { afters = a; befores = b; opens = c }) (record { afters = a'; befores = b'; opens = c' })
memory_of_lem p q r = rw (p, q, r)

pub edges_stored_lem : (n : ℕ) (m : List ℕ) (ds : List Arc) → 4 * n ≤ length m → Near n ds → EdgesStored n m ds
unfolding edges_stored stored
edges_stored_lem n m [] l h = record { lengths = refl; links = refl; vertices = refl; above = λ i k. refl }
edges_stored_lem n m (d ∷ ds) l h =
    let r = edges_stored_lem n m ds l h.2 in
    let m₁ : List ℕ = edges_stored ds m in
    let l₁ : 4 * n ≤ length m₁ = omega (arith, r.lengths) in
    let x : ℕ = d.from in
    let y : ℕ = d.to in
    let o : ℕ = num d.live in
    record {
      lengths = stored_length n m₁ x y o l₁ h.0 h.1 ∙ r.lengths;
      links =
          memory_of_lem (stored_afters n m₁ x y o l₁ h.0 h.1 ∙ ap (λ (k : Memory). set k.afters x y) r.links)
          (stored_befores n m₁ x y o l₁ h.0 h.1 ∙ ap (λ (k : Memory). set k.befores y x) r.links)
          (stored_opens n m₁ x y o l₁ h.0 h.1 ∙ ap (λ (k : Memory). set k.opens x o) r.links);
      vertices = stored_vertices n m₁ x y o l₁ h.0 h.1 ∙ r.vertices;
      above = λ i k. stored_above n m₁ x y o l₁ h.0 h.1 i k ∙ r.above i k;
    }

-- the links of n places have n records
pub links_long : (n : ℕ) (m : List ℕ) → Long n (links_of n m)
links_long n m = record { afters = column_length m 2 n; befores = column_length m 1 n; opens = column_length m 3 n }

-- a vertex stored
module _ (n : ℕ) (m : List ℕ) (x v : ℕ) (long : 4 * n ≤ length m) (bx : x < n) where
  pub named_vertices : vertices_of n (set m (4 * x) v) ≡ set (vertices_of n m) x v
  named_vertices =
      column_set m (set m (4 * x) v) 0 n x v bx
      (let e : 4 * x + 0 ≡ 4 * x = omega arith in ap (at (set m (4 * x) v)) e ∙ get_or-set_same m (4 * x) v 0 (omega arith))
      (λ j l d. get_or-set_other m (4 * x) (4 * j + 0) v 0 (λ e. d (omega (arith, e))))

  pub named_links : links_of n (set m (4 * x) v) ≡ links_of n m
  named_links =
      memory_of_lem (column_same m (set m (4 * x) v) 2 n (λ j l. get_or-set_other m (4 * x) (4 * j + 2) v 0 (λ e. omega (arith, e))))
      (column_same m (set m (4 * x) v) 1 n (λ j l. get_or-set_other m (4 * x) (4 * j + 1) v 0 (λ e. omega (arith, e))))
      (column_same m (set m (4 * x) v) 3 n (λ j l. get_or-set_other m (4 * x) (4 * j + 3) v 0 (λ e. omega (arith, e))))

  pub named_above : (i : ℕ) → 4 * n ≤ i → at (set m (4 * x) v) i ≡ at m i
  named_above i h = get_or-set_other m (4 * x) i v 0 (λ e. omega (arith, e))

-- memories with the same records
module _ (n : ℕ) (m m' : List ℕ) (h : (i : ℕ) → i < 4 * n → at m' i ≡ at m i) where
  pub same_vertices : vertices_of n m' ≡ vertices_of n m
  same_vertices = column_same m m' 0 n (λ j l. h (4 * j + 0) (omega arith))

  pub same_links : links_of n m' ≡ links_of n m
  same_links =
      memory_of_lem (column_same m m' 2 n (λ j l. h (4 * j + 2) (omega arith))) (column_same m m' 1 n (λ j l. h (4 * j + 1) (omega arith)))
      (column_same m m' 3 n (λ j l. h (4 * j + 3) (omega arith)))
