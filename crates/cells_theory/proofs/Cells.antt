-- One law for each function on the bytes: what it reads or writes, of the numbers that the bytes stand for.
-- Assumes nothing.
use Prim.Native.Nat.{ℕ, ◌+◌, ◌*◌, ◌/◌, ◌%◌, ◌≤◌, ◌<◌}
use native.Mathlib.Omega.{arith}
use mathlib.Core.List.{List}
use mathlib.Core.Path.{◌≡◌, sym, ap, ap₂, ◌∙◌}
use lib.ListN.{set, length-set}
use Rattle.rules.specs.Limits.{furnace_places}
use Rattle.border_theory.specs.Memory.Layout.{at, vertex_of, before_of, after_of, open_of, edge_stored, freed, waits}
use Rattle.cells_theory.specs.Bytes.{numbers, Whole}
use Rattle.cells_theory.proofs.Bytes.{vertex_is, before_is, after_is, open_is_lem, past_is, vertex_set, before_set, after_set}
use Rattle.cells_theory.proofs.Bytes.{open_set, past_set}

-- two halves of a byte
halves : (q r : ℕ) → r < 2 → ((2 * q + r) / 2 ≡ q) × ((2 * q + r) % 2 ≡ r)
halves q r h = (omega (arith, h), omega (arith, h))

odd_small : (x : ℕ) → x % 2 < 2
odd_small x = omega arith

module _ (bs : List ℕ) (w : Whole bs) where
  -- ---- reading
  pub vertex_told : (p x y : ℕ) → p < furnace_places → (x ≡ at bs (4 * p)) × (x < 256) → (y ≡ at bs (4 * p + 3)) × (y < 256)
      → (x + 256 * (y / 2) ≡ vertex_of (numbers bs) p) × (x + 256 * (y / 2) < 32768)
  vertex_told p x y l ex ey = (
    ap₂ (λ (a b : ℕ). a + 256 * (b / 2)) ex.0 ey.0 ∙ sym (vertex_is bs w p l),
    omega (arith, ex.1, ey.1),
  )

  pub before_told : (p x : ℕ) → p < furnace_places → x ≡ at bs (4 * p + 1) → x ≡ before_of (numbers bs) p
  before_told p x l e = e ∙ sym (before_is bs w p l)

  pub after_told : (p x : ℕ) → p < furnace_places → x ≡ at bs (4 * p + 2) → x ≡ after_of (numbers bs) p
  after_told p x l e = e ∙ sym (after_is bs w p l)

  pub open_told : (p x : ℕ) → p < furnace_places → x ≡ at bs (4 * p + 3) → (x % 2 ≡ open_of (numbers bs) p) × (x % 2 ≤ 1)
  open_told p x l e = (ap (λ (a : ℕ). a % 2) e ∙ sym (open_is_lem bs w p l), omega (arith, odd_small x))

  pub past_told : (i x : ℕ) → 4 * furnace_places ≤ i → x ≡ at bs i → x ≡ at (numbers bs) i
  past_told i x l e = e ∙ sym (past_is bs w i l)

  -- ---- writing
  pub vertex_stored : (p v x : ℕ) → p < furnace_places → x ≡ at bs (4 * p + 3)
      → numbers (set (set bs (4 * p) (v % 256)) (4 * p + 3) (2 * (v / 256) + x % 2)) ≡ set (numbers bs) (4 * p) v
  vertex_stored p v x l e =
      let h = halves (v / 256) (x % 2) (odd_small x) in
      vertex_set bs w p v (v % 256) (2 * (v / 256) + x % 2) l (ap (λ (q : ℕ). v % 256 + 256 * q) h.0 ∙ omega arith)
      (h.1 ∙ ap (λ (a : ℕ). a % 2) e)

  pub free_stored : (k p : ℕ) → numbers (set bs (800 + k) p) ≡ freed furnace_places (numbers bs) k p
  free_stored k p = past_set bs w (800 + k) p (omega arith)

-- a byte written leaves the memory whole
whole_set : (bs : List ℕ) (i x : ℕ) → Whole bs → Whole (set bs i x)
whole_set bs i x w = length-set bs i x ∙ w

pub edge_stored_lem : (bs : List ℕ) → Whole bs → (x y o z : ℕ) → x < furnace_places → y < furnace_places → o ≤ 1
    → z ≡ at (set (set bs (4 * x + 2) y) (4 * y + 1) x) (4 * x + 3)
    → numbers (set (set (set bs (4 * x + 2) y) (4 * y + 1) x) (4 * x + 3) (2 * (z / 2) + o)) ≡ edge_stored (numbers bs) x y o
unfolding edge_stored
edge_stored_lem bs w x y o z hx hy ho e =
    let bs₁ = set bs (4 * x + 2) y in
    let w₁ = whole_set bs (4 * x + 2) y w in
    let bs₂ = set bs₁ (4 * y + 1) x in
    let w₂ = whole_set bs₁ (4 * y + 1) x w₁ in
    let h = halves (z / 2) o (omega (arith, ho)) in
    open_set bs₂ w₂ x (2 * (z / 2) + o) o hx h.1 (h.0 ∙ ap (λ (a : ℕ). a / 2) e)
    ∙ ap (λ (m : List ℕ). set m (4 * x + 3) o)
    (before_set bs₁ w₁ y x hy ∙ ap (λ (m : List ℕ). set m (4 * y + 1) x) (after_set bs w x y hx))

pub wait_stored : (bs : List ℕ) → Whole bs → (l p k : ℕ)
    → numbers (set (set bs (1000 + 2 * l) p) (1000 + 2 * l + 1) k) ≡ waits furnace_places (numbers bs) l p k
wait_stored bs w l p k =
    let w₁ = whole_set bs (1000 + 2 * l) p w in
    past_set (set bs (1000 + 2 * l) p) w₁ (1000 + 2 * l + 1) k (omega arith)
    ∙ ap (λ (m : List ℕ). set m (1000 + 2 * l + 1) k) (past_set bs w (1000 + 2 * l) p (omega arith))
