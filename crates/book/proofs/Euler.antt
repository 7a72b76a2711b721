-- The finish's Euler number, which may fall below zero: with live loops and rims it is twice the starts less twice the unions.
-- Assumes nothing.
use Prim.Native.Nat.{ℕ, ◌+◌, ◌*◌}
use native.Mathlib.Omega.{arith}
use mathlib.Core.Path.{◌≡◌, sym, ap, ◌∙◌}
use lib.ListN.{length}
use lib.IntN.{ℤ, pos, neg_ℤ, ◌+ℤ◌, ◌-ℤ◌, +ℤ_assoc, +ℤ_comm, +ℤ-neg_ℤ_cancel, pos-+ℤ-pos}
use Rattle.rules.specs.Machine.{totals}
use Rattle.rules.specs.Book.{Book}
use Rattle.book.specs.Consistent.{Consistent}

minus_plus : (a b c : ℕ) → pos a -ℤ pos b +ℤ pos c ≡ pos (a + c) -ℤ pos b
minus_plus a b c =
    +ℤ_assoc (pos a) (neg_ℤ (pos b)) (pos c) ∙ ap (λ (x : ℤ). pos a +ℤ x) (+ℤ_comm (neg_ℤ (pos b)) (pos c))
    ∙ sym (+ℤ_assoc (pos a) (pos c) (neg_ℤ (pos b))) ∙ ap (λ (x : ℤ). x -ℤ pos b) (pos-+ℤ-pos a c)

-- equal sums give equal differences
differences : (a b c d : ℕ) → a + d ≡ c + b → pos a -ℤ pos b ≡ pos c -ℤ pos d
differences a b c d h =
    sym (+ℤ-neg_ℤ_cancel (pos a -ℤ pos b) (pos d))
    ∙ ap (λ (x : ℤ). x -ℤ pos d)
    (minus_plus a b d ∙ ap (λ (n : ℕ). pos n -ℤ pos b) h ∙ ap (λ (x : ℤ). x -ℤ pos b) (sym (pos-+ℤ-pos c b))
    ∙ +ℤ-neg_ℤ_cancel (pos c) (pos b))

pub euler_signed : (b : Book) → Consistent b
    → (totals b.machine).euler +ℤ pos (length b.machine.loops) +ℤ pos b.machine.rims
    ≡ pos (2 * b.machine.starts) -ℤ pos (2 * b.machine.unions)
euler_signed b k =
    let v = b.machine.used in
    let e = b.machine.edges in
    let t = length b.machine.triangles in
    let l = length b.machine.loops in
    ap (λ (x : ℤ). x +ℤ pos l +ℤ pos b.machine.rims) (minus_plus v e t)
    ∙ ap (λ (x : ℤ). x +ℤ pos b.machine.rims) (minus_plus (v + t) e l)
    ∙ minus_plus (v + t + l) e b.machine.rims
    ∙ differences (v + t + l + b.machine.rims) e (2 * b.machine.starts) (2 * b.machine.unions) (k.euler ∙ omega arith)
