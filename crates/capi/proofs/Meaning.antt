-- What a caller's numbers cannot mean is refused: a count above 65,535 by 13; a code above 7 and an index above 65,535 by 21 or 16, as
-- an operation that the table does not allow.
-- Assumes nothing.
use Prim.Native.Nat.{ℕ, ◌≤◌}
use native.Mathlib.Omega.{arith}
use mathlib.Core.Bool.{Bool, true, false, ◌&&◌}
use mathlib.Core.List.{List, [], ◌∷◌}
use mathlib.Core.Path.{◌≡◌, refl, sym, ap, ◌∙◌}
use borrow.Author.Tests.{le-leb}
use lib.Dec.{leb}
use Rattle.rules.specs.declared.Counts.{Counts}
use Rattle.rules.specs.declared.Builder.{Builder}
use Rattle.rules.specs.declared.Operation.{Operation}
use Rattle.rules.specs.declared.Operation.TheVariants.{Union}
use Rattle.rules.specs.Limits.{max_triangles, min_places, max_places, max_loops, between, vertex_range, in_range}
use Rattle.rules.specs.Machine.{Machine, refused, operation, done, beginning, test}
use Rattle.rules.specs.Buffer.{Buffers}
use Rattle.rules.specs.Sound.{sound}
use Rattle.rules.specs.Build.{viewed, begins, operates}
use Rattle.rules.specs.Ring.{Ring}
use Rattle.rules.specs.Table.{Effect, not_allowed, effect, at_edge, at_rest, allowed}
use Rattle.capi.specs.Given.{within16, counts_of, none, union_of, operation_of}
use Rattle.capi.proofs.Numbers.{counts, within_large, split_large, union_large, plain_large, code_plain}

none_allowed : (u : ℕ) (ls : List Ring) → effect none u ls ≡ not_allowed
unfolding effect at_edge at_rest allowed
none_allowed u [] = refl
none_allowed u ([] ∷ ws) = refl
none_allowed u ((e ∷ ps) ∷ ws) = refl

none_is_16 : (m : Machine) → operation m none ≡ refused 16
unfolding done
none_is_16 m = ap (λ (x : Effect). done m x) (none_allowed m.used m.loops)

-- what is no operation is refused: 16 in every state that passes 21
pub none_refused : (b : Builder) (r : Buffers) → sound b r ≡ true → operates b r none ≡ refused 16
none_refused b r e = ap (λ (t : Bool). elim t [ true ↦ operation (viewed b r) none | false ↦ refused 21 ]) e ∙ none_is_16 (viewed b r)

-- a code above 7, and a split or a union of an index above 65,535, are no operation
pub code_above_7 : (c p j : ℕ) → 8 ≤ c → operation_of c p j ≡ none
code_above_7 c p j h = sym (plain_large c h ∙ code_plain c p j (λ e. omega (arith, h, e)) (λ e. omega (arith, h, e)))

pub split_above : (p j : ℕ) → 65536 ≤ j → operation_of 4 p j ≡ none
unfolding operation_of
split_above p j h = sym (split_large j h)

pub union_above : (p j : ℕ) → 65536 ≤ p → operation_of 6 p j ≡ none
unfolding operation_of
union_above p j h = sym (union_large p j h)

either : (t : Bool) → elim t as (λ x. Operation) [ true ↦ none | false ↦ none ] ≡ none
either true = refl
either false = refl

pub union_beyond : (p j : ℕ) → 65536 ≤ j → operation_of 6 p j ≡ none
unfolding operation_of union_of
union_beyond p j h =
    ap (λ (t : Bool). elim (leb 65536 p) as (λ x. Operation) [ true ↦ none | false ↦ elim t [ true ↦ none | false ↦ Union p j ] ])
    (le-leb 65536 j h)
    ∙ either (leb 65536 p)

-- a beginning whose counts are out of range is refused with 13
pub out_of_range : (r : Buffers) (s : Counts) → in_range s ≡ false → begins r s ≡ refused 13
unfolding beginning test
out_of_range r s e = rw (beginning, e)

-- and one above 65,535 is out of range
pub vertices_above : (v t p l : ℕ) → 65536 ≤ v → in_range (counts_of v t p l) ≡ false
vertices_above v t p l h = ap (λ (k : ℕ). in_range (counts k (within16 t) (within16 p) (within16 l))) (sym (within_large v h))

second : (a c d : Bool) → (a && false && c && d) ≡ false
second true c d = refl
second false c d = refl

third : (a b d : Bool) → (a && b && false && d) ≡ false
third true true d = refl
third true false d = refl
third false true d = refl
third false false d = refl

fourth : (a b c : Bool) → (a && b && c && false) ≡ false
fourth true true true = refl
fourth true true false = refl
fourth true false true = refl
fourth true false false = refl
fourth false true true = refl
fourth false true false = refl
fourth false false true = refl
fourth false false false = refl

pub triangles_above : (v t p l : ℕ) → 65536 ≤ t → in_range (counts_of v t p l) ≡ false
triangles_above v t p l h =
    ap (λ (k : ℕ). in_range (counts (within16 v) k (within16 p) (within16 l))) (sym (within_large t h))
    ∙ second (vertex_range (within16 v)) (between min_places (within16 p) max_places) (between 1 (within16 l) max_loops)

pub places_above : (v t p l : ℕ) → 65536 ≤ p → in_range (counts_of v t p l) ≡ false
places_above v t p l h =
    ap (λ (k : ℕ). in_range (counts (within16 v) (within16 t) k (within16 l))) (sym (within_large p h))
    ∙ third (vertex_range (within16 v)) (between 1 (within16 t) max_triangles) (between 1 (within16 l) max_loops)

pub loops_above : (v t p l : ℕ) → 65536 ≤ l → in_range (counts_of v t p l) ≡ false
loops_above v t p l h = ap (λ (k : ℕ). in_range (counts (within16 v) (within16 t) (within16 p) k)) (sym (within_large l h))
    ∙ fourth (vertex_range (within16 v)) (between 1 (within16 t) max_triangles) (between min_places (within16 p) max_places)
