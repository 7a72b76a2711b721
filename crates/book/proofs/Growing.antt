-- What an operation does to the triangles and to the counts stated.
-- Assumes nothing.
use mathlib.Core.List.{◌∷◌}
use mathlib.Core.Path.{◌≡◌, refl, subst}
use Rattle.rules.specs.declared.Operation.{Operation}
use Rattle.rules.specs.Table.{Effect, not_allowed, builds, marks, effect, edge_rule}
use Rattle.rules.specs.Machine.{Machine, Step, refused, begun, built, declared, finished, done, operation}
use Rattle.book.proofs.Kept.{test_law}

-- a built triangle is the machine's latest
abbrev pub Grows : Machine → Step → Type 0
Grows M (refused k) = Unit {0}
Grows M (begun m) = Unit {0}
Grows M (built t m) = (m.triangles ≡ t ∷ M.triangles) × (m.stated ≡ M.stated)
Grows M (declared d m) = (m.triangles ≡ M.triangles) × (m.stated ≡ M.stated)
Grows M (finished x) = Unit {0}

grows_by : (M : Machine) (e : Effect) → Grows M (done M e)
unfolding done
grows_by M not_allowed = tt
grows_by M (builds x) =
    test_law (Grows M) _ _ _ tt
    (λ i. test_law (Grows M) (edge_rule x.triangle x.sides.pq x.sides.qr x.sides.rp M.triangles) _ _ tt
    (λ j. (refl, refl)))
grows_by M (marks x) = test_law (Grows M) _ _ _ tt (λ i. (refl, refl))

pub grows : (M : Machine) (o : Operation) (s : Step) → operation M o ≡ s → Grows M s
grows M o s e = subst (Grows M) e (grows_by M (effect o M.used M.loops))
