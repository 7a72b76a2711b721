-- One fan at each vertex, from the test of 7 and back, in a list with no directed edge twice; whatever the order of the triangles.
-- Assumes nothing.
use Prim.Native.Nat.{ℕ, ◌<◌}
use native.Mathlib.Omega.{arith}
use mathlib.Core.Bool.{Bool, true, false}
use mathlib.Core.List.{List, [], ◌∷◌}
use mathlib.Core.Path.{◌≡◌, refl}
use mathlib.Core.Logic.{inl, inr}
use lib.Dec.{ltb}
use borrow.Author.Tests.{ltb-true, ltb-false}
use Rattle.rules.specs.declared.Triangle.{Triangle}
use Rattle.rules.specs.Fan.{one_fan_each}
use Rattle.mesh_theory.specs.Fans.Corner.{Once}
use Rattle.rules.specs.Fan.{Linked, Round, Neighbours}
use Rattle.rules.specs.Triangle.{In}
use Rattle.mesh_theory.proofs.Fans.Once.{once_tests}
use Rattle.mesh_theory.proofs.Fans.OneFan.{one_fan_each_lem}
use Rattle.mesh_theory.proofs.Fans.Neighbours.{one_fan_neighbours}

-- each vertex has one fan; one that is not below n has none
pub fans_of : (n : ℕ) (M : List Triangle) → Once M → one_fan_each n M ≡ true → ((x y z : ℕ) → In x y z M → x < n) → (c : ℕ) → Neighbours M c
fans_of n M o h below c = go (ltb c n) refl
  where
    go : (t : Bool) → ltb c n ≡ t → Neighbours M c
    go true e =
        let d = (once_tests M).0 o in
        (one_fan_neighbours M d.0 d.1 c).0 ((one_fan_each_lem M d.0 d.1 n).0 h c (ltb-true c n e))
    go false e =
        let l = ltb-false c n e in
        record { fan = []; run = tt; round = tt; whole = λ x z i. absurd (let k = below c x z i in omega arith) }

pub fans_test : (n : ℕ) (M : List Triangle) → Once M → ((c : ℕ) → Neighbours M c) → one_fan_each n M ≡ true
fans_test n M o fan =
    let d = (once_tests M).0 o in (one_fan_each_lem M d.0 d.1 n).1 (λ c l. (one_fan_neighbours M d.0 d.1 c).1 (fan c))

-- one fan does not depend on the order of the triangles
linked_same : (c : ℕ) (M N : List Triangle) → ((x y z : ℕ) → In x y z M → In x y z N) → (ns : List ℕ) → Linked c M ns → Linked c N ns
linked_same c M N h [] r = tt
linked_same c M N h (m ∷ []) r = tt
linked_same c M N h (m ∷ (n ∷ ns)) r = (h c m n r.0, linked_same c M N h (n ∷ ns) r.1)

round_same : (c : ℕ) (M N : List Triangle) → ((x y z : ℕ) → In x y z N → In x y z M) → (ns : List ℕ) → Round c M ns → Round c N ns
round_same c M N h [] r = tt
round_same c M N h (m ∷ ns) (inl e) = inl e
round_same c M N h (m ∷ ns) (inr e) = inr (λ z i. e.0 z (h _ _ z i), λ z i. e.1 z (h _ _ z i))

pub fan_same : (M N : List Triangle) (c : ℕ) → ((x y z : ℕ) → In x y z M → In x y z N) → ((x y z : ℕ) → In x y z N → In x y z M)
    → Neighbours M c → Neighbours N c
fan_same M N c to from f = record {
  fan = f.fan;
  run = linked_same c M N to f.fan f.run;
  round = round_same c M N from f.fan f.round;
  whole = λ x z i. f.whole x z (from c x z i);
}
