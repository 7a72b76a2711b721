-- The beginning: a memory whose places are all free keeps the empty machine.
-- Assumes nothing.
use Prim.Native.Nat.{ℕ, ◌*◌, ◌≤◌}
use native.Mathlib.Omega.{arith}
use mathlib.Core.Bool.{true}
use mathlib.Core.List.{List, []}
use mathlib.Core.Path.{◌≡◌, refl}
use lib.ListN.{length}
use Rattle.rules.specs.declared.Counts.{Counts}
use Rattle.rules.specs.Limits.{max_vertices, max_places, in_range}
use Rattle.rules.specs.Machine.{empty}
use Rattle.rules.specs.Unpack.{numbers_of}
use Rattle.book.proofs.Kept.{empty_consistent}
use Rattle.book.proofs.Bounds.{empty_bounded}
use Rattle.mesh_theory.specs.Chains.Linked.{Chains}
use Rattle.border_theory.specs.Memory.Fresh.{all_free, fresh_front}
use Rattle.border_theory.proofs.Memory.Fresh.{fresh_keeps}
use Rattle.choice_theory.proofs.OneFan.Steps.{fanned_empty}
use Rattle.unpack_theory.specs.Met.{is_met_in}
use Rattle.unpack_theory.specs.Runs.{Runs}
use Rattle.counting.proofs.Ranges.{in_range_lem}

pub starts_empty : (c : Counts) → in_range c ≡ true → (m : List ℕ) → length m ≡ 5320 → (ts : List ℕ) → 3 * c.triangles ≤ length ts
    → (cs : List ℕ)
    → Chains ts 0 cs → (ks : List ℕ) → length ks ≡ max_vertices
    → Runs (empty c) (fresh_front max_places c) ts (all_free max_places m max_places) cs ks
unfolding numbers_of
starts_empty c h m l ts r cs e ks n =
    let i = in_range_lem c h in
    record {
      borders = [];
      consistent = empty_consistent c;
      bounded = empty_bounded c h;
      keeps = fresh_keeps max_places c m (record { few = omega arith; enough = i.places; long = omega (arith, i.loops) });
      numbers = refl;
      chains = e;
      room = r;
      noted = n;
      fanned = fanned_empty c (is_met_in ks);
    }
