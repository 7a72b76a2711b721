-- One step down a chain.
use Rattle.std.specs.Prelude.{ℕ, ◌+◌, ◌≡◌, Option, Some, None}
use Rattle.corners.specs.declared.Corners.{Corners}
use Rattle.mesh_theory.specs.Chains.Linked.{Older}

abbrev pub Descends : Corners → Option ℕ → Corners → Type 0
Descends s None t = s.entry ≡ 0
Descends s (Some c) t = (c + 1 ≡ s.entry) × Older s.chains.now c t.entry × (t.chains ≡ s.chains)
