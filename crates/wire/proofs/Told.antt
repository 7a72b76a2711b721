-- What the fields of a pack are that are refused: none, with 12, or some whose counts are out of range, with 13.
-- Assumes nothing.
use Prim.Native.Nat.{ℕ}
use native.Mathlib.Omega.{arith}
use mathlib.Core.Bool.{Bool, true, false}
use mathlib.Core.List.{List}
use mathlib.Core.Path.{◌≡◌, refl, subst}
use Rattle.std.specs.Prelude.{Some}
use Rattle.rules.specs.declared.Counts.{Counts}
use Rattle.rules.specs.declared.refusal.Refusal.{Refusal}
use Rattle.rules.specs.declared.refusal.Refusal.TheVariants.{NotFields, CountOutOfRange}
use Rattle.rules.specs.Fields.{Fields, no_pack, fields}
use Rattle.rules.specs.Limits.{in_range}
use Rattle.rules.specs.Refusal.{number_of}
use Rattle.wire.specs.Fields.{refused_range, refused_by}
