-- What the fields of a pack come to, and the header in a buffer, by the definitions of the rules.
-- Assumes nothing.
use Rattle.std.specs.Prelude.{ℕ, Bool, true, false, List, Option, Some, None, leb, length}
use Rattle.rules.specs.declared.Counts.{Counts}
use Rattle.rules.specs.declared.refusal.Refusal.{Refusal}
use Rattle.rules.specs.declared.refusal.Refusal.TheVariants.{NotFields, CountOutOfRange}
use Rattle.rules.specs.Fields.{Fields, no_pack, fields}
use Rattle.rules.specs.Limits.{in_range}
use Rattle.rules.specs.Buffer.{over}
use Rattle.wire_theory.specs.Header.{header_of}

-- which refusal of 12 and 13 the fields of some bytes meet
abbrev pub refused_range : Bool → Option Refusal
refused_range true = None
refused_range false = Some CountOutOfRange

abbrev pub refused_by : Fields → Option Refusal
refused_by no_pack = Some NotFields
refused_by (fields s ops) = refused_range (in_range s)

abbrev pub pick_buffer : Bool → List ℕ → List ℕ → List ℕ
pick_buffer true a b = a
pick_buffer false a b = b

-- the header at the front of a buffer that has room for it
unfoldable pub headed : List ℕ → Counts → ℕ → List ℕ
headed buffer s n = pick_buffer (leb 14 (length buffer)) (over (header_of s n) buffer) buffer
