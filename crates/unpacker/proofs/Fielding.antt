-- What is found of a pack's fields, for the unpacking: 12 and 13.
-- Assumes nothing.
use Prim.Native.Nat.{ℕ}
use native.Mathlib.Omega.{arith}
use mathlib.Core.Bool.{Bool, true, false}
use mathlib.Core.List.{List}
use mathlib.Core.Path.{◌≡◌, refl, ap, ◌∙◌}
use Rattle.std.specs.Prelude.{Some}
use Rattle.rules.specs.declared.Counts.{Counts}
use Rattle.rules.specs.declared.refusal.Refusal.{Refusal}
use Rattle.rules.specs.declared.refusal.Refusal.TheVariants.{NotFields, CountOutOfRange}
use Rattle.rules.specs.Refusal.{number_of}
use Rattle.rules.specs.Unpacked as U
use Rattle.rules.specs.Limits.{in_range}
use Rattle.rules.specs.Fields.{Fields, no_pack, fields, fields_of}
use Rattle.rules.specs.Unpack.{turned_down, unpack_fields}
use Rattle.border_theory.specs.Records.Lent.{lent}
use Rattle.wire.specs.Fields.{refused_range, refused_by}
use Rattle.unpack_theory.specs.Lent.{UnpackedOn}
use Rattle.unpack_theory.proofs.Lending.{fields_13}
use Rattle.unpack_theory.proofs.Unpacking.{turned_on}

module _ (n : ℕ) (ts : List ℕ) (e : Refusal) where
  by_range : (s : Counts) (ops : List ℕ) (b : Bool) → in_range s ≡ b → refused_range b ≡ Some e
      → unpack_fields (lent n ts) (fields s ops) ≡ turned_down (number_of e) (lent n ts)
  by_range s ops true h p = let z : ◌≡◌ {A = ℕ} 0 1 = cc in absurd (omega arith)
  by_range s ops false h p =
      let q : CountOutOfRange ≡ e = cc in
      fields_13 (lent n ts) s ops h ∙ ap (λ (k : Refusal). turned_down (number_of k) (lent n ts)) q

  by_fields : (f : Fields) → refused_by f ≡ Some e → unpack_fields (lent n ts) f ≡ turned_down (number_of e) (lent n ts)
  unfolding unpack_fields
  by_fields no_pack p =
      let q : NotFields ≡ e = cc in ap (λ (k : Refusal). turned_down (number_of k) (lent n ts)) q
  by_fields (fields s ops) p = by_range s ops (in_range s) refl p

  pub refused_on : (bytes : List ℕ) → refused_by (fields_of bytes) ≡ Some e → UnpackedOn bytes ts n (U.Refused (number_of e)) ts
  refused_on bytes p = turned_on bytes n ts (number_of e) (by_fields (fields_of bytes) p)
