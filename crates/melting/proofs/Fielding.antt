-- What is found of a pack's fields, for the reader: 12 and 13; and its note and its parts.
-- Assumes nothing.
use Prim.Native.Nat.{ℕ}
use native.Mathlib.Omega.{arith}
use mathlib.Core.Bool.{Bool, true, false}
use mathlib.Core.List.{List}
use mathlib.Core.Path.{◌≡◌, refl, sym, ap, ◌∙◌}
use Rattle.std.specs.Prelude.{Some}
use Rattle.rules.specs.declared.Counts.{Counts}
use Rattle.rules.specs.declared.refusal.Refusal.{Refusal}
use Rattle.rules.specs.declared.refusal.Refusal.TheVariants.{NotFields, CountOutOfRange}
use Rattle.rules.specs.Refusal.{number_of}
use Rattle.rules.specs.Melted.{Melted}
use Rattle.rules.specs.Melted as A
use Rattle.rules.specs.Limits.{in_range}
use Rattle.rules.specs.Fields.{Fields, no_pack, fields, fields_of}
use Rattle.rules.specs.Later.{Given, no_parts, parts, parts_of}
use Rattle.rules.specs.Note.{NoteTaken, take_note}
use Rattle.rules.specs.Furnace.{peaks_fit, run_freely_of, melt_run, melt_fields, melt_parts, melt}
use Rattle.wire.specs.Fields.{refused_range, refused_by}

module _ (ps ns : Given (List ℕ)) (e : Refusal) where
  by_range : (s : Counts) (ops : List ℕ) (b : Bool) → in_range s ≡ b → refused_range b ≡ Some e
      → A.Refused (number_of e) ≡ melt_fields ps ns (fields s ops)
  unfolding melt_fields
  by_range s ops true h p = let z : ◌≡◌ {A = ℕ} 0 1 = cc in absurd (omega arith)
  by_range s ops false h p =
      let q : CountOutOfRange ≡ e = cc in
      ap (λ (k : Refusal). A.Refused (number_of k)) (sym q)
      ∙ sym (ap (λ (t : Bool). elim t as (λ _. Melted) [
        | true ↦ elim (peaks_fit s) [ true ↦ melt_run ps ns (run_freely_of s ops) | false ↦ A.Refused 26 ]
        | false ↦ A.Refused 13
      ]) h)

  pub refused_fields : (f : Fields) → refused_by f ≡ Some e → A.Refused (number_of e) ≡ melt_fields ps ns f
  unfolding melt_fields
  refused_fields no_pack p = let q : NotFields ≡ e = cc in ap (λ (k : Refusal). A.Refused (number_of k)) (sym q)
  refused_fields (fields s ops) p = by_range s ops (in_range s) refl p

-- the note and the parts
module _ (pack front : List ℕ) (ns : Given (List ℕ)) (e : record { before = front; note = ns } ≡ take_note pack) where
  by_note : melt_parts ns (parts_of front) ≡ melt pack
  by_note = ap (λ (d : NoteTaken). melt_parts d.note (parts_of d.before)) e

  pub melt_none : parts_of front ≡ no_parts → A.Refused 12 ≡ melt pack
  unfolding melt_parts
  melt_none f = sym (ap (melt_parts ns) f) ∙ by_note

  pub melt_some : (two : List ℕ) (ps : Given (List ℕ)) → parts_of front ≡ parts two ps → (r : Melted)
      → r ≡ melt_fields ps ns (fields_of two) → r ≡ melt pack
  unfolding melt_parts
  melt_some two ps f r h = h ∙ sym (ap (melt_parts ns) f) ∙ by_note
