-- What the cores of packing promise, carried to the lent list of place records. What is given besides the list is g.
-- Assumes nothing.
use Prim.Native.Nat.{ℕ, ◌≤◌}
use mathlib.Core.List.{List}
use mathlib.Core.Path.{◌≡◌, sym, ap, ◌∙◌, subst}
use lib.ListN.{length}
use Rattle.rules.specs.declared.Place.{Place}
use Rattle.rules.specs.Packed.{Packed}
use Rattle.rules.specs.Answer.{packed_answer}
use Rattle.rules.specs.Pack.{PackResult}
use Rattle.rules.specs.Later.{not_given}
use Rattle.rules.specs.PackWhole.{Extras, extras, pack_whole}
use Rattle.border_theory.specs.Records.Changes.{cleared_to}
use Rattle.border_theory.proofs.Records.Reading.{counted}
use Rattle.border_theory.proofs.Records.Clearing.{Clears}
use Rattle.pack_theory.specs.Packing.Lent.{lent, cleared_by, IsResult, PackedOn}
use Rattle.pack_theory.proofs.Packing.Lending.{Alike}
use Rattle.pack_theory.proofs.Packing.Clearing.{cleared_after, cleared_by_lem}
use Rattle.volume_theory.proofs.Beside.{given_neither_packs_the_list}
use Rattle.positions_theory.proofs.PackLending.{lend_pack, pack_whole_clears}
use Rattle.promises.specs.Promises.{packing_buffers, Packs}

module _ (v : ℕ) (xs : List ℕ) (g : Extras) (ns bs os : List ℕ) (ps : List Place) (r : Packed) (ns' bs' os' : List ℕ)
    (p : IsResult (pack_whole v xs g (lent (counted ps) ns bs os)) r ns' bs' os') where
  same : Alike (pack_whole v xs g (packing_buffers ns bs os ps)) (pack_whole v xs g (lent (counted ps) ns bs os))
  same = lend_pack v xs g ns bs os ps

  answers : packed_answer r ≡ (pack_whole v xs g (packing_buffers ns bs os ps)).answer
  answers = p.answer ∙ sym same.answer

  clears : Clears ps (cleared_by r) (pack_whole v xs g (packing_buffers ns bs os ps)).buffers.places
  clears =
      subst (λ (n : ℕ). Clears ps n (pack_whole v xs g (packing_buffers ns bs os ps)).buffers.places)
      (sym (cleared_by_lem r ∙ ap cleared_after answers)) (pack_whole_clears v xs g (packing_buffers ns bs os ps))

  pub packs_fit : cleared_by r ≤ length ps
  packs_fit = clears.fits

  pub packs : (ps' : List Place) → ps' ≡ cleared_to (cleared_by r) ps → Packs v xs g ns bs os ps r ns' bs' os' ps'
  packs ps' e = record {
    answer = answers;
    numbering = p.numbering ∙ sym same.numbering;
    bytes = p.bytes ∙ sym same.bytes;
    order = p.order ∙ sym same.order;
    places = e ∙ sym clears.places;
  }

-- a packing of the list alone
abbrev alone : Extras
alone = extras not_given not_given

module _ (v : ℕ) (xs ns bs os : List ℕ) (ps : List Place) (r : Packed) (ns' bs' os' : List ℕ)
    (p : PackedOn v xs ns bs os (counted ps) r ns' bs' os') where
  whole : IsResult (pack_whole v xs alone (lent (counted ps) ns bs os)) r ns' bs' os'
  whole = subst (λ (q : PackResult). IsResult q r ns' bs' os') (sym (given_neither_packs_the_list v xs (lent (counted ps) ns bs os))) p

  pub packs_alone_fit : cleared_by r ≤ length ps
  packs_alone_fit = packs_fit v xs alone ns bs os ps r ns' bs' os' whole

  pub packs_alone : (ps' : List Place) → ps' ≡ cleared_to (cleared_by r) ps → Packs v xs alone ns bs os ps r ns' bs' os' ps'
  packs_alone = packs v xs alone ns bs os ps r ns' bs' os' whole
