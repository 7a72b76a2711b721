use mathlib.Core.Path.{sym, ap, ◌∙◌}
use Rattle.rules.specs.Grid.{signed_of}
use Rattle.wire_theory.proofs.Positions.{position_at}
use Rattle.volume_theory.proofs.Fitting.{answered, signed_holds}
use Rattle.determinants.proofs.position.Goals as goal

pub returns : goal.returns
returns c =
    let h = signed_holds _ _ _ c.word_at.type_inv (record { sfits = c.cast_signed.type_inv }) (record { sfits = c.from.type_inv })
    c.cast_signed.ensures c.from.ensures in
    answered
    (record {
      fits = h.fits;
      is = h.is ∙ ap signed_of c.word_at.ensures ∙ sym (position_at c.args.field.now c.args.i c.requires);
      small = h.small;
    })
