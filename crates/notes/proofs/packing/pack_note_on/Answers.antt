use mathlib.Core.Path.{sym, ◌∙◌}
use lib.ListN.{take}
use borrow.Author.Tests.{not-false}
use Rattle.rules.specs.Packed.{packed_of}
use Rattle.rules.specs.Later.{not_given}
use Rattle.notes_theory.proofs.Following.{given_neither_on, may_follow, follows}
use Rattle.std.proofs.lemmas.Bool.{not_from_true}
use Rattle.notes.proofs.packing.pack_note_on.Goals as goal

pub follow-requires : goal.follow-requires
follow-requires c = may_follow c.args.v c.args.list.now not_given c.args.note.now c.args.n c.args.numbering.now c.args.buffer.now
    c.args.order.now
    (sym c.is_note.ensures ∙ not-false _ (not_from_true _ c.if-not-is_note.false)) c.room_before-end.result c.room_before-end.ensures
    _ _ _
    c.pack_on-r.auto.buffer (packed_of c.pack_on-r.result)
    (given_neither_on c.args.v c.args.list.now c.args.numbering.now (take c.room_before-end.result c.args.buffer.now) c.args.order.now
    c.args.n
    _ _ _ _
    c.pack_on-r.ensures)

pub returns : goal.returns
returns c = follows c.args.v c.args.list.now not_given c.args.note.now c.args.n c.args.numbering.now c.args.buffer.now c.args.order.now
    (sym c.is_note.ensures ∙ not-false _ (not_from_true _ c.if-not-is_note.false)) c.room_before-end.result c.room_before-end.ensures
    _ _ _
    c.pack_on-r.auto.buffer (packed_of c.pack_on-r.result)
    (given_neither_on c.args.v c.args.list.now c.args.numbering.now (take c.room_before-end.result c.args.buffer.now) c.args.order.now
    c.args.n
    _ _ _ _
    c.pack_on-r.ensures) _ _ c.follow.ensures
