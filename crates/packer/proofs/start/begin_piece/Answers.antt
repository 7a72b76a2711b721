use Rattle.pack_theory.proofs.Packing.Stepping.{rest_lowest, rest_never, rest_starts}
use native.Mathlib.Omega.{arith}
use Rattle.packer.proofs.start.begin_piece.Goals as goal

pub lowest_left-requires : goal.lowest_left-requires
lowest_left-requires c = rest_lowest c.args.list.now c.args.t c.args.built.now c.args.numbering.now c.args.m.now c.requires.0

pub returns-in_default-clause-step : goal.returns-in_default-clause-step
returns-in_default-clause-step c =
    absurd (rest_never c.args.list.now c.args.t c.args.built.now c.args.numbering.now c.args.m.now c.requires.0 _ c.in_default.ensures
    (omega arith))

pub start_at-requires : goal.start_at-requires
start_at-requires c = (
  rest_starts c.args.list.now c.args.t c.args.built.now c.args.numbering.now c.args.m.now c.requires.0 _
      c.in-Some.ensures.1 c.in-Some.ensures.0,
  c.requires.1,
)
