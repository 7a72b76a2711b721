use mathlib.Core.Path.{refl}
use Rattle.pack_theory.proofs.Packing.Ending.{few_counts, begins}
use Rattle.packer.proofs.pack_accepted.Goals as goal

pub begin_course-start-requires : goal.begin_course-start-requires
begin_course-start-requires c = let few = few_counts c.args.v c.args.list.now c.requires.0.accepted _ refl in
    (few.0, few.1, c.requires.0.enough)

pub run_from-requires : goal.run_from-requires
run_from-requires c = (
  (begins c.args.v c.args.list.now c.args.chains.now c.args.numbering.now c.args.m.now c.requires.0 _ refl _
      c.begin_course-start.ensures.course _ c.begin_course-start.ensures.numbers _ c.begin_course-start.ensures.memory).0,
  c.requires.1,
)
