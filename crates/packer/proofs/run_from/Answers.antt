use mathlib.Core.Path.{refl}
use Rattle.pack_theory.proofs.Packing.Ending.{begin_few, run_enough, run_order, run_sized, run_gives}
use Rattle.pack_theory.specs.Packing.Ran.{ran_of}
use Rattle.packer.proofs.run_from.Goals as goal

pub finish-requires : goal.finish-requires
finish-requires c = let few =
    begin_few c.args.v c.args.list.now c.args.chains.now c.args.start c.args.numbering.now c.args.m.now c.requires.0 _ refl in (
      few.0,
      few.1,
      run_enough c.args.v c.args.list.now c.args.chains.now c.args.start c.args.numbering.now c.args.m.now c.requires.0 _ refl
          c.args.buffer.now (ran_of c.run-end.result) _ _ _ _
          c.run-end.ensures.run,
      run_order c.args.v
          c.args.list.now c.args.chains.now c.args.start c.args.numbering.now c.args.m.now c.requires.0 _ refl c.args.buffer.now
          (ran_of c.run-end.result) _ _ _ _
          c.run-end.ensures.run
          c.args.order.now _ c.requires.1
          c.run-end.ensures.order
          c.run-end.auto.order,
      run_sized c.args.v c.args.list.now c.args.chains.now c.args.start c.args.numbering.now
          c.args.m.now c.requires.0 _ refl c.args.buffer.now
          (ran_of c.run-end.result) _ _ _ _ c.run-end.ensures.run,
    )

pub returns : goal.returns
returns c = run_gives c.args.v c.args.list.now c.args.chains.now c.args.start c.args.numbering.now c.args.m.now c.requires.0 _ refl
    c.args.buffer.now
    (ran_of c.run-end.result) _ _ _ _
    c.run-end.ensures.run c.args.order.now _ c.requires.1
    c.run-end.ensures.order
    c.run-end.auto.buffer _ c.finish.ensures.answer _ c.finish.ensures.numbers _
    c.finish.ensures.pack _ c.finish.ensures.order
