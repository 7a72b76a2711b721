-- Each turn goes on from what the turns before came to.
use native.Mathlib.Omega.{arith}
use mathlib.Core.Path.{refl, ◌∙◌}
use Rattle.std.proofs.lemmas.Result.{err_from_is_err_and}
use Rattle.rules.specs.Refusal.{number_of}
use Rattle.unpack_theory.specs.Stepped.{Going, Refused}
use Rattle.unpack_theory.proofs.Operating.{step_broken, step_read}
use Rattle.unpack_theory.proofs.Looping.{comes_first, comes_end, comes_complete, comes_held, comes_stated, comes_stopped, comes_on}
use Rattle.unpacker.proofs.step.run.Goals as goal

pub loop-init : goal.loop-init
loop-init g c = record {
  bytes = refl;
  left = omega arith;
  comes = comes_first _ _ _ _ _ _ _ _ (omega arith);
  kept =
      (refl, refl, refl);
  beyond = refl;
}

pub returns-then-is_complete-clause-run : goal.returns-then-is_complete-clause-run
returns-then-is_complete-clause-run g c =
    comes_complete _ _ _ _ _ _ _ _ _ _ _ _ _ _ c.loop.invariant.comes (omega arith) _ c.is_complete.ensures c.if-is_complete.true

pub operate-requires : goal.operate-requires
operate-requires g c = record {
  held = comes_held _ _ _ _ _ _ _ _ _ _ _ _ _ _ c.loop.invariant.comes c.requires.held.0;
  places = c.loop.invariant.kept.0 ∙ c.requires.places;
}

pub returns-in_default-clause-run : goal.returns-in_default-clause-run
returns-in_default-clause-run g c =
    let i = c.loop.invariant in
    let e = (rw i.bytes at c.in_default.ensures) c.requires.held.1 in
    comes_stopped _ _ _ _ _ _ _ _ _ _ _ _ _ _ i.comes (omega arith) _ c.is_complete.ensures c.if-is_complete.false c.loop.triangles
    (g.M.LoopMemory.numbers c.loop.m) c.loop.chains c.loop.met 15 (step_broken _ _ _ _ _ _ _ e)

pub returns-in_err-s-clause-run : goal.returns-in_err-s-clause-run
returns-in_err-s-clause-run g c =
    let i = c.loop.invariant in
    let e = rw i.bytes at c.in-Some.ensures in
    let p = err_from_is_err_and c.from_residual.result c.from_residual.ensures.1 in
    rw (p.1, p.2)
    (comes_stopped _ _ _ _ _ _ _ _ _ _ _ _ _ _ i.comes (omega arith) _ c.is_complete.ensures c.if-is_complete.false c.operate.new.triangles
    (g.M.LoopMemory.numbers c.operate.new.m) c.operate.new.chains c.operate.new.met _
    (step_read _ _ _ _ _ _ _ _ c.in-Some.next (Refused (number_of c.in_err-s.field-0.0)) c.operate.new.triangles
    (g.M.LoopMemory.numbers c.operate.new.m)
    c.operate.new.chains c.operate.new.met e.reads (c.in_err-s.ensures.turn c.in-Some.next)))

pub returns-in_err-s-clause-beyond : goal.returns-in_err-s-clause-beyond
returns-in_err-s-clause-beyond g c =
    let i = c.loop.invariant in
    let s = comes_stated _ _ _ _ _ _ _ _ _ _ _ _ _ _ i.comes c.requires.held.0 in
    (rw s at c.operate.ensures.beyond) ∙ i.beyond

pub loop-preserved : goal.loop-preserved
loop-preserved g c =
    let i = c.loop.invariant in
    let e = rw i.bytes at c.in-Some.ensures in
    let s = comes_stated _ _ _ _ _ _ _ _ _ _ _ _ _ _ i.comes c.requires.held.0 in
    record {
      bytes = i.bytes;
      left = omega arith;
      comes =
          comes_on _ _ _ _ _ _ _ _ _ _ _ _ _ _ i.comes (omega arith) _ c.is_complete.ensures c.if-is_complete.false
          c.operate.new.triangles (g.M.LoopMemory.numbers c.operate.new.m) c.operate.new.chains c.operate.new.met _ _
          (step_read _ _ _ _ _ _ _ _ c.in-Some.next (Going c.in_ok-s.s c.in-Some.next) c.operate.new.triangles
          (g.M.LoopMemory.numbers c.operate.new.m)
          c.operate.new.chains c.operate.new.met e.reads (c.in_ok-s.ensures.turn c.in-Some.next)) _ (omega arith);
      kept = (
        c.operate.ensures.kept.0 ∙ i.kept.0,
        c.operate.ensures.kept.1 ∙ i.kept.1,
        c.operate.ensures.kept.2 ∙ i.kept.2,
      );
      beyond = (rw s at c.operate.ensures.beyond) ∙ i.beyond;
    }

pub returns-clause-run : goal.returns-clause-run
returns-clause-run g c = comes_end _ _ _ _ _ _ _ _ _ _ _ _ _ _ c.loop.invariant.comes (omega arith)
