-- Each turn goes on from the reading that the turns before came to.
use Prim.Native.Nat.{ℕ}
use native.Mathlib.Omega.{arith}
use mathlib.Core.Path.{refl, sym, ap, ◌∙◌, subst}
use Rattle.std.proofs.lemmas.Result.{err_from_is_err_and}
use Rattle.rules.specs.declared.Counts.{Counts}
use Rattle.rules.specs.Furnace.{run_freely_of}
use Rattle.cutborder.specs.declared.Front.{Front}
use Rattle.cells_theory.proofs.Bytes.{length_numbers}
use Rattle.melting_theory.specs.Runs.{Weighable, GoingOn}
use Rattle.melting_theory.proofs.Stepping.{begins_on, some_left, turn_on_complete}
use Rattle.melting.proofs.run.run.Goals as goal

pub begin-requires : goal.begin-requires
begin-requires c = omega (arith, length_numbers c.args.m.now, c.told-m)

pub loop-init : goal.loop-init
loop-init c = record {
  left = omega arith;
  going = begins_on _ _ _ _ _ c.requires _ c.begin.ensures.state c.begin.ensures.memory c.begin.array_long _ (omega arith);
  stated = refl;
}

pub returns-then-is_complete : goal.returns-then-is_complete
returns-then-is_complete c =
    let i = c.loop.invariant in (
      turn_on_complete _ _ _ _ _ i.going _ c.is_complete.ensures c.if-is_complete.true,
      (i.stated ∙ ap (λ (s : Front). s.stated) c.begin.ensures.state),
    )

pub turn-requires : goal.turn-requires
turn-requires c =
    let i = c.loop.invariant in (
      i.going.held,
      subst (λ (k : Counts). Weighable k c.args.field.now) (sym (i.stated ∙ ap (λ (s : Front). s.stated) c.begin.ensures.state))
          c.requires.weighable,
      sym c.is_complete.ensures ∙ c.if-is_complete.false,
      c.requires.short,
    )

pub returns-in_err-p : goal.returns-in_err-p
returns-in_err-p c =
    let i = c.loop.invariant in
    let p = err_from_is_err_and c.from_residual.result c.from_residual.ensures.1 in
    rw (p.1, p.2)
    (ap (λ (k : Counts). run_freely_of k c.args.ops.now) (sym (i.stated ∙ ap (λ (s : Front). s.stated) c.begin.ensures.state))
    ∙ c.in_err-p.ensures _ i.going)

pub loop-preserved : goal.loop-preserved
loop-preserved c =
    let i = c.loop.invariant in
    let t = c.in_ok-p.ensures _ i.going in
    record {
      left = omega (arith, c.loop-test.true);
      going = subst (λ (k : ℕ). GoingOn c.args.ops.now c.args.field.now k c.in_ok-p.p c.turn.new.m) (omega arith) t.0;
      stated = t.1 ∙ i.stated;
    }

-- never met: turns are left as long as the reading goes on
pub returns : goal.returns
returns c = absurd (omega (arith, c.loop-test.false, some_left _ _ _ _ _ c.loop.invariant.going))
