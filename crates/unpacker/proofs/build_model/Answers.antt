use Prim.Native.Nat.{ℕ}
use mathlib.Core.Path.{refl}
use lib.ListN.{length-replicate}
use Rattle.std.proofs.lemmas.Result.{err_from_is_err_and}
use Rattle.rules.specs.Unpacked.{unpacked_of, Refused}
use Rattle.mesh_theory.proofs.Chains.Linking.{zeros_none}
use Rattle.unpack_theory.specs.Stepped as S
use Rattle.unpack_theory.proofs.Unpacking.{first_held, first_ended, run_gives}
use Rattle.unpacker.proofs.build_model.Goals as goal

pub run-requires-clause-held : goal.run-requires-clause-held
run-requires-clause-held c = (
  first_held c.args.stated c.args.ops.now c.args.triangles.now c.args.m.now c.requires c.begin-start.result c.begin-start.ensures.state
      c.begin-start.new.m c.begin-start.ensures.memory _ (zeros_none _ _ refl) _ (length-replicate {A = ℕ} 4096 0),
  c.requires.short,
)

pub returns-in_err-s : goal.returns-in_err-s
returns-in_err-s c =
    let p = err_from_is_err_and c.from_residual.result c.from_residual.ensures.1 in
    rw (p.1, p.2)
    (run_gives c.args.stated c.args.ops.now c.args.triangles.now c.args.m.now c.requires c.begin-start.result
    c.begin-start.ensures.state c.begin-start.new.m c.begin-start.ensures.memory _ (zeros_none _ _ refl) _
    (length-replicate {A = ℕ} 4096 0) _ refl (S.Refused _) _ c.run.new.m c.run.new.chains c.run.new.met c.in_err-s.ensures.run
    c.in_err-s.ensures.beyond (Refused _) refl _ refl)

pub conclude-requires : goal.conclude-requires
conclude-requires c =
    first_ended c.args.stated c.args.ops.now c.args.triangles.now c.args.m.now c.requires c.begin-start.result c.begin-start.ensures.state
    c.begin-start.new.m c.begin-start.ensures.memory _ (zeros_none _ _ refl) _ (length-replicate {A = ℕ} 4096 0) _ refl
    (S.Going c.in_ok-s.s c.in_ok-s.at) _ _ _ _ c.in_ok-s.ensures.run

pub returns : goal.returns
returns c = run_gives c.args.stated c.args.ops.now c.args.triangles.now c.args.m.now c.requires c.begin-start.result
    c.begin-start.ensures.state c.begin-start.new.m c.begin-start.ensures.memory _ (zeros_none _ _ refl) _
    (length-replicate {A = ℕ} 4096 0) _ refl (S.Going c.in_ok-s.s c.in_ok-s.at) _ _ _ _ c.in_ok-s.ensures.run c.in_ok-s.ensures.beyond
    (unpacked_of c.conclude.result) c.conclude.ensures _ refl
