use mathlib.Core.Path.{refl}
use Rattle.mesh_theory.proofs.Chains.Checking.{refuses, goes_on, answers_no, four_sound, all_linked}
use Rattle.mesh_theory.specs.Chains.Checks.{check_chains}
use Rattle.std.proofs.lemmas.Bool.{not_from_false, not_from_true}
use Rattle.mesh.proofs.check_chains.Goals as goal

pub link_each-requires : goal.link_each-requires
link_each-requires c = (four_sound c.requires.0, c.requires.1)

pub returns-then-not-all_once : goal.returns-then-not-all_once
unfolding check_chains
returns-then-not-all_once c = answers_no _ _ _ _ (refuses _ _ _ _ c.all_once.ensures (not_from_false _ c.if-not-all_once.true))

pub returns-then-not-all_used : goal.returns-then-not-all_used
unfolding check_chains
returns-then-not-all_used c = let linked =
    all_linked c.requires.0 c.link_each.ensures _ c.all_once.ensures (not_from_true _ c.if-not-all_once.false) in
    answers_no _ _ _ _
    (goes_on _ _ _ _ _ c.all_once.ensures (not_from_true _ c.if-not-all_once.false)
    (refuses _ _ _ _ (c.all_used.ensures _ linked) (not_from_false _ c.if-not-all_used.true)))

pub returns-then-not-all_fans : goal.returns-then-not-all_fans
unfolding check_chains
returns-then-not-all_fans c = let linked =
    all_linked c.requires.0 c.link_each.ensures _ c.all_once.ensures (not_from_true _ c.if-not-all_once.false) in
    answers_no _ _ _ _
    (goes_on _ _ _ _ _ c.all_once.ensures (not_from_true _ c.if-not-all_once.false)
    (goes_on _ _ _ _ _ (c.all_used.ensures _ linked) (not_from_true _ c.if-not-all_used.false)
    (refuses _ _ _ _ c.all_fans.ensures (not_from_false _ c.if-not-all_fans.true))))

pub returns : goal.returns
unfolding check_chains
returns c = let linked = all_linked c.requires.0 c.link_each.ensures _ c.all_once.ensures (not_from_true _ c.if-not-all_once.false) in
    record {
      right =
          goes_on _ _ _ _ _ c.all_once.ensures (not_from_true _ c.if-not-all_once.false)
          (goes_on _ _ _ _ _ (c.all_used.ensures _ linked) (not_from_true _ c.if-not-all_used.false)
          (goes_on _ _ _ _ _ c.all_fans.ensures (not_from_true _ c.if-not-all_fans.false) refl));
      chained = λ e. linked;
    }
