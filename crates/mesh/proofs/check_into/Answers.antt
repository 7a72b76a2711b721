use mathlib.Core.Path.{sym, ap, ◌∙◌}
use Rattle.std.proofs.lemmas.Result.{err_from_is_err_and}
use Rattle.rules.specs.Checked.{checked_of}
use Rattle.mesh_theory.proofs.Chains.Checking.{numbers_refuse, numbers_pass, numbers_four, answers_no, answers_on}
use Rattle.mesh.proofs.check_into.Goals as goal

pub returns-in_err-check_numbers : goal.returns-in_err-check_numbers
returns-in_err-check_numbers c =
    let p = err_from_is_err_and c.from_residual.result c.from_residual.ensures.1 in
    rw (p.1, p.2)
    (answers_no _ _ _ _ (numbers_refuse _ _ _ (sym c.check_numbers.ensures ∙ ap checked_of c.in_err-check_numbers.was)))

pub check_chains-requires : goal.check_chains-requires
check_chains-requires c = (numbers_four _ _ (sym c.check_numbers.ensures ∙ ap checked_of c.in_ok-check_numbers.was), c.requires)

pub returns : goal.returns
returns c = answers_on c.check_chains.ensures
    (λ e. e ∙ numbers_pass _ _ (sym c.check_numbers.ensures ∙ ap checked_of c.in_ok-check_numbers.was))
