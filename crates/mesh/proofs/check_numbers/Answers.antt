use mathlib.Core.Path.{refl}
use Rattle.mesh_theory.proofs.Chains.Checking.{refuses, goes_on}
use Rattle.mesh_theory.specs.Fans.Passing.{tested}
use Rattle.mesh_theory.specs.Chains.Checks.{check_numbers}
use Rattle.std.proofs.lemmas.Bool.{not_from_false, not_from_true}
use Rattle.mesh.proofs.check_numbers.Goals as goal

pub returns-then-not-is_list_size : goal.returns-then-not-is_list_size
unfolding check_numbers tested
returns-then-not-is_list_size c = refuses _ _ _ _ c.is_list_size.ensures (not_from_false _ c.if-not-is_list_size.true)

pub returns-then-not-is_vertex_count : goal.returns-then-not-is_vertex_count
unfolding check_numbers tested
returns-then-not-is_vertex_count c = goes_on _ _ _ _ _ c.is_list_size.ensures (not_from_true _ c.if-not-is_list_size.false)
    (refuses _ _ _ _ c.is_vertex_count.ensures (not_from_false _ c.if-not-is_vertex_count.true))

pub returns-then-not-all_below : goal.returns-then-not-all_below
unfolding check_numbers tested
returns-then-not-all_below c = goes_on _ _ _ _ _ c.is_list_size.ensures (not_from_true _ c.if-not-is_list_size.false)
    (goes_on _ _ _ _ _ c.is_vertex_count.ensures (not_from_true _ c.if-not-is_vertex_count.false)
    (refuses _ _ _ _ c.all_below.ensures (not_from_false _ c.if-not-all_below.true)))

pub returns-then-not-all_distinct : goal.returns-then-not-all_distinct
unfolding check_numbers tested
returns-then-not-all_distinct c = goes_on _ _ _ _ _ c.is_list_size.ensures (not_from_true _ c.if-not-is_list_size.false)
    (goes_on _ _ _ _ _ c.is_vertex_count.ensures (not_from_true _ c.if-not-is_vertex_count.false)
    (goes_on _ _ _ _ _ c.all_below.ensures (not_from_true _ c.if-not-all_below.false)
    (refuses _ _ _ _ c.all_distinct.ensures (not_from_false _ c.if-not-all_distinct.true))))

pub returns : goal.returns
unfolding check_numbers tested
returns c = goes_on _ _ _ _ _ c.is_list_size.ensures (not_from_true _ c.if-not-is_list_size.false)
    (goes_on _ _ _ _ _ c.is_vertex_count.ensures (not_from_true _ c.if-not-is_vertex_count.false)
    (goes_on _ _ _ _ _ c.all_below.ensures (not_from_true _ c.if-not-all_below.false)
    (goes_on _ _ _ _ _ c.all_distinct.ensures (not_from_true _ c.if-not-all_distinct.false) refl)))
