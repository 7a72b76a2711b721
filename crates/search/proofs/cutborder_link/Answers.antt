-- A refusal leaves the links, and a list that passes 1 to 4 can be linked; zeros are the chains of no triangle.
use Rattle.std.proofs.Common.{refl, sym}
use Rattle.mesh_theory.proofs.Chains.Checking.{numbers_four, four_sound}
use Rattle.mesh_theory.proofs.Chains.Linking.{zeros_none}
use Rattle.search.proofs.Laws.{link_refused, link_passed}
use Rattle.search.proofs.cutborder_link.Goals as goal

pub link_each-requires : goal.link_each-requires
link_each-requires c = (four_sound (numbers_four _ _ (sym c.in-Ok.ensures)), zeros_none _ _ refl)

pub returns-in-Err : goal.returns-in-Err
returns-in-Err c = rw (c.from.ensures, c.number.ensures) (link_refused _ _ _ _ (sym c.in-Err.ensures))

pub returns-in-Ok : goal.returns-in-Ok
returns-in-Ok c = link_passed _ _ _ _ (sym c.in-Ok.ensures) c.link_each.ensures
