use Rattle.std.proofs.Common.{rules}
use Rattle.state_theory.proofs.Performing.Operating.{rule_room, rule_fails, can_touch, write_room, built_live, triangle_built}
use Rattle.std.proofs.lemmas.Bool.{not_from_false, not_from_true}
use Rattle.builder.proofs.operation.build_triangle.Goals as goal

pub edge_rule-requires : goal.edge_rule-requires
edge_rule-requires c = rule_room c.args.state.now c.args.o c.args.triangles.now c.args.m.now c.args.f c.requires.0

pub returns-then-not-edge_rule : goal.returns-then-not-edge_rule
returns-then-not-edge_rule c =
    rule_fails c.args.state.now c.args.o c.args.triangles.now c.args.m.now c.args.f c.requires.0 c.args.p c.requires.1 _
    c.edge_rule.ensures (not_from_false _ c.if-not-edge_rule.true)

pub touched-places-requires : goal.touched-places-requires
touched-places-requires c =
    can_touch c.args.state.now c.args.o c.args.triangles.now c.args.m.now c.args.f c.requires.0 c.args.p c.requires.1

pub put_triangle-requires : goal.put_triangle-requires
put_triangle-requires c =
    write_room c.args.state.now c.args.o c.args.triangles.now c.args.m.now c.args.f c.requires.0 c.args.p c.requires.1 _
    c.edge_rule.ensures (not_from_true _ c.if-not-edge_rule.false)

pub close-requires : goal.close-requires
close-requires c = built_live c.args.state.now c.args.o c.args.triangles.now c.args.m.now c.args.f c.requires.0 c.args.p c.requires.1 _
    c.edge_rule.ensures (not_from_true _ c.if-not-edge_rule.false) _ c.build-built.ensures.state

pub returns : goal.returns
returns c = triangle_built c.args.state.now c.args.o c.args.triangles.now c.args.m.now c.args.f c.requires.0 c.args.p
    c.requires.1 _ c.edge_rule.ensures (not_from_true _ c.if-not-edge_rule.false) (search rules) _ c.build-built.ensures.state _
    c.put_triangle.ensures _ c.build-built.ensures.memory _ c.close.ensures _ c.touched-places.ensures _ c.note.ensures
