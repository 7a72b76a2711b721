use mathlib.Core.Path.{ap}
use Rattle.wire.specs.Told.{lent}
use Rattle.melting_theory.proofs.Concluding.{rest_left, not_stated, not_fit, not_noted, not_given_24, rim_24, weighed_six}
use Rattle.melting.proofs.conclude.conclude.Goals as goal

pub returns-then-not-is_rest_zero : goal.returns-then-not-is_rest_zero
returns-then-not-is_rest_zero c =
    rest_left _ c.args.end _ _ c.requires _ c.is_rest_zero.ensures c.if-not-is_rest_zero.true

pub returns-then-not-is_as_stated : goal.returns-then-not-is_as_stated
returns-then-not-is_as_stated c =
    not_stated _ c.args.end _ _ c.requires _ c.is_rest_zero.ensures c.if-not-is_rest_zero.false
    _ c.is_as_stated.ensures c.if-not-is_as_stated.true

pub returns-then-not-are_fit : goal.returns-then-not-are_fit
returns-then-not-are_fit c =
    not_fit _ c.args.end _ _ c.requires _ c.is_rest_zero.ensures c.if-not-is_rest_zero.false
    _ c.is_as_stated.ensures c.if-not-is_as_stated.false _ c.are_fit.ensures c.if-not-are_fit.true

pub returns-then-not-is_fit : goal.returns-then-not-is_fit
returns-then-not-is_fit c =
    not_noted _ c.args.end _ _ c.requires _ c.is_rest_zero.ensures c.if-not-is_rest_zero.false
    _ c.is_as_stated.ensures c.if-not-is_as_stated.false _ c.are_fit.ensures c.if-not-are_fit.false
    _ c.is_fit.ensures c.if-not-is_fit.true

pub returns-in_default : goal.returns-in_default
returns-in_default c =
    not_given_24 _ c.args.end _ _ c.requires _ c.is_rest_zero.ensures c.if-not-is_rest_zero.false
    _ c.is_as_stated.ensures c.if-not-is_as_stated.false _ c.are_fit.ensures c.if-not-are_fit.false
    _ c.is_fit.ensures c.if-not-is_fit.false (ap lent c.in_default.is)

pub returns-then-s-ne0 : goal.returns-then-s-ne0
returns-then-s-ne0 c =
    rim_24 _ c.args.end _ _ c.requires _ c.is_rest_zero.ensures c.if-not-is_rest_zero.false
    _ c.is_as_stated.ensures c.if-not-is_as_stated.false _ c.are_fit.ensures c.if-not-are_fit.false
    _ c.is_fit.ensures c.if-not-is_fit.false _ (ap lent c.in-Some.is) c.if-s-ne0.true

pub returns : goal.returns
returns c =
    weighed_six _ c.args.end _ _ c.requires _ c.is_rest_zero.ensures c.if-not-is_rest_zero.false
    _ c.is_as_stated.ensures c.if-not-is_as_stated.false _ c.are_fit.ensures c.if-not-are_fit.false
    _ c.is_fit.ensures c.if-not-is_fit.false _ (ap lent c.in-Some.is) c.if-s-ne0.false
