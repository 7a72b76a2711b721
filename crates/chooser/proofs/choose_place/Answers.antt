use Rattle.std.proofs.Common.{refl}
use Rattle.pack_theory.proofs.Choosing.Operation.{seek_asks, enter_within, chosen_enter, chosen_leave, chosen_none}
use Rattle.chooser.proofs.choose_place.Goals as goal

pub following-requires : goal.following-requires
following-requires c = enter_within _ _ _ _ _ _ _ _ c.requires _ _ _ _ c.in-Some.ensures refl

pub place_operation-requires : goal.place_operation-requires
place_operation-requires c = seek_asks _ _ _ _ _ _ _ _ c.requires

pub returns-in-Some : goal.returns-in-Some
returns-in-Some c = chosen_enter _ _ _ _ _ _ _ _ c.requires _ _ _ _ _ _ c.in-Some.ensures refl c.following.ensures
    c.place_operation.ensures

pub place_operation-requires-in-Some-seat : goal.place_operation-requires-in-Some-seat
place_operation-requires-in-Some-seat c = seek_asks _ _ _ _ _ _ _ _ c.requires

pub returns-in-Some-seat : goal.returns-in-Some-seat
returns-in-Some-seat c = chosen_leave _ _ _ _ _ _ _ _ c.requires _ _ _ _ _ _ c.in_default.ensures refl c.in-Some-seat.ensures refl
    c.place_operation-in-Some-seat.ensures

pub returns : goal.returns
returns c = chosen_none _ _ _ _ _ _ _ _ c.requires _ _ c.in_default.ensures refl c.in_default-seat.ensures refl
