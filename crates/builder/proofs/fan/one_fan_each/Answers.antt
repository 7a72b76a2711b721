use Rattle.state_theory.proofs.Finishing.Fans.{accepted_fans, seven_fans}
use Rattle.builder.proofs.fan.one_fan_each.Goals as goal

pub returns-in-Ok : goal.returns-in-Ok
returns-in-Ok c = accepted_fans _ _ c.requires.1 _ (rw c.in-Ok.is at c.check.ensures)

pub returns-in-Err-FansInList : goal.returns-in-Err-FansInList
returns-in-Err-FansInList c =
    seven_fans _ _ c.requires.1 _ (rw (c.in-Err-FansInList.is, c.in-Err-FansInList.field-0-is) at c.check.ensures)
