use Rattle.std.proofs.Common.{refl}
use Rattle.machine.proofs.Taking.{within_plain, within_named}
use Rattle.machine.proofs.items.Items.take_item.Goals as goal

pub returns-in-Some-clause-within : goal.returns-in-Some-clause-within
returns-in-Some-clause-within c g K of closed w =
    within_named c.args.at.now _ _ c.insert.ensures g K c.args.self.now of closed w _ c.in-Some.ensures c.note.ensures

pub returns-in_default-clause-within : goal.returns-in_default-clause-within
returns-in_default-clause-within c g K of closed w =
    within_plain c.args.at.now _ _ c.insert.ensures g K c.args.self.now of closed w c.in_default.ensures refl
