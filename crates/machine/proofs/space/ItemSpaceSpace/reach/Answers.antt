use Rattle.machine.proofs.Gotos.{answers_reach}
use Rattle.machine.proofs.space.ItemSpaceSpace.reach.Goals as goal

pub returns-clause-answer : goal.returns-clause-answer
returns-clause-answer c = λ es k to ready at goes.
    answers_reach c.args.self.now.table.now c.args.self.now.items es k c.args.e ready at c.args.x to goes
    c.carry-carried.result c.carry-carried.ensures c.close.result c.close.ensures
