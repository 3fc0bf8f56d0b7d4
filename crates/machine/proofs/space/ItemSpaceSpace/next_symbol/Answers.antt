use Rattle.machine.proofs.Gotos.{answers}
use Rattle.machine.proofs.space.ItemSpaceSpace.next_symbol.Goals as goal

pub returns : goal.returns
returns c =
    let (es, k, ready, at) = c.requires in
    answers c.args.self.now.table.now c.args.self.now.items es k c.args.e ready at c.args.from _ c.least_after.ensures
