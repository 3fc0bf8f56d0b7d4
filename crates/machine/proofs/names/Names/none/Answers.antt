use Rattle.machine.proofs.Noting.{none_marked}
use Rattle.machine.proofs.names.Names.none.Goals as goal

pub invariant_of-result : goal.invariant_of-result
invariant_of-result c = none_marked
