use Rattle.table.proofs.Same.{set_exact}
use Rattle.table.proofs.sets.NumberSetPartialEq.eq.Goals as goal

pub returns-clause-exact : goal.returns-clause-exact
returns-clause-exact g c = set_exact c.args.self.now c.args.other.now c.eq.result c.eq.ensures
