use Rattle.table.proofs.Members.{from_all}
use Rattle.table.proofs.sets.NumberSet.iter.Goals as goal

pub returns-clause-all : goal.returns-clause-all
returns-clause-all g c = from_all c.args.self.now.words
