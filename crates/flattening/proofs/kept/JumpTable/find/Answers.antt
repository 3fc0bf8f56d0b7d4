use Rattle.std.proofs.Common.{arith}
use Rattle.flattening.proofs.Tables.{rows_in_order, found_or_belongs}
use Rattle.flattening.proofs.kept.JumpTable.find.Goals as goal

pub returns : goal.returns
returns c = found_or_belongs _ c.args.jump (rows_in_order c.args.self.now _ (omega arith) c.requires) c.binary_search.result c.binary_search.ensures.bound c.binary_search.ensures.position
