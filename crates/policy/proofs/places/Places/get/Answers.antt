use Rattle.std.proofs.Common.{take}
use Rattle.policy.proofs.Placing.{entry_read}
use Rattle.policy.proofs.places.Places.get.Goals as goal

pub returns : goal.returns
returns g c = rw c.copied.ensures (entry_read (take c.args.self.now.len c.args.self.now.rows) c.args.class.0 c.get.result c.get.ensures.lookup)
