use Rattle.std.proofs.Common.{sym}
use Rattle.acceptor.proofs.Chunks.{keys_length}
use Rattle.acceptor.proofs.rows.Rows.count.Goals as goal

pub returns : goal.returns
returns g c = sym (keys_length g.row.SIZE c.args.self.now.bytes.now)
