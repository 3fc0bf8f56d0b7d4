use Rattle.std.proofs.Common.{arith, rules}
use Rattle.acceptor.proofs.Chunks.{keys_length, key_stands, row_fits}
use Rattle.acceptor.proofs.rows.Rows.key.Goals as goal

pub overflow_mul-row : goal.overflow_mul-row
overflow_mul-row g c =
    let rows = c.args.self.now in
    let h = row_fits g.row.SIZE rows.bytes.now c.args.row rows.sized.0 c.requires in search rules

pub pair-requires : goal.pair-requires
pair-requires g c =
    let rows = c.args.self.now in
    let wide = rows.sized.0 in omega (arith, row_fits g.row.SIZE rows.bytes.now c.args.row wide c.requires)

pub returns : goal.returns
returns g c =
    let bytes = c.args.self.now.bytes.now in
    let l = keys_length g.row.SIZE bytes in rw c.pair.ensures (key_stands g.row.SIZE bytes c.args.row (omega arith))
