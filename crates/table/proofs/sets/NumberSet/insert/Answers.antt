use Rattle.table.proofs.Rows.{with_bit_row, with_bit_inserted}
use Rattle.table.proofs.sets.NumberSet.insert.Goals as goal

pub invariant_of-self : goal.invariant_of-self
invariant_of-self g c = record { row = with_bit_row c.args.self.now.words c.args.self.now.row c.index-k.result c.if-k-lt4096.true }

pub returns-then-k-lt4096 : goal.returns-then-k-lt4096
returns-then-k-lt4096 g c =
    rw (← c.index-k.ensures.value) (with_bit_inserted c.args.self.now.words c.args.self.now.row c.index-k.result c.if-k-lt4096.true)
