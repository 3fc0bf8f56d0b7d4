use Rattle.std.proofs.Common.{◌/◌, ◌%◌, get_or, arith}
use Rattle.std.proofs.lemmas.Nat.{shr_le}
use Rattle.std.proofs.lemmas.Nat.Bits.{bit_at-trailing_zeros}
use Rattle.std.specs.Int.{w64}
use Rattle.table.proofs.Rows.{in_below, next_here, next_later}
use Rattle.table.proofs.sets.NumberSet.next_index.Goals as goal

pub returns-then-from-ge4096 : goal.returns-then-from-ge4096
returns-then-from-ge4096 g c k l m =
    let b = in_below c.args.self.now.words c.args.self.now.row k m in omega arith

pub returns-then-rest-ne0 : goal.returns-then-rest-ne0
returns-then-rest-ne0 g c =
    let row = c.args.self.now.row in
    next_here c.args.self.now.words row c.args.from (omega arith) _
    (bit_at-trailing_zeros w64 _ (omega arith) (omega (arith, shr_le (get_or c.args.self.now.words (c.args.from / 64) 0) (c.args.from % 64), row.1 (c.args.from / 64))))

pub returns : goal.returns
returns g c =
    next_later c.args.self.now.words c.args.self.now.row c.args.from (omega arith) _ c.first_from.ensures
