use Rattle.std.proofs.Common.{refl, arith}
use Rattle.table.proofs.Lists.{stands_getD}
use Rattle.flattening.proofs.Tables.{keeps_row, keeps_full}
use Rattle.flattening.proofs.kept.JumpTable.insert.Goals as goal

pub returns-then-len-self-clause-keeps : goal.returns-then-len-self-clause-keeps
returns-then-len-self-clause-keeps c found k n =
    keeps_row found c.args.self.now c.args.jump k c.args.at n _ c.if-len-self.true refl refl c.shift_in.auto.rows c.shift_in.ensures refl

pub returns-clause-keeps : goal.returns-clause-keeps
returns-clause-keeps c found k n =
    keeps_full found c.args.self.now c.args.jump k c.args.at n _ _ (omega arith) (omega arith) refl refl c.shift_in-2.auto.rows c.shift_in-2.ensures
    (stands_getD c.args.self.now.rows.now _ _ (omega arith)) refl
