use Rattle.std.proofs.Common.{refl, arith}
use Rattle.fields.proofs.Judging.{passed_on, row_fault}
use Rattle.fields.proofs.check.check_rows.Goals as goal

pub returns-in_err-check_row : goal.returns-in_err-check_row
returns-in_err-check_row c =
    rw (passed_on c.from_residual.ensures.1) (row_fault c.args.file.now c.args.start c.args.limits.now c.loop-k.k c.args.count _
    (omega arith) refl c.loop-k.invariant c.in_err-check_row.ensures)
