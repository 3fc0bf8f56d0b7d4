use Rattle.std.proofs.Common.{arith}
use Rattle.fields.proofs.Judging.{passed_on, fields_fault}
use Rattle.fields.proofs.check.check_fields.Goals as goal

pub returns-in_err-in_range : goal.returns-in_err-in_range
returns-in_err-in_range c =
    rw (passed_on c.from_residual.ensures.1)
    (fields_fault c.args.file.now c.args.at c.args.limits.now c.loop-i.i (omega arith) c.loop-i.invariant c.in_err-in_range.ensures)
