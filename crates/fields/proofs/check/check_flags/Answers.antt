use Rattle.std.proofs.Common.{arith}
use Rattle.fields.proofs.Judging.{passed_on, flags_more, flags_fault}
use Rattle.fields.proofs.check.check_flags.Goals as goal

pub returns-in_err-check_flag : goal.returns-in_err-check_flag
returns-in_err-check_flag c =
    rw (passed_on c.from_residual.ensures.1)
    (flags_fault c.args.file.now c.args.start c.loop-at.at (omega arith) c.args.count (omega arith) c.loop-at.invariant c.in_err-check_flag.ensures)

pub loop-at-preserved : goal.loop-at-preserved
loop-at-preserved c =
    flags_more c.args.file.now c.args.start c.loop-at.at (omega arith) c.loop-at.invariant c.in_ok-check_flag.ensures
