use Rattle.fields.specs.Flaws.First.{here, later}
use Rattle.fields.proofs.Judging.{passed_on, front_told}
use Rattle.fields.proofs.check.check_front.Goals as goal

pub returns-in_err-check_mark : goal.returns-in_err-check_mark
returns-in_err-check_mark c =
    rw (passed_on c.from_residual.ensures.1) (here c.in_err-check_mark.ensures)

pub returns-in_err-in_range : goal.returns-in_err-in_range
returns-in_err-in_range c =
    rw (passed_on c.from_residual-in_err-in_range.ensures.1) (later c.in_ok-check_mark.ensures (here c.in_err-in_range.ensures))

pub returns : goal.returns
returns c = front_told c.args.file.now c.args.mark.now c.in_ok-check_mark.ensures c.in_ok-in_range.ensures.0 c.in_range-2.result c.in_range-2.ensures
