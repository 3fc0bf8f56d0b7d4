use Rattle.std.proofs.Common.{arith, rules}
use Rattle.fields.specs.Flaws.Fault.{early, wrong}
use Rattle.fields.proofs.check.check_mark.Goals as goal

pub returns-then-file-lt3 : goal.returns-then-file-lt3
returns-then-file-lt3 c = early (omega arith)

pub returns-then-not-starts_with : goal.returns-then-not-starts_with
returns-then-not-starts_with c = wrong (omega arith) (search rules)
