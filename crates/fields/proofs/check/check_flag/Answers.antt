use Rattle.std.proofs.Common.{arith}
use Rattle.fields.specs.Flaws.Fault.{early, wrong}
use Rattle.fields.proofs.check.check_flag.Goals as goal

pub returns-then-file-at : goal.returns-then-file-at
returns-then-file-at c = early (omega arith)

pub returns-then-file-at-gt1 : goal.returns-then-file-at-gt1
returns-then-file-at-gt1 c = wrong (omega arith) (λ r. omega arith)
