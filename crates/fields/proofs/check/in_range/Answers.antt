use Rattle.std.proofs.Common.{◌≤◌, ◌<◌, arith}
use Rattle.std.proofs.lemmas.Bool.Decides.{nat_tests}
use Rattle.fields.specs.Flaws.Fault.{early, wrong}
use Rattle.fields.proofs.check.in_range.Goals as goal

pub returns-then-file-at : goal.returns-then-file-at
returns-then-file-at c = early c.if-file-at.true

pub returns-then-not-contains : goal.returns-then-not-contains
returns-then-not-contains c =
    let e = c.number_at-number.ensures in
    wrong (omega arith) (λ r.
    let least : c.args.range.start ≤ c.number_at-number.result = omega (arith, r.0) in
    let below : c.number_at-number.result < c.args.range.end = omega (arith, r.1) in
    grind (arith, nat_tests, c.contains.ensures.value, c.if-not-contains.true))
