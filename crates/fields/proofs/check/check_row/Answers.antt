use Rattle.std.proofs.Common.{refl, arith}
use Rattle.std.proofs.lemmas.Bool.{false≢true}
use Rattle.std.proofs.ByRecursion.{All-append}
use Rattle.fields.specs.Flaws.{Passes, fields}
use Rattle.fields.specs.Flaws.Fault.{wrong}
use Rattle.fields.specs.Flaws.First.{here}
use Rattle.fields.proofs.Judging.{passed_on, first_left, first_right, fields_there}
use Rattle.fields.proofs.check.check_row.Goals as goal
use Rattle.fields.proofs.check.check_row.Goals.{else-at-start-via-then-at-start+else-not-row_rises, else-at-start-via-else-at-start}

pub returns-in_err-check_fields : goal.returns-in_err-check_fields
returns-in_err-check_fields c =
    rw (passed_on c.from_residual.ensures.1) (first_left c.args.file.now c.in_err-check_fields.ensures _)

pub row_rises-requires : goal.row_rises-requires
row_rises-requires c =
    let there = fields_there c.args.file.now c.args.at c.args.limits.now 1 (omega arith) c.in_ok-check_fields.ensures in
    (omega arith, omega arith)

pub returns-then-not-row_rises : goal.returns-then-not-row_rises
returns-then-not-row_rises c =
    let there = fields_there c.args.file.now c.args.at c.args.limits.now 1 (omega arith) c.in_ok-check_fields.ensures in
    first_right c.args.file.now (fields c.args.at c.args.limits.now) c.in_ok-check_fields.ensures
    (here (wrong (omega arith) (λ r. false≢true (c.if-not-row_rises.ensures.1 (r c.if-at-start.true)))))

pub returns : goal.returns
returns c =
    let there = fields_there c.args.file.now c.args.at c.args.limits.now 1 (omega arith) c.in_ok-check_fields.ensures in
    All-append (Passes c.args.file.now) (fields c.args.at c.args.limits.now) _ c.in_ok-check_fields.ensures (
      (
        omega arith,
        elim c.else-at-start.branch [
          | else-at-start-via-then-at-start+else-not-row_rises w ↦ λ h. w.if-not-row_rises.ensures.0 refl
          | else-at-start-via-else-at-start w ↦ λ h. absurd (omega (arith, w.if-at-start.false))
        ],
      ),
      tt,
    )
