use Rattle.std.proofs.Common.{length, ap, subst, arith}
use Rattle.table.specs.Sets.{WalkStep}
use Rattle.table.proofs.Members.{step_on, step_end}
use Rattle.table.proofs.sets.iter.MembersIterator.next.Goals as goal

pub returns-in_err-n-clause-steps : goal.returns-in_err-n-clause-steps
returns-in_err-n-clause-steps g c = subst (λ w. WalkStep g.N.Number.value w c.from_residual.result w) c.self.view_is (step_end g.N.Number.value _ _ c.in_err-n.ensures c.from_residual.ensures)

pub returns-clause-steps : goal.returns-clause-steps
returns-clause-steps g c =
    step_on g.N.Number.value c.self.inside.set.now.words c.self.inside.set.now.row c.self.inside.from c.index.result c.in_ok-n.n c.args.self.now c.self.view_is c.in_ok-n.ensures c.index.ensures.value

pub returns-clause-goes : goal.returns-clause-goes
returns-clause-goes g c =
    let shorter = ap length (returns-clause-steps g c).first in
    record { on = λ _. (tt, tt, omega arith); keeps = tt; rests = λ _. tt }
