use Rattle.theory.proofs.Policies.{policy_laws}
use Rattle.policies.proofs.both.Both.new.Goals as goal

pub returns-clause-finer : goal.returns-clause-finer
returns-clause-finer g c =
    let m = g.P.Policy.meaning (g.P.Policy.kind c.args.first) in
    let n = g.Q.Policy.meaning (g.Q.Policy.kind c.args.second) in
    record { left = λ moves. (policy_laws moves).both_left m n; right = λ moves. (policy_laws moves).both_right m n }
