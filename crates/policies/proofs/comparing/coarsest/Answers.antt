use Rattle.theory.proofs.Policies.{policy_laws}
use Rattle.policies.proofs.comparing.coarsest.Goals as goal

pub returns : goal.returns
returns g c = λ moves. (policy_laws moves).one_class_coarsest (g.P.Policy.meaning (g.P.Policy.kind c.args._policy.now))
