use Rattle.policy_tests.proofs.fill.Given as goal

abbrev pub invariant-loop-given : goal.invariant-loop-given
invariant-loop-given g l = g.P.Policy.ready l.policy
