use Rattle.policies.specs.Pairing.{paired_at_first}
use Rattle.policies.proofs.both.BothPolicy.clear.Goals as goal

pub returns-clause-ready : goal.returns-clause-ready
returns-clause-ready g c = (c.clear.ensures.ready, c.clear-2.ensures.ready, paired_at_first c.clear.ensures.held c.clear-2.ensures.held c.clear-3.ensures)
