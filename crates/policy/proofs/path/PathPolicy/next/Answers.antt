use Rattle.policy.specs.Entries.{entries}
use Rattle.policy.specs.LinkTaking.{after_held, after_taken, after_chained, after_none}
use Rattle.policy.proofs.path.PathPolicy.next.Goals as goal

pub returns-in_err-number-clause-taken : goal.returns-in_err-number-clause-taken
returns-in_err-number-clause-taken c =
    rw c.from_residual.ensures (after_none (entries c.args.self.now.links) c.requires c.args.class.0 c.args.push.reached.0 c.in_err-number.ensures)

pub returns-in-Held-clause-taken : goal.returns-in-Held-clause-taken
returns-in-Held-clause-taken c = after_held (entries c.args.self.now.links) c.requires c.args.class.0 c.args.push.reached.0 c.in-Held.is c.in_ok-number.ensures

pub returns-in-New-clause-ready : goal.returns-in-New-clause-ready
returns-in-New-clause-ready c = after_chained (entries c.args.self.now.links) c.requires c.args.class.0 c.args.push.reached.0 c.in-New.is c.in_ok-number.ensures c.place.ensures

pub returns-in-New-clause-taken : goal.returns-in-New-clause-taken
returns-in-New-clause-taken c = after_taken (entries c.args.self.now.links) c.requires c.args.class.0 c.args.push.reached.0 c.in-New.is c.in_ok-number.ensures c.place.ensures
