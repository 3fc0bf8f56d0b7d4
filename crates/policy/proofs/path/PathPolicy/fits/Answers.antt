use Rattle.policy.specs.Entries.{entries}
use Rattle.policy.specs.LinkTaking.{after_held, after_taken, after_none}
use Rattle.policy.proofs.path.PathPolicy.fits.Goals as goal

pub returns-in_err-number : goal.returns-in_err-number
returns-in_err-number c =
    rw c.from_residual.ensures (_, after_none (entries c.args.self.now.links) c.requires c.args.class.0 c.args.push.reached.0 c.in_err-number.ensures)

pub returns-in-Held : goal.returns-in-Held
returns-in-Held c = (_, after_held (entries c.args.self.now.links) c.requires c.args.class.0 c.args.push.reached.0 c.in-Held.is c.in_ok-number.ensures)

pub returns-in-New : goal.returns-in-New
returns-in-New c = (_, after_taken (entries c.args.self.now.links) c.requires c.args.class.0 c.args.push.reached.0 c.in-New.is c.in_ok-number.ensures c.look.ensures.1)
