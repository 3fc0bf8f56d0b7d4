use Rattle.std.proofs.Common.{ap}
use Rattle.policy.specs.Entries.{entries}
use Rattle.theory.specs.Policies.{last}
use Rattle.theory.specs.Policies.Class.{states}
use Rattle.policy.specs.Classes.{after_push}
use Rattle.policies.specs.Lasts.{depth_of, last_class}
use Rattle.policy.proofs.Mapped.{map_taken, map_past, placed_distinct}
use Rattle.policies.specs.Recent.{one_entry}
use Rattle.policies.proofs.last.LastPolicy.next.Goals as goal

pub returns-in_err-entry-clause-taken : goal.returns-in_err-entry-clause-taken
returns-in_err-entry-clause-taken c =
    rw c.from_residual.ensures (map_past last_class one_entry (entries c.args.self.now.entries) _ c.args.class.0 c.in_err-entry.ensures)

pub returns-clause-ready : goal.returns-clause-ready
returns-clause-ready c = placed_distinct c.place.ensures c.requires

pub returns-clause-taken : goal.returns-clause-taken
returns-clause-taken c =
    map_taken last_class one_entry (entries c.args.self.now.entries) (after_push (last (depth_of c.args.self.now.depth)) c.args.push) c.args.class.0 c.in_ok-entry.entry c.after.result
    c.in_ok-entry.ensures (ap states c.after.ensures) c.place.ensures
