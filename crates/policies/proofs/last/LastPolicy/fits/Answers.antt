use Rattle.std.proofs.Common.{ap}
use Rattle.policy.specs.Entries.{entries}
use Rattle.theory.specs.Policies.{last}
use Rattle.theory.specs.Policies.Class.{states}
use Rattle.policy.specs.Classes.{after_push}
use Rattle.policies.specs.Lasts.{depth_of, last_class}
use Rattle.policy.proofs.Mapped.{map_taken, map_past}
use Rattle.policies.specs.Recent.{one_entry}
use Rattle.policies.proofs.last.LastPolicy.fits.Goals as goal

pub returns-in_err-entry : goal.returns-in_err-entry
returns-in_err-entry c =
    let s = c.args.self.now.entries in
    rw c.from_residual.ensures (_, map_past last_class one_entry (entries s) _ c.args.class.0 c.in_err-entry.ensures)

pub returns : goal.returns
returns c =
    let s = c.args.self.now.entries in
    let (es, placed) = c.look.ensures in
    (_, map_taken last_class one_entry (entries s) (after_push (last (depth_of c.args.self.now.depth)) c.args.push) c.args.class.0 c.in_ok-entry.entry c.after.result c.in_ok-entry.ensures (ap states c.after.ensures) placed)
