use Rattle.table.specs.Sets.{members}
use Rattle.table.proofs.Rows.{members_in, in_members}
use Rattle.theory.specs.Closure.Closed.{kernel}
use Rattle.machine.proofs.Seeding.{closes}
use Rattle.machine.proofs.items.Items.close.Goals as goal

pub returns : goal.returns
returns c g of k =
    let K = members c.args.kernel.now.words in
    let w = c.seed-at.ensures.within g K of (λ j h. kernel (in_members _ c.args.kernel.now.row j h) (k j h)) in
    let (now, all) = c.open_all.ensures.opened g K of w in
    closes g c.args.self.now of K _ now all
    (λ j m. c.open_all.ensures.still j (c.seed-at.ensures.kernel j (members_in _ j m))) c.open_all.new.at.set.row
