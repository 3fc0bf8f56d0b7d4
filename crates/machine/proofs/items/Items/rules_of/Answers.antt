use Rattle.std.proofs.Common.{get_or, ap, ◌∙◌}
use Rattle.machine.specs.Index.{links}
use Rattle.machine.proofs.Links.{links_within}
use Rattle.machine.proofs.items.Items.rules_of.Goals as goal

pub returns : goal.returns
returns c =
    let items = c.args.self.now in
    ap (links items.next) c.link_below.ensures ∙ links_within items.next (get_or items.head c.args.name 0)
