use Rattle.std.proofs.Common.{◌≡◌, ◌+◌, ◌-◌, length, arith}
use Rattle.machine.proofs.Indexing.{rule_followers}
use Rattle.machine.proofs.items.Items.add_rule.Goals as goal

pub returns-clause-after : goal.returns-clause-after
returns-clause-after c =
    let right = c.args.right.now in
    let long : (c.args.first + length right) - c.args.first ≡ length right = omega arith in
    rule_followers c.args.self.now.after right _ c.args.first _ (omega arith) long c.copy_from_slice.ensures.after
