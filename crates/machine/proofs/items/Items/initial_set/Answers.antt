use Rattle.std.proofs.Common.{◌∙◌}
use Rattle.machine.proofs.Initial.{zero_kernel, zero_closure}
use Rattle.machine.proofs.items.Items.initial_set.Goals as goal

pub returns : goal.returns
returns c g of =
    c.close.ensures g of (zero_kernel _ _ c.empty-kernel.ensures c.insert.ensures g)
    ∙ zero_closure _ _ c.empty-kernel.ensures c.insert.ensures c.insert.new.self.row g
