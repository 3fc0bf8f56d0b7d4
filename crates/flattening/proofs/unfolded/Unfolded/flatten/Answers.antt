use Rattle.flattening.proofs.Telling.{flat_in}
use Rattle.flattening.proofs.unfolded.Unfolded.flatten.Goals as goal

pub returns : goal.returns
returns c u =
    flat_in _ _ u _ _ c.jumps.new.rows (c.in_ok-jumps.ensures u) (c.final_node-final_node.ensures u) c.count_arcs-arcs.ensures
