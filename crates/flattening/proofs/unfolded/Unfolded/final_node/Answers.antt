use Rattle.flattening.proofs.Linking.{final_some, final_is}
use Rattle.flattening.proofs.unfolded.Unfolded.final_node.Goals as goal

pub unwrap-requires : goal.unwrap-requires
unwrap-requires c = final_some _ _ c.requires _ c.find_move.ensures

pub returns : goal.returns
returns c u = final_is _ _ u _ c.find_move.ensures _ c.unwrap.ensures
