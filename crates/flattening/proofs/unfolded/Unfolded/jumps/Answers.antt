use Rattle.std.proofs.Common.{◌∙◌, rules}
use Rattle.flattening.proofs.Linking.{all_opened}
use Rattle.flattening.proofs.Telling.{jumps_found}
use Rattle.flattening.proofs.unfolded.Unfolded.jumps.Goals as goal

pub put_all-requires-clause-opened : goal.put_all-requires-clause-opened
put_all-requires-clause-opened c = all_opened _ _ c.requires

pub returns : goal.returns
returns c u =
    jumps_found _ _ u _ c.put_all.ensures.all _ c.count.result _
    (c.put_all.ensures.limit ∙ c.new-table.ensures.limit) (search rules) c.count.ensures
