use Rattle.flattening.proofs.Inserting.{shifted_in}
use Rattle.flattening.proofs.kept.shift_in.Goals as goal

pub returns : goal.returns
returns c =
    shifted_in c.args.rows.now _ c.args.at c.args.last c.args.jump c.requires.0 c.requires.1 c.copy_within.ensures.after
