use Rattle.unfolding.proofs.Seeking.{target_below, target_is}
use Rattle.unfolding.proofs.moves.target.Goals as goal

pub bounds-rising-seek : goal.bounds-rising-seek
bounds-rising-seek c = target_below _ c.args.rising.now.rising _ _ _ c.seek.ensures c.requires

pub returns : goal.returns
returns c = target_is _ c.args.rising.now.rising _ _ _ c.seek.ensures c.requires _
