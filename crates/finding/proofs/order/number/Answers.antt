use Rattle.std.proofs.Common.{refl}
use Rattle.finding.proofs.Limited.{limited, answered_whole}
use Rattle.finding.proofs.Visiting.{same_bounds}
use Rattle.finding.proofs.order.number.Goals as goal

pub returns-clause-answer : goal.returns-clause-answer
returns-clause-answer g c =
    let same =
    same_bounds g.S.Space.sought {s = g.S.Space.source c.args.space.now} refl (limited c.args.rows.now _ c.min-most.ensures)
    (limited c.args.moves.now _ c.min-most_moves.ensures) in
    answered_whole (g.S.Space.ready c.number_all.new.space) _ _ c.number_all.ensures.held same c.number_all.ensures.answer
