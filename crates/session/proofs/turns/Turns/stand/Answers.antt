use Rattle.session.proofs.Turning.{row_set}
use Rattle.session.proofs.turns.Turns.stand.Goals as goal

pub returns-clause-turns : goal.returns-clause-turns
returns-clause-turns c =
    let t = c.args.self.now in row_set t.count t.rows.now c.args.number c.standing_at.result _ c.standing_at.ensures
