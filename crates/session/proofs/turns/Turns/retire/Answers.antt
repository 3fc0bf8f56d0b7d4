use Rattle.session.specs.View.{kind_of}
use Rattle.session.proofs.Views.{retired_turns}
use Rattle.session.proofs.turns.Turns.retire.Goals as goal

pub returns-clause-turns : goal.returns-clause-turns
returns-clause-turns c =
    let t = c.args.self.now in retired_turns (kind_of c.args.kind) t.count c.retire.new.turns t.rows.now c.retire.ensures
