use Rattle.flattening.proofs.Tables.{keeps_held, past_rows}
use Rattle.flattening.proofs.kept.JumpTable.put.Goals as goal

pub returns-in-Ok-clause-keeps : goal.returns-in-Ok-clause-keeps
returns-in-Ok-clause-keeps c found k = keeps_held found c.args.self.now c.args.jump k _ c.in-Ok.ensures

pub returns-in-Err-clause-keeps : goal.returns-in-Err-clause-keeps
returns-in-Err-clause-keeps c found k =
    c.pass.ensures.keeps found k (past_rows c.args.self.now c.args.jump c.in-Err.at c.in-Err.ensures.0 c.if-at-self.true)
