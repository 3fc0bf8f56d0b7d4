use Rattle.std.proofs.Common.{ap, refl, Some}
use Rattle.flattening.proofs.Tables.{keeps_past, sooner_min}
use Rattle.flattening.proofs.kept.JumpTable.pass.Goals as goal
use Rattle.flattening.proofs.kept.JumpTable.pass.Goals.{in-Some, in-None}

pub returns-clause-keeps : goal.returns-clause-keeps
returns-clause-keeps c found k past =
    keeps_past found c.args.self.now c.args.jump k _ refl refl refl past
    (elim c.match-self.branch [
      | in-Some w ↦ rw (w.in-Some.is, w.self-is, w.min.ensures) (sooner_min c.args.jump w.in-Some.first)
      | in-None w ↦ rw w.in-None.is (ap Some w.self-is)
    ])
