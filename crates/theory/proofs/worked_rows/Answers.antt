use Rattle.theory.proofs.Worked.{all_rows}
use Rattle.theory.proofs.worked_rows.Goals as goal

pub returns-clause-each : goal.returns-clause-each
returns-clause-each c = all_rows
