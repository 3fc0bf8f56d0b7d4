use Rattle.theory.proofs.Worked.{witness}
use Rattle.theory.proofs.witness.Goals as goal

pub returns : goal.returns
returns c = witness
