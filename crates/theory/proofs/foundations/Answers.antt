use Rattle.theory.proofs.Theorems.{foundations}
use Rattle.theory.proofs.foundations.Goals as goal

pub returns : goal.returns
returns c = foundations
