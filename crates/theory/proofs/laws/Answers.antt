use Rattle.theory.proofs.Theorems.{all_laws}
use Rattle.theory.proofs.laws.Goals as goal

pub returns : goal.returns
returns c = all_laws
