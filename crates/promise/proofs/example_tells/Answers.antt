use Rattle.promise.proofs.Example.{example_tells, example_only}
use Rattle.promise.proofs.example_tells.Goals as goal

pub returns : goal.returns
returns c = record { tells = example_tells; only = example_only }
