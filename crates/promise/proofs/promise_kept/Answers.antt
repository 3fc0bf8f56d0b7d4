use Rattle.promise.proofs.Keeping.{kept}
use Rattle.promise.proofs.promise_kept.Goals as goal

pub returns : goal.returns
returns c = kept
