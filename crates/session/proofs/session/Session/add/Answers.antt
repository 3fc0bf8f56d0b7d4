use Rattle.std.proofs.Common.{refl}
use Rattle.promise.specs.Steps.Step.{added}
use Rattle.session.proofs.Answering.{answers}
use Rattle.session.proofs.session.Session.add.Goals as goal

pub returns : goal.returns
returns c = answers (λ i. added c.add.result c.add.new.table c.add.ensures refl)
