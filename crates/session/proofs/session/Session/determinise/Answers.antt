use Rattle.std.proofs.Common.{Ok, Err, refl, ap}
use Rattle.std.proofs.lemmas.Result.{err_from_is_err_and}
use Rattle.promise.specs.Steps.Step.{none_open}
use Rattle.session.specs.View.{view}
use Rattle.session.proofs.Answering.{answers}
use Rattle.session.proofs.Writing.{determinise_answers}
use Rattle.session.proofs.session.Session.determinise.Goals as goal

pub returns-then-not-self : goal.returns-then-not-self
returns-then-not-self c = answers (λ i. none_open c.if-not-self.true refl)

pub returns-in_err-counts : goal.returns-in_err-counts
returns-in_err-counts c =
    let p = err_from_is_err_and c.from_residual.result c.from_residual.ensures.1 in
    rw (p.1, p.2)
    (determinise_answers (view c.args.self.now) (view c.take.new.self) (Err c.in_err-counts.field-0.0) c.if-not-self.false c.take.ensures refl
    c.file.ensures (ap (λ r. r.now) c.replace-out.ensures.value) c.in_err-counts.ensures c.determinise-answer.auto.out)

pub returns : goal.returns
returns c =
    determinise_answers (view c.args.self.now) (view c.take.new.self) (Ok c.in_ok-counts.counts) c.if-not-self.false c.take.ensures refl
    c.file.ensures (ap (λ r. r.now) c.replace-out.ensures.value) c.in_ok-counts.ensures c.determinise-answer.auto.out
