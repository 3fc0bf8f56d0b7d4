use Rattle.std.proofs.Common.{Ok, Err, refl, ap}
use Rattle.std.proofs.lemmas.Result.{err_from_is_err_and}
use Rattle.session.specs.View.{view}
use Rattle.session.proofs.Writing.{compile_answers}
use Rattle.session.proofs.session.Session.compile.Goals as goal

pub returns-in_err-counts : goal.returns-in_err-counts
returns-in_err-counts g c =
    let p = err_from_is_err_and c.from_residual.result c.from_residual.ensures.1 in
    rw (p.1, p.2)
    (compile_answers (view c.args.self.now) (view c.take.new.self) (Err c.in_err-counts.field-0.0) c.take.ensures
    (ap (λ r. r.now) c.replace-book.ensures.value) refl c.in_err-counts.ensures c.compile_book-answer.auto.out)

pub returns : goal.returns
returns g c =
    compile_answers (view c.args.self.now) (view c.take.new.self) (Ok c.in_ok-counts.counts) c.take.ensures
    (ap (λ r. r.now) c.replace-book.ensures.value) refl c.in_ok-counts.ensures c.compile_book-answer.auto.out
