use Rattle.std.proofs.Common.{[], ◌∷◌, ◌++◌, refl, ap, ◌∙◌}
use Rattle.std.proofs.lemmas.Result.{err_from_is_err_and}
use Rattle.promise.specs.Steps.Step.{no_file, no_place}
use Rattle.session.specs.View.{kind_of, view}
use Rattle.session.proofs.Answering.{answers}
use Rattle.session.proofs.Opening.{open_answers}
use Rattle.session.proofs.Turning.{moved_to}
use Rattle.session.proofs.Views.{added_by}
use Rattle.session.proofs.session.Session.open.Goals as goal

pub returns-in_err-check : goal.returns-in_err-check
returns-in_err-check c =
    let p = err_from_is_err_and c.from_residual.result c.from_residual.ensures.1 in
    rw (p.1, p.2) (answers (λ i. no_file c.in_err-check.ensures refl))

pub returns-in_default : goal.returns-in_default
returns-in_default c =
    let f = c.in_ok-check.ensures in
    let a = c.in_default.ensures in
    answers (λ i. no_place f.0 f.1 a.added.0 (moved_to (view c.args.self.now) a.added.1 a.places))

pub returns : goal.returns
returns c =
    let s = view c.args.self.now in
    let a = c.in-Some.ensures in
    open_answers (kind_of c.args.kind) s _ _ c.in_ok-check.ensures a.added.1 a.added.0
    (c.set_open.ensures ∙ added_by (kind_of c.args.kind) s _ _ (a.added.2 ∙ ap (λ u. s.turns ++ (u ∷ [])) c.unbegun.ensures) a.places)
