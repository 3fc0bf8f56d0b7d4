use Rattle.std.proofs.lemmas.Result.{err_from_is_err_and}
use Rattle.table.proofs.Lists.{stands_below}
use Rattle.session.specs.View.{view}
use Rattle.session.proofs.Turning.{told_step, fault_step, unusable_step, moved_to}
use Rattle.session.proofs.session.Session.tell_turn.Goals as goal

pub returns-in_default-clause-answered : goal.returns-in_default-clause-answered
returns-in_default-clause-answered c = unusable_step (view c.args.self.now) c.args.number c.args.event c.in_default.ensures

pub returns-in_err-told-clause-answered : goal.returns-in_err-told-clause-answered
returns-in_err-told-clause-answered c =
    let p = err_from_is_err_and c.from_residual.result c.from_residual.ensures.1 in
    rw (p.1, p.2) (fault_step (view c.args.self.now) c.args.number c.in-Some.at c.args.event _ c.in-Some.ensures c.in_err-told.ensures)

pub stand-requires : goal.stand-requires
stand-requires c = stands_below (view c.args.self.now).turns c.args.number _ c.in-Some.ensures

pub returns-clause-answered : goal.returns-clause-answered
returns-clause-answered c =
    told_step c.args.number c.in-Some.ensures c.in_ok-told.ensures (moved_to (view c.args.self.now) c.stand.ensures.turns c.stand.ensures.places)
