use Rattle.std.proofs.Common.{◌≡◌, length, refl, ◌∙◌, arith, length-set}
use Rattle.std.proofs.lemmas.Result.{err_from_is_err_and}
use Rattle.finding.specs.Finding.{within}
use Rattle.finding.specs.Finding.Refused.{empty}
use Rattle.finding.proofs.Visiting.{same_bounds}
use Rattle.finding.proofs.Starting.{begins, ready_first, goes_on, refuses, whole_answers, refused_answers}
use Rattle.finding.proofs.order.number_all.Given as given
use Rattle.finding.proofs.order.number_all.Goals.{After-visit}
use Rattle.finding.proofs.order.number_all.Goals as goal

pub returns-then-rows-eq0-clause-answer : goal.returns-then-rows-eq0-clause-answer
returns-then-rows-eq0-clause-answer g c = refused_answers (empty c.if-rows-eq0.true)

pub loop-i-init : goal.loop-i-init
loop-i-init g c =
    let a = c.args in
    record {
      source = refl;
      held = record {
        entries_fit = simp length-set (omega arith);
        moves_fit = omega arith;
        is_ready = ready_first a.rows.now a.start (omega arith) (g.S.Space.ready a.space.now) c.requires.ready;
      };
      in_range = omega arith;
      finding = begins a.rows.now a.start (omega arith) (g.S.Space.thing a.space.now) g.N.Number.value a.moves.now _ _;
    }

-- the loop keeps the bounds
bounds : (g : given.Over) (c : After-visit g)
    → within (g.S.Space.sought (g.S.Space.source c.loop-i.space)) (length c.loop-i.rows) (length c.loop-i.moves)
    ≡ within (g.S.Space.sought (g.S.Space.source c.args.space.now)) (length c.args.rows.now) (length c.args.moves.now)
bounds g c = same_bounds g.S.Space.sought c.loop-i.invariant.source (c.loop-i.auto.rows ∙ length-set c.args.rows.now 0 c.args.start) c.loop-i.auto.moves

pub returns-in_err-found-clause-answer : goal.returns-in_err-found-clause-answer
returns-in_err-found-clause-answer g c =
    let p = err_from_is_err_and c.from_residual.result c.from_residual.ensures.1 in
    rw (p.1, p.2)
    (refused_answers (refuses c.loop-i.invariant.finding (bounds g (goal.at.returns-in_err-found-clause-answer g c).After-visit) c.in_err-found.ensures.turns))

pub loop-i-preserved : goal.loop-i-preserved
loop-i-preserved g c =
    let k = c.in_ok-found.ensures in
    record {
      source = c.visit.ensures.source ∙ c.loop-i.invariant.source;
      held = k.held;
      in_range = omega arith;
      finding = goes_on c.loop-i.invariant.finding (bounds g (goal.at.loop-i-preserved g c).After-visit) k.turns;
    }

pub returns-clause-answer : goal.returns-clause-answer
returns-clause-answer g c =
    let i = c.loop-i.invariant in whole_answers i.finding i.held.entries_fit (omega arith)
