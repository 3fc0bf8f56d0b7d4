use Rattle.std.proofs.Common.{length, refl, ◌∙◌, arith}
use Rattle.std.proofs.lemmas.Result.{err_from_is_err_and}
use Rattle.table.proofs.Lists.{stands_read}
use Rattle.finding.specs.Finding.{within, stands}
use Rattle.finding.specs.Finding.Turns.{stay}
use Rattle.finding.proofs.Visiting.{AtVisit, same_bounds, moves_there, on, stops, over}
use Rattle.finding.proofs.order.visit.Given as given
use Rattle.finding.proofs.order.visit.Goals.{After-index-rows-i}
use Rattle.finding.proofs.order.visit.Goals as goal

pub loop-y-init : goal.loop-y-init
loop-y-init g c = record { source = refl; held = c.requires.held; more = omega arith; in_symbols = omega arith; turns = stay }

-- the entry that was read stands among those found, and the loop has come to it by turns
at_visit : (g : given.Over) (c : After-index-rows-i g)
    → AtVisit (g.S.Space.sought (g.S.Space.source c.loop-y.space)) (g.S.Space.thing c.loop-y.space) g.N.Number.value
    c.loop-y.rows c.loop-y.moves c.loop-y.found c.args.i c.loop-y.x c.index-rows-i.result
    (within (g.S.Space.sought (g.S.Space.source c.args.space.now)) (length c.args.rows.now) (length c.args.moves.now))
    (stands (g.S.Space.thing c.args.space.now) g.N.Number.value c.args.rows.now c.args.found.entries c.args.moves.now c.args.found.moves c.args.i 0)
at_visit g c =
    let v = c.loop-y.invariant in
    record {
      here = stands_read c.loop-y.rows _ _ _ (omega (arith, v.more, c.requires.here)) v.held.entries_fit c.index-rows-i.is;
      in_symbols = v.in_symbols;
      bounds = same_bounds g.S.Space.sought v.source c.loop-y.auto.rows c.loop-y.auto.moves;
      turns = v.turns;
    }

pub next_symbol-requires : goal.next_symbol-requires
next_symbol-requires g c = (_, _, c.loop-y.invariant.held.is_ready, (at_visit g (goal.at.next_symbol-requires g c).After-index-rows-i).here)

pub take_move-requires-clause-moves : goal.take_move-requires-clause-moves
take_move-requires-clause-moves g c = moves_there (at_visit g (goal.at.take_move-requires-clause-moves g c).After-index-rows-i) c.in-Some.ensures.3

pub returns-in_err-found-clause-turns : goal.returns-in_err-found-clause-turns
returns-in_err-found-clause-turns g c =
    let p = err_from_is_err_and c.from_residual.result c.from_residual.ensures.1 in
    rw (p.1, p.2) (stops (at_visit g (goal.at.returns-in_err-found-clause-turns g c).After-index-rows-i) c.in-Some.ensures c.in_err-found.ensures.turn)

pub loop-y-preserved : goal.loop-y-preserved
loop-y-preserved g c =
    let k = c.in_ok-found.ensures in
    let source = c.take_move.ensures.source in
    record {
      source = source ∙ c.loop-y.invariant.source;
      held = k.held;
      more = omega arith;
      in_symbols = rw source (omega (arith, c.in-Some.ensures.3.0));
      turns = on (at_visit g (goal.at.loop-y-preserved g c).After-index-rows-i) c.in-Some.ensures k.turn;
    }

pub returns-clause-turns : goal.returns-clause-turns
returns-clause-turns g c = over (at_visit g (goal.at.returns-clause-turns g c).After-index-rows-i) c.in_default.ensures
