use Rattle.std.proofs.Common.{ℕ, List, ap, rules}
use Rattle.std.proofs.lemmas.Result.{err_from_is_err_and}
use Rattle.finding.specs.Numbered.{Arrow}
use Rattle.unfolding.proofs.Answering.{first_is, first_tracks, as_limits, refuses, unfolds}
use Rattle.unfolding.proofs.unfold.unfold.Goals as goal

pub number-requires-clause-ready : goal.number-requires-clause-ready
number-requires-clause-ready g c = (c.clear.ensures.ready, first_tracks c.clear.ensures.held, c.requires)

pub returns-in_err-count-clause-unfolds : goal.returns-in_err-count-clause-unfolds
returns-in_err-count-clause-unfolds g c =
    let start = first_is (g.P.Policy.meaning (g.P.Policy.kind c.args.policy.now)) c.clear.ensures.held in
    let answer = as_limits g.P.Policy.meaning g.P.Policy.room _ _ _ _ _ _ _ _ c.clear.ensures.kind start c.in_err-count.ensures.answer in
    let p = err_from_is_err_and c.from_residual.result c.from_residual.ensures.1 in
    rw (p.1, p.2) (refuses _ _ _ _ _ _ _ answer.found)

pub returns-clause-unfolds : goal.returns-clause-unfolds
returns-clause-unfolds g c =
    let start = first_is (g.P.Policy.meaning (g.P.Policy.kind c.args.policy.now)) c.clear.ensures.held in
    let found = c.in_ok-count.ensures.held in
    let answer = as_limits g.P.Policy.meaning g.P.Policy.room _ _ _ _ _ _ _ _ c.clear.ensures.kind start c.in_ok-count.ensures.answer in
    let whole = unfolds _ _ _ _ _ _ _ _ _ _ answer found.entries_fit found.moves_fit found.is_ready.1 c.number.auto.rows c.number.auto.moves in
    let lent = ap (λ (s : List Arrow × ℕ × g.P.Policy.Kind × ℕ). s.3) c.number.ensures.source in
    search rules
