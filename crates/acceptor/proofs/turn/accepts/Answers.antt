use Rattle.std.proofs.lemmas.List.{take_more}
use Rattle.std.proofs.lemmas.Result.{err_from_is_err_and}
use Rattle.acceptor.proofs.Sentences.{first_unknown, refused_word, taken_stands, judged_whole}
use Rattle.acceptor.proofs.turn.accepts.Goals as goal

pub returns-in_err-tell-2 : goal.returns-in_err-tell-2
returns-in_err-tell-2 g c =
    let r = c.from_residual-in_err-tell-2 in
    let p = err_from_is_err_and r.result r.ensures.1 in
    let i = c.loop-word.invariant in
    let u = refused_word i c.in_err-tell-2.ensures in
    rw (p.1, p.2) (_, u.0, first_unknown (g.A.Acceptor.words c.args.acceptor.now) c.args.sentence.now c.loop-word.word-index c.loop-word-test.true i.known u.1)

pub loop-word-preserved : goal.loop-word-preserved
loop-word-preserved g c =
    rw (take_more c.args.sentence.now c.loop-word.word-index 0 c.loop-word-test.true)
    (taken_stands c.loop-word.invariant c.in_ok-tell-2.ensures)

pub returns : goal.returns
returns g c =
    judged_whole c.args.sentence.now c.loop-word.word-index c.in-Judged.verdict
    c.loop-word-test.false c.loop-word.invariant c.in_ok-verdict.ensures c.in-Judged.is
