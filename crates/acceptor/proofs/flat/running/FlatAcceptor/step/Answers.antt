use Rattle.acceptor.specs.Flats.{acceptor_of}
use Rattle.acceptor.proofs.Resting.{next_rests}
use Rattle.acceptor.proofs.flat.running.FlatAcceptor.step.Goals as goal

pub returns-clause-steps : goal.returns-clause-steps
returns-clause-steps c = λ fit.
    let next = c.word_set.result in
    next_rests (acceptor_of c.args.self.now) fit c.args.at.words c.args.at.row next.words c.args.word next.row (c.word_set.ensures fit)
