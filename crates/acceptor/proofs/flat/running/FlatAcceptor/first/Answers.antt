use Rattle.acceptor.specs.Flats.{acceptor_of}
use Rattle.acceptor.proofs.Resting.{first_rests}
use Rattle.acceptor.proofs.flat.running.FlatAcceptor.first.Goals as goal

pub returns-clause-begins : goal.returns-clause-begins
returns-clause-begins c = λ fit. first_rests (acceptor_of c.args.self.now) fit c.first_set.result.words c.first_set.result.row (c.first_set.ensures fit)
