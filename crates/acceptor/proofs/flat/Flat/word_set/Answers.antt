use Rattle.acceptor.specs.Flats.{acceptor_of}
use Rattle.acceptor.proofs.Leading.{is_after}
use Rattle.acceptor.proofs.flat.Flat.word_set.Goals as goal

pub returns : goal.returns
returns c = λ fit.
    is_after (acceptor_of c.args.self.now) fit c.spread.result.words c.spread.result.row c.args.set.now.words c.over_word.result.words c.args.word
    c.args.set.now.row (c.over_word.ensures fit) (c.spread.ensures fit)
