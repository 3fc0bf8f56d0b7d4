use Rattle.acceptor.specs.Flats.{acceptor_of}
use Rattle.pga.specs.Files.{Fit}
use Rattle.table.specs.Sets.{members}
use Rattle.determinising.proofs.Stepping.{reaches}
use Rattle.determinising.proofs.space.NodeSetsSpace.reach.Goals as goal

pub returns-clause-answer : goal.returns-clause-answer
returns-clause-answer c = λ es k to fit at goes.
    let f = acceptor_of c.args.self.now.flat in
    reaches f fit (λ _. Fit f) es (members c.args.e.words) c.args.x to goes c.word_set.result (c.word_set.ensures fit) fit fit
