use Rattle.acceptor.specs.Flats.{acceptor_of}
use Rattle.table.specs.Sets.{members}
use Rattle.determinising.proofs.Stepping.{least_move}
use Rattle.determinising.proofs.space.NodeSetsSpace.next_symbol.Goals as goal

pub returns : goal.returns
returns c =
    let s = c.args.self.now.flat in
    let (es, k, fit, at) = c.requires in
    least_move (acceptor_of s) fit (members c.args.e.words) c.args.from _ (c.next_word.ensures fit)
