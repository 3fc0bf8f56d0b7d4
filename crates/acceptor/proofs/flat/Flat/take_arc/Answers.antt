use Rattle.acceptor.specs.Flats.{acceptor_of}
use Rattle.acceptor.proofs.Fitting.{small_arcs}
use Rattle.acceptor.proofs.Leading.{target_added}
use Rattle.acceptor.proofs.flat.Flat.take_arc.Goals as goal

pub returns-in-Some : goal.returns-in-Some
returns-in-Some c = λ fit.
    let found = c.in-Some.ensures fit.arcs_rise in
    target_added c.insert.ensures found.0 found.1 (small_arcs (acceptor_of c.args.self.now) fit _ _ _ found.0)
