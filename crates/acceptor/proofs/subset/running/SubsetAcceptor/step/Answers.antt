use Rattle.std.proofs.Common.{Some, None, ap}
use Rattle.acceptor.specs.Subsets.{determined_of, number_of}
use Rattle.acceptor.proofs.Stated.{goes_by, rests_by}
use Rattle.acceptor.proofs.subset.running.SubsetAcceptor.step.Goals as goal

pub returns-in_err-to-clause-goes : goal.returns-in_err-to-clause-goes
returns-in_err-to-clause-goes c =
    rw c.from_residual-in_err-to.ensures
    (λ fit. goes_by (determined_of c.args.self.now) c.args.word (ap number_of c.in_ok-state.was) None (c.in_err-to.ensures fit.arcs_rise))

pub returns-clause-goes : goal.returns-clause-goes
returns-clause-goes c = λ fit.
    goes_by (determined_of c.args.self.now) c.args.word (ap number_of c.in_ok-state.was) (Some c.in_ok-to.to) (c.in_ok-to.ensures fit.arcs_rise)

pub returns-clause-steps : goal.returns-clause-steps
returns-clause-steps c = λ fit.
    rests_by (determined_of c.args.self.now) c.args.word (ap number_of c.in_ok-state.was) (Some c.in_ok-to.to) (c.in_ok-to.ensures fit.arcs_rise)
