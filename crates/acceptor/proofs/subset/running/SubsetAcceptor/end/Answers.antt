use Rattle.std.proofs.Common.{ap}
use Rattle.acceptor.specs.Subsets.{determined_of, number_of}
use Rattle.acceptor.proofs.Stated.{end_by}
use Rattle.acceptor.proofs.subset.running.SubsetAcceptor.end.Goals as goal

pub returns-in-Some : goal.returns-in-Some
returns-in-Some c = λ fit.
    end_by (determined_of c.args.self.now) (number_of c.args.at) c.in-Some.state.0 c.is_final.result (ap number_of c.in-Some.is) c.is_final.ensures
