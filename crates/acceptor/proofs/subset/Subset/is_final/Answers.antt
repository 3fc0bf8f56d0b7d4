use Rattle.acceptor.proofs.Stated.{final_decided, not_final}
use Rattle.acceptor.proofs.subset.Subset.is_final.Goals as goal

pub returns-in-Some : goal.returns-in-Some
returns-in-Some c =
    let h = c.in-Some.ensures.lookup in rw (h.3.1 0) (final_decided c.args.self.now.finals.now c.args.state.0 h.3.0)

pub returns-in-None : goal.returns-in-None
returns-in-None c = not_final c.args.self.now.finals.now c.args.state.0 c.in-None.ensures.lookup.3
