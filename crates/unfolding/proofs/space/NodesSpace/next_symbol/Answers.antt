use Rattle.unfolding.specs.Nodes.{node_of}
use Rattle.unfolding.proofs.Noding.{least_move}
use Rattle.unfolding.proofs.space.NodesSpace.next_symbol.Goals as goal

pub returns : goal.returns
returns g c =
    let policy = c.args.self.now.policy.now in
    let kind = g.P.Policy.kind policy in
    let (es, k, r, at) = c.requires in
    least_move (g.P.Policy.meaning kind) (g.P.Policy.room kind) _ _ r.2 (node_of (g.P.Policy.held policy) c.args.e) c.args.from _ c.least_symbol.ensures
