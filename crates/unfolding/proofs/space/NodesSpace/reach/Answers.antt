use Rattle.std.proofs.Common.{List}
use Rattle.theory.proofs.Lists.{some_one}
use Rattle.theory.proofs.Unfolding.{onward_made}
use Rattle.policy.specs.Classes.{Tracks}
use Rattle.unfolding.specs.Moves.{state_arrows, Ordered}
use Rattle.unfolding.specs.Nodes.{class_number, node_of}
use Rattle.unfolding.specs.declared.node.Node.{Node}
use Rattle.unfolding.proofs.Noding.{no_room, reached}
use Rattle.unfolding.proofs.space.NodesSpace.reach.Goals as goal

-- the class after has no place
pub returns-in_err-class-clause-answer : goal.returns-in_err-class-clause-answer
returns-in_err-class-clause-answer g c =
    let policy = c.args.self.now.policy.now in
    let m = g.P.Policy.meaning (g.P.Policy.kind policy) in
    rw c.from_residual.ensures
    (λ es k t r at e.
    let q = some_one (onward_made m _ (node_of (g.P.Policy.held policy) c.args.e) c.args.x c.target-state.ensures) e in
    rw (← q)
    (no_room m _ _ (g.met.P.Policy.distinct policy r.0) es r.1 k c.args.e at c.args.x c.target-state.result c.in_err-class.ensures.taken))

pub returns-clause-answer : goal.returns-clause-answer
returns-clause-answer g c es k t r at e =
    let policy = c.args.self.now.policy.now in
    let m = g.P.Policy.meaning (g.P.Policy.kind policy) in
    let q = some_one (onward_made m _ (node_of (g.P.Policy.held policy) c.args.e) c.args.x c.target-state.ensures) e in
    let ready : List Node → Type 0 = λ fs.
    g.P.Policy.ready c.next.new.self × Tracks class_number (g.P.Policy.held c.next.new.self) fs
    × Ordered (state_arrows c.args.self.now.moves.now) c.args.self.now.symbols in
    rw (← q)
    (reached m _ _ (g.met.P.Policy.distinct policy r.0) es r.1 k c.args.e at c.args.x c.target-state.result c.in_ok-class.class
    c.in_ok-class.ensures.taken ready (λ fs w. (c.in_ok-class.ensures.ready, w, r.2)))
