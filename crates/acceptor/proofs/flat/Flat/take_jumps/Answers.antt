use Rattle.std.proofs.Common.{arith}
use Rattle.table.proofs.Lists.{stands_below}
use Rattle.acceptor.specs.Rows.{jumps_of}
use Rattle.acceptor.proofs.Growing.{all_before, jump_taken, taken_more, taken_all}
use Rattle.acceptor.proofs.flat.Flat.take_jumps.Goals as goal

pub returns-then-from-node-clause-reached : goal.returns-then-from-node-clause-reached
returns-then-from-node-clause-reached c = λ o.
    let jumps = jumps_of c.args.self.now.jumps.bytes.now in
    taken_all jumps c.args.node.0 c.loop-row.row c.loop-row.reached.set.words (c.loop-row.invariant.1 o)
    (all_before jumps o (c.seek-row.ensures.parted o) c.loop-row.row c.key-from.result (omega arith) c.key-from.ensures c.if-from-node.true)

pub loop-row-preserved : goal.loop-row-preserved
loop-row-preserved c =
    let jumps = jumps_of c.args.self.now.jumps.bytes.now in
    let (from, to) = c.key-from.result in (
      jump_taken jumps c.args.node.0 c.loop-row.row from to c.key-from.ensures c.if-from-node.false c.loop-row.invariant.0 c.add.ensures.grown,
      λ o. taken_more jumps c.args.node.0 c.loop-row.row from to c.key-from.ensures c.add.ensures.grown c.add.ensures.reached (c.loop-row.invariant.1 o),
    )

pub returns-clause-reached : goal.returns-clause-reached
returns-clause-reached c = λ o.
    let jumps = jumps_of c.args.self.now.jumps.bytes.now in
    taken_all jumps c.args.node.0 c.loop-row.row c.loop-row.reached.set.words (c.loop-row.invariant.1 o)
    (λ j to s. let b = stands_below jumps j _ s in omega (arith, c.count-row-end.ensures, c.loop-row-test.false))
