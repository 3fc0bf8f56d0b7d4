use Rattle.std.proofs.Common.{◌+◌, get_or, take, arith}
use Rattle.std.proofs.lemmas.List.{length-take-le, length-map, map_more}
use Rattle.flattening.specs.Orders.{pair}
use Rattle.fields.proofs.Arcs.{puts_row}
use Rattle.pga.specs.Files.{jump_numbers}
use Rattle.pga.specs.Writing.{pairs}
use Rattle.pga.proofs.Arcs.{no_jump, length_jump_bytes}
use Rattle.pga.proofs.writer.put_jumps.Goals as goal

pub numbers-requires : goal.numbers-requires
numbers-requires c =
    let js = c.args.jumps.now in let i = c.loop-j.j-index in
    omega (
      arith,
      length_jump_bytes (pairs (take i js)),
      length-map (take i js) pair,
      length-take-le i js (omega arith),
    )

pub loop-j-preserved : goal.loop-j-preserved
loop-j-preserved c =
    let js = c.args.jumps.now in let i = c.loop-j.j-index in
    puts_row jump_numbers (pairs (take i js)) (pair (get_or js i no_jump)) c.args.out.now c.loop-j.out _ (pairs (take (i + 1) js))
    (map_more pair js i no_jump c.loop-j-test.true) c.loop-j.invariant c.numbers.ensures
