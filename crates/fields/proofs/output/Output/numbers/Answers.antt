use Rattle.std.proofs.Common.{take, arith}
use Rattle.std.proofs.lemmas.List.{length-take-le}
use Rattle.book.specs.Files.{bytes_of}
use Rattle.book.proofs.Numbers.{length_bytes}
use Rattle.fields.proofs.Putting.{puts_more}
use Rattle.fields.proofs.output.Output.numbers.Goals as goal

pub number-requires : goal.number-requires
number-requires c =
    let ns = c.args.numbers.now in
    let i = c.loop-number.number-index in
    omega (arith, c.loop-number.invariant.put.ends, length_bytes (take i ns), length-take-le i ns (omega arith))

pub loop-number-preserved : goal.loop-number-preserved
loop-number-preserved c =
    puts_more c.args.self.now bytes_of c.args.numbers.now c.loop-number.number-index _ _ 0 (omega arith) c.loop-number.invariant c.number.ensures
