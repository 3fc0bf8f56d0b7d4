use Rattle.std.proofs.Common.{arith}
use Rattle.pga.proofs.Listed.{sizes, text_puts}
use Rattle.pga.proofs.listing.put_text.Goals as goal

pub put_rows-requires-clause-few : goal.put_rows-requires-clause-few
put_rows-requires-clause-few c =
    let s = sizes c.args.file.now c.args.header c.requires.sound in
    let long = s.long in
    (omega arith, s.few_arcs, omega arith)

pub put_rows-requires-2-clause-few : goal.put_rows-requires-2-clause-few
put_rows-requires-2-clause-few c =
    let s = sizes c.args.file.now c.args.header c.requires.sound in
    let long = s.long in
    (omega arith, s.few_jumps, omega arith)

pub returns : goal.returns
returns c =
    text_puts c.args.counts c.args.file.now c.args.header (sizes c.args.file.now c.args.header c.requires.sound)
    c.args.out.now c.put_line.new.out c.put_rows.new.out _ c.put_line.ensures.puts c.put_rows.ensures.puts c.put_rows-2.ensures.puts
