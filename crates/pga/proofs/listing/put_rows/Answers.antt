use Rattle.std.proofs.Common.{◌+◌, ◌*◌, subst, arith}
use Rattle.fields.specs.Putting.{Puts}
use Rattle.pga.specs.Reading.{row_numbers}
use Rattle.pga.specs.Listing.{line}
use Rattle.pga.proofs.Text.{row_puts}
use Rattle.pga.proofs.listing.put_rows.Goals as goal

pub loop-k-preserved : goal.loop-k-preserved
loop-k-preserved g c =
    let i = c.loop-k.invariant in
    let here = subst (λ ns. Puts c.loop-k.out (line ns) c.put_line.new.out) c.row_at.ensures c.put_line.ensures.puts in
    record {
      puts = row_puts line (λ k. row_numbers c.args.file.now (c.args.start + 2 * g.row.N * k) g.row.N) c.loop-k.k c.args.out.now c.loop-k.out _ i.puts here;
      short = omega (arith, i.short, c.put_line.ensures.short);
    }
