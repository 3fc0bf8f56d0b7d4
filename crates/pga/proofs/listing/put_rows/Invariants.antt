use Rattle.std.proofs.Common.{◌+◌, ◌*◌, ◌≤◌}
use Rattle.std.specs.List.{flat_map}
use Rattle.fields.specs.Putting.{Puts}
use Rattle.pga.specs.Reading.{rows_from}
use Rattle.pga.specs.Listing.{line}
use Rattle.pga.proofs.listing.put_rows.Given as goal

abbrev pub invariant-loop-k : goal.invariant-loop-k
invariant-loop-k g l =
    record {
      puts : Puts l.initial.out (flat_map line (rows_from l.file l.start g.row.N l.k)) l.out;
      short : l.out.at ≤ l.initial.out.at + 128 * l.k;
    }
