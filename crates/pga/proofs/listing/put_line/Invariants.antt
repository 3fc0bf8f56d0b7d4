use Rattle.std.proofs.Common.{take}
use Rattle.fields.specs.Putting.{Puts}
use Rattle.pga.proofs.Text.{parted}
use Rattle.pga.proofs.listing.put_line.Given as goal

abbrev pub invariant-loop-i : goal.invariant-loop-i
invariant-loop-i l = Puts l.initial.out (parted (take l.i l.numbers)) l.out
