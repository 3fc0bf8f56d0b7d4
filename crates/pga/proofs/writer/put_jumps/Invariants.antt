use Rattle.std.proofs.Common.{take}
use Rattle.fields.specs.Putting.{Puts}
use Rattle.pga.specs.Writing.{pairs}
use Rattle.pga.proofs.Arcs.{jump_bytes}
use Rattle.pga.proofs.writer.put_jumps.Given as goal

abbrev pub invariant-loop-j : goal.invariant-loop-j
invariant-loop-j l = Puts l.initial.out (jump_bytes (pairs (take l.j-index l.jumps))) l.out
