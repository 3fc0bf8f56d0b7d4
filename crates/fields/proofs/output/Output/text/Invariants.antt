use Rattle.std.proofs.Common.{take}
use Rattle.fields.specs.Putting.{Puts}
use Rattle.fields.proofs.output.Output.text.Given as goal

abbrev pub invariant-loop-byte : goal.invariant-loop-byte
invariant-loop-byte l = Puts l.initial.self (take l.byte-index l.bytes) l.self
