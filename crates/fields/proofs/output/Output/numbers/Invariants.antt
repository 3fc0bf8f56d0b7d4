use Rattle.std.proofs.Common.{take}
use Rattle.std.specs.List.{flat_map}
use Rattle.book.specs.Files.{bytes_of}
use Rattle.fields.specs.Putting.{Puts}
use Rattle.fields.proofs.output.Output.numbers.Given as goal

abbrev pub invariant-loop-number : goal.invariant-loop-number
invariant-loop-number l = Puts l.initial.self (flat_map bytes_of (take l.number-index l.numbers)) l.self
