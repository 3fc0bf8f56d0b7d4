use Rattle.std.proofs.Common.{◌-◌}
use Rattle.std.specs.List.{AllByRecursion}
use Rattle.fields.specs.Flaws.{Passes, flags}
use Rattle.fields.proofs.check.check_flags.Given as goal

abbrev pub invariant-loop-at : goal.invariant-loop-at
invariant-loop-at l = AllByRecursion (Passes l.file) (flags l.start (l.at - l.start))
